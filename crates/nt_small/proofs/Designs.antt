-- The design of a source is well formed.
use Rattle.std.proofs.Common.{◌≡◌, ◌↔◌, ℕ, zero, suc, ◌+◌, ◌<◌, ◌≤◌, List, [], ◌∷◌, length, map, Option, Some, None, slice_get, option_map, option_to_list, unwrap_or, inr, refl, sym, ◌∙◌, ap, subst, arith}
use Rattle.std.specs.List.{Contains, flat_map, range_with_len}
use Rattle.std.proofs.lemmas.List.{length-map}
use Rattle.std.proofs.lemmas.List.Elements.{Contains-append_right}
use Rattle.std.proofs.lemmas.Option.{slice_get-map}
use Rattle.nt_design.specs.Shapes.{target_shape, on_shape, slot_shape}
use Rattle.nt_design.specs.WellFormed.{IsDesign, IsNet, IsAssign, IsChain, IsObject, Drives, Assigns, called_by, design_scope, named_objects, scope_with}
use Rattle.nt_design.specs.Plain.{IsPlain, IsConstantDriver}
use Rattle.nt_design.specs.declared.design.Design.{Design}
use Rattle.nt_design.specs.declared.object.Net.{Net}
use Rattle.nt_design.specs.declared.object.NetKind.TheVariants.{Unresolved}
use Rattle.nt_design.specs.declared.object.Object.{Object}
use Rattle.nt_design.specs.declared.object.Object.TheVariants as object
use Rattle.nt_design.proofs.Filled.{int_filled}
use Rattle.nt_design.proofs.Constants.{shape_const, time_const, reads_const}
use Rattle.nt_design.specs.declared.target.Target.TheVariants.{Slot, Var as VarTarget}
use Rattle.nt_design.specs.declared.process.Assign.{Assign}
use Rattle.nt_small.specs.Grammar.{Source, Item, Declare, Drive, declared_nets, driven_nets}
use Rattle.nt_small.specs.Elaboration.{int_leaf, int_value, number_of_digits, position_of, net_of_name, assigns_of_item, assign_of_drive, design_of}
use Rattle.nt_small.specs.Tables.{AreSound}
use Rattle.nt_small.proofs.Positions.{Contains-from_at, at_from_Contains, few_distinct}
use Rattle.nt_small.proofs.Naming.{at_position, position_there, position_distinct}
use Rattle.nt_small.proofs.Gathering.{length-assigns}
use Rattle.nt_small.proofs.Scopes.{all_scoped, all_named}

at_none : {X : Type 0} (x : X) → None ≡ Some x → ⊥
at_none x h = cc

no_member : (x : ℕ) → Contains [] x → ⊥
no_member x h = grind arith

-- a slot is no variable
slot_is_no_variable : (net v : ℕ) → Slot net 0 0 0 ≡ VarTarget v [] → ⊥
slot_is_no_variable net v h = cc

-- the leaves of a whole slot are those of its net
shape_found : (d : Design) (n : ℕ) (net : Net) → slice_get d.nets n ≡ Some net → target_shape (scope_with d [] None) (Slot n 0 0 0) ≡ Some net.shape
shape_found d n net at = ap (λ o. on_shape o (slot_shape 0 0)) (slice_get-map (λ (x : Net). x.shape) d.nets n ∙ ap (option_map (λ (x : Net). x.shape)) at)

module _ {X Y : Type 0} (f : X → Y) where
  -- an element of a map is the image of one
  at_map : (xs : List X) (k : ℕ) (y : Y) → slice_get (map f xs) k ≡ Some y → (x : X) × (slice_get xs k ≡ Some x) × (f x ≡ y)
  at_map [] k y at = absurd (at_none y at)
  at_map (x ∷ xs) zero y at = let e : f x ≡ y = cc in (x, refl, e)
  at_map (x ∷ xs) (suc k) y at = at_map xs k y at

-- each assignment is of the driven net of its number
at_assigns : (names : List (List ℕ)) (items : List Item) (a : ℕ) (assign : Assign) → slice_get (flat_map (assigns_of_item names) items) a ≡ Some assign → (net : List ℕ) × (digits : List ℕ) × (slice_get (driven_nets items) a ≡ Some net) × (assign_of_drive names net digits ≡ assign)
at_assigns names [] a assign at = absurd (at_none assign at)
at_assigns names (Declare net ∷ items) a assign at = at_assigns names items a assign at
at_assigns names (Drive net digits ∷ items) zero assign at =
    let e : assign_of_drive names net digits ≡ assign = cc in (net, digits, refl, e)
at_assigns names (Drive net digits ∷ items) (suc a) assign at = at_assigns names items a assign at

-- and each driven net has its assignment
assign_at : (names : List (List ℕ)) (items : List Item) (a : ℕ) (net : List ℕ) → slice_get (driven_nets items) a ≡ Some net → (digits : List ℕ) × (slice_get (flat_map (assigns_of_item names) items) a ≡ Some (assign_of_drive names net digits))
assign_at names [] a net at = absurd (at_none net at)
assign_at names (Declare other ∷ items) a net at = assign_at names items a net at
assign_at names (Drive other digits ∷ items) zero net at =
    let e : other ≡ net = cc in (digits, ap (λ n. Some (assign_of_drive names n digits)) e)
assign_at names (Drive other digits ∷ items) (suc a) net at = assign_at names items a net at

one_at : (o : Option ℕ) (slot a : ℕ) → slice_get (option_to_list o) slot ≡ Some a → (slot ≡ 0) × (o ≡ Some a)
one_at None slot a at = absurd (at_none a at)
one_at (Some b) zero a at = (refl, at)
one_at (Some b) (suc slot) a at = absurd (at_none a at)

at_most_one : (o : Option ℕ) → length (option_to_list o) ≤ 1
at_most_one None = omega arith
at_most_one (Some b) = omega arith

-- a chain of calls in a design without functions
no_chain : (d : Design) (fs : List ℕ) → d.functions ≡ [] → IsChain d fs → length fs ≤ 17
no_chain d [] none chain = omega arith
no_chain d (f ∷ []) none chain = omega arith
no_chain d (f ∷ g ∷ fs) none chain = absurd (no_member g (subst (λ functions. Contains (called_by (slice_get functions f)) g) none chain.0))

-- a number of a range is the net of that number
net_in_range : (from count n : ℕ) → n < count → Contains (map (λ n. object.Net n) (range_with_len from count)) (object.Net (from + n))
net_in_range from zero n below = absurd (omega (arith, below))
net_in_range from (suc count) zero below =
    let e : from ≡ from + 0 = omega arith in
    (0, omega arith, ap (λ k. object.Net k) e)
net_in_range from (suc count) (suc n) below =
    let e : from + 1 + n ≡ from + suc n = omega arith in
    Contains-append_right (object.Net from ∷ []) (map (λ n. object.Net n) (range_with_len ((from + 1)) count)) (object.Net (from + suc n))
    (subst (λ k. Contains (map (λ n. object.Net n) (range_with_len ((from + 1)) count)) (object.Net k)) e (net_in_range ((from + 1)) count n (omega (arith, below))))

-- a number drives a whole net
constant_driver : (names : List (List ℕ)) (net digits : List ℕ) → IsConstantDriver (assign_of_drive names net digits)
constant_driver names net digits = record {
  whole = (refl, refl);
  constant = (int_value (number_of_digits digits), refl);
  reads = refl;
}

module _ (s : Source) (sound : AreSound s.items) where
  is_net : (n : ℕ) (name : List ℕ) → slice_get (declared_nets s.items) n ≡ Some name → IsNet (design_of s) n (net_of_name s.top (driven_nets s.items) name)
  is_net n name at =
      let few = at_most_one (position_of name (driven_nets s.items)) in
      record { kind = few; driven = driven; few_drivers = omega arith }
    where
      driven : (slot a : ℕ) → slice_get (option_to_list (position_of name (driven_nets s.items))) slot ≡ Some a → Drives (design_of s) a n slot
      driven slot a there =
          let one = one_at (position_of name (driven_nets s.items)) slot a there in
          let assign = assign_at (declared_nets s.items) s.items a name (at_position name (driven_nets s.items) a one.1) in
          (assign_of_drive (declared_nets s.items) name assign.0, assign.1, (ap (λ o. unwrap_or o 0) (position_distinct (declared_nets s.items) n name sound.declared at), sym one.0))

  is_assign : (a : ℕ) (name digits : List ℕ) → slice_get (driven_nets s.items) a ≡ Some name → IsAssign (design_scope (design_of s)) (design_of s).nets a (assign_of_drive (declared_nets s.items) name digits)
  is_assign a name digits at =
      let known = position_there name (declared_nets s.items) (sound.listed name (Contains-from_at (driven_nets s.items) a name at)) in
      let net = net_of_name s.top (driven_nets s.items) in
      let there : slice_get (map net (declared_nets s.items)) known.0 ≡ Some (net name) =
      slice_get-map net (declared_nets s.items) known.0 ∙ ap (option_map net) (at_position name (declared_nets s.items) known.0 known.1) in
      let found : slice_get (map net (declared_nets s.items)) (unwrap_or (position_of name (declared_nets s.items)) 0) ≡ Some (net name) = ap (λ o. slice_get (map net (declared_nets s.items)) (unwrap_or o 0)) known.1 ∙ there in
      record {
        target = (net name, found, ap (λ o. slice_get (option_to_list o) 0) (position_distinct (driven_nets s.items) a name sound.driven at), inr (refl, refl));
        shape = (int_leaf ∷ [], shape_found (design_of s) (unwrap_or (position_of name (declared_nets s.items)) 0) (net name) found, shape_const (scope_with (design_of s) [] None) (int_value (number_of_digits digits)) (int_filled (number_of_digits digits)));
        no_time = time_const (int_value (number_of_digits digits));
        reads = λ o. subst (λ l. Contains [] o ↔ Contains l o) (sym (reads_const (int_value (number_of_digits digits)))) (λ c. c, λ c. c);
      }

  -- no assignment drives a variable
  no_variable : (a v : ℕ) → Assigns (design_of s) a v → ⊥
  no_variable a v assigns =
      let drive = at_assigns (declared_nets s.items) s.items a assigns.0 assigns.1 in
      slot_is_no_variable _ v (ap (λ (x : Assign). x.target) drive.3 ∙ assigns.2)

  pub design_is : length (declared_nets s.items) ≤ 16384 → IsDesign (design_of s)
  design_is few = record {
    nets = λ n net at. let name = at_map (net_of_name s.top (driven_nets s.items)) (declared_nets s.items) n net at in subst (λ m. IsNet (design_of s) n m) name.2 (is_net n name.0 name.1);
    vars = λ v var at. absurd (at_none var at);
    procs = λ p proc at. absurd (at_none proc at);
    assigns = λ a assign at. let drive = at_assigns (declared_nets s.items) s.items a assign at in subst (λ m. IsAssign (design_scope (design_of s)) (design_of s).nets a m) drive.3 (is_assign a drive.0 drive.1 drive.2);
    functions = λ f function at. absurd (at_none function at);
    writers = record {
      one_assign = λ a b v p q. absurd (no_variable a v p);
      no_write = λ a p v x y. no_variable a v x;
      one_writer = λ p q v sole x y. absurd (at_none sole.0 sole.1);
    };
    scopes = all_scoped (design_of s) s.top (declared_nets s.items) (sym (length-map (declared_nets s.items) (net_of_name s.top (driven_nets s.items))));
    named = names;
    unit = omega arith;
    small = record {
      nets = omega (arith, few, length-map (declared_nets s.items) (net_of_name s.top (driven_nets s.items)));
      vars = omega arith;
      processes = omega (arith, few, length-assigns (declared_nets s.items) s.items, few_distinct (driven_nets s.items) (declared_nets s.items) sound.driven (λ k x at. at_from_Contains (declared_nets s.items) x (sound.listed x (Contains-from_at (driven_nets s.items) k x at))));
      chains = λ fs chain. no_chain (design_of s) fs refl chain;
    };
  }
    where
      long : length (design_of s).nets ≡ length (declared_nets s.items)
      long = length-map (declared_nets s.items) (net_of_name s.top (driven_nets s.items))

      names : (o : Object) → IsObject (design_of s) o → Contains (named_objects (design_of s)) o
      names (object.Var v) below = absurd (omega (arith, below))
      names (object.Net n) below =
          let same : 0 + n ≡ n = omega arith in
          subst (λ l. Contains l (object.Net n)) (sym (all_named s.top (declared_nets s.items))) (subst (λ k. Contains (map (λ m. object.Net m) (range_with_len 0 (length (declared_nets s.items)))) (object.Net k)) same (net_in_range 0 (length (declared_nets s.items)) n (omega (arith, below, long))))

  pub design_plain : IsPlain (design_of s)
  design_plain = record {
    vars = refl;
    procs = refl;
    nets = λ n net at. let name = at_map (net_of_name s.top (driven_nets s.items)) (declared_nets s.items) n net at in subst (λ (m : Net). m.kind ≡ Unresolved) name.2 refl;
    assigns = λ a assign at. let drive = at_assigns (declared_nets s.items) s.items a assign at in subst IsConstantDriver drive.3 (constant_driver (declared_nets s.items) drive.0 drive.1);
    named = all_named s.top (declared_nets s.items) ∙ ap (λ k. map (λ n. object.Net n) (range_with_len 0 k)) (sym (length-map (declared_nets s.items) (net_of_name s.top (driven_nets s.items))));
  }
