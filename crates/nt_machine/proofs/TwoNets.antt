-- For the tests: a design of two nets, the first with a constant as its driver, is well formed and plain.
use Rattle.std.proofs.Common.{◌≡◌, ℕ, zero, suc, ◌≤◌, ◌<◌, List, [], ◌∷◌, length, Some, None, slice_get, inr, refl, sym, ◌∙◌, ap, subst, arith}
use Rattle.std.specs.List.{Contains}
use Rattle.std.proofs.lemmas.List.Elements.{All-nil, All-cons}
use Rattle.std.proofs.lemmas.Option.{same_Some, none-some}
use Rattle.nt_value.specs.Units.{IsUnit}
use Rattle.nt_value.specs.Values.{IsValueOf}
use Rattle.nt_value.specs.declared.leaf.Leaf.{Leaf}
use Rattle.nt_value.specs.declared.unit.Unit.{Unit as TimeUnit}
use Rattle.nt_design.specs.Parts.{Value}
use Rattle.nt_design.specs.Plain.{IsPlain, IsConstantDriver, IsWholeSlot}
use Rattle.nt_design.specs.Reads.{reads_of, has_time}
use Rattle.nt_design.specs.Shapes.{target_shape, tree_shape}
use Rattle.nt_design.specs.WellFormed.{IsDesign, IsNet, IsKind, IsAssign, IsDriven, IsChain, IsObject, IsScoped, Drives, Assigns, IsSlotOf, Lists, called_by, design_scope, scope_with}
use Rattle.nt_design.specs.declared.design.Design.{Design}
use Rattle.nt_design.specs.declared.design.Scoped.{Scoped}
use Rattle.nt_design.specs.declared.object.Net.{Net}
use Rattle.nt_design.specs.declared.object.NetKind.TheVariants.{Unresolved}
use Rattle.nt_design.specs.declared.object.Object.{Object}
use Rattle.nt_design.specs.declared.object.Object.TheVariants as object
use Rattle.nt_design.specs.declared.process.Assign.{Assign}
use Rattle.nt_design.specs.declared.target.Target.TheVariants.{Slot, Var as VarTarget}
use Rattle.nt_design.specs.declared.tree.Tree.TheVariants.{Const}
use Rattle.nt_design.proofs.Constants.{shape_const, time_const, reads_const}

abbrev named : List ℕ → ℕ → Scoped
named name n = record { depth = 0; name = name; object = Some (object.Net n) }

abbrev joined : Net → Net → Assign → List ℕ → List ℕ → TimeUnit → Design
joined driven floating assign first second unit = record {
  nets = driven ∷ floating ∷ [];
  vars = [];
  procs = [];
  assigns = assign ∷ [];
  functions = [];
  scopes = named first 0 ∷ named second 1 ∷ [];
  unit = unit;
}

no_member : (x : ℕ) → Contains [] x → ⊥
no_member x h = grind arith

slot_is_no_variable : (net v : ℕ) → Slot net 0 0 0 ≡ VarTarget v [] → ⊥
slot_is_no_variable net v h = cc

no_chain : (d : Design) (fs : List ℕ) → d.functions ≡ [] → IsChain d fs → length fs ≤ 17
no_chain d [] none chain = omega arith
no_chain d (f ∷ []) none chain = omega arith
no_chain d (f ∷ g ∷ fs) none chain = absurd (no_member g (subst (λ functions. Contains (called_by (slice_get functions f)) g) none chain.0))

module _ (driven floating : Net) (assign : Assign) (first_name second_name : List ℕ) (unit : TimeUnit) (value : Value) (driver : driven.slots ≡ 0 ∷ []) (free : floating.slots ≡ []) (kind : driven.kind ≡ Unresolved) (other_kind : floating.kind ≡ Unresolved) (target : assign.target ≡ Slot 0 0 0 0) (right : assign.right ≡ Const value) (reads : assign.reads ≡ []) (shape : IsValueOf driven.shape value) (unit_fits : IsUnit unit) where
  abbrev design : Design
  design = joined driven floating assign first_name second_name unit

  drives : (slot a : ℕ) → slice_get (0 ∷ []) slot ≡ Some a → Drives design a 0 slot
  drives zero a at =
      subst (λ k. Drives design k 0 0) (same_Some 0 a at) (assign, refl, subst (IsSlotOf 0 0) (sym target) (refl, refl))
  drives (suc slot) a at = absurd (none-some a at)

  unresolved : (net : Net) → net.kind ≡ Unresolved → length net.slots ≤ 1 → IsKind design net net.kind
  unresolved net is few = subst (IsKind design net) (sym is) few

  first : IsNet design 0 driven
  first = record {
    kind = unresolved driven kind (let e = ap length driver in omega (arith, e));
    driven = λ slot a at. drives slot a (subst (λ (l : List ℕ). slice_get l slot ≡ Some a) driver at);
    few_drivers = let e = ap length driver in omega (arith, e);
  }

  second : IsNet design 1 floating
  second = record {
    kind = unresolved floating other_kind (let e = ap length free in omega (arith, e));
    driven = λ slot a at. absurd (none-some a (subst (λ (l : List ℕ). slice_get l slot ≡ Some a) free at));
    few_drivers = let e = ap length free in omega (arith, e);
  }

  is_net : (n : ℕ) (net : Net) → slice_get (driven ∷ floating ∷ []) n ≡ Some net → IsNet design n net
  is_net zero net at = subst (λ (m : Net). IsNet design 0 m) (same_Some driven net at) first
  is_net (suc zero) net at = subst (λ (m : Net). IsNet design 1 m) (same_Some floating net at) second
  is_net (suc (suc n)) net at = absurd (none-some net at)

  lists_nothing : Lists assign.reads (reads_of assign.right)
  lists_nothing o =
      let right_reads : reads_of assign.right ≡ [] = ap reads_of right ∙ reads_const value in
      (λ h. subst (λ l. Contains l o) (sym right_reads) (subst (λ l. Contains l o) reads h), λ h. subst (λ l. Contains l o) (sym reads) (subst (λ l. Contains l o) right_reads h))

  driver_fits : IsAssign (design_scope design) design.nets 0 assign
  driver_fits = record {
    target = subst (IsDriven design.nets 0) (sym target) (driven, refl, subst (λ (l : List ℕ). slice_get l 0 ≡ Some 0) (sym driver) refl, inr (refl, refl));
    shape = (driven.shape, ap (target_shape (scope_with design [] None)) target, ap (tree_shape (scope_with design [] None)) right ∙ shape_const (scope_with design [] None) value shape.filled ∙ ap (λ (s : List Leaf). Some s) shape.leaves);
    no_time = ap has_time right ∙ time_const value;
    reads = lists_nothing;
  }

  is_assign : (a : ℕ) (other : Assign) → slice_get (assign ∷ []) a ≡ Some other → IsAssign (design_scope design) design.nets a other
  is_assign zero other at = subst (λ (m : Assign). IsAssign (design_scope design) design.nets 0 m) (same_Some assign other at) driver_fits
  is_assign (suc a) other at = absurd (none-some other at)

  no_variable : (a v : ℕ) → Assigns design a v → ⊥
  no_variable zero v assigns =
      slot_is_no_variable 0 v (sym target ∙ ap (λ (x : Assign). x.target) (same_Some assign assigns.0 assigns.1) ∙ assigns.2)
  no_variable (suc a) v assigns = none-some assigns.0 assigns.1

  pub two_nets_fit : IsDesign design
  two_nets_fit = record {
    nets = is_net;
    vars = λ v var at. absurd (none-some var at);
    procs = λ p proc at. absurd (none-some proc at);
    assigns = is_assign;
    functions = λ f function at. absurd (none-some function at);
    writers = record {
      one_assign = λ a b v p q. absurd (no_variable a v p);
      no_write = λ a p v x y. no_variable a v x;
      one_writer = λ p q v sole x y. absurd (none-some sole.0 sole.1);
    };
    scopes = All-cons (λ (s : Scoped). IsScoped design s.object) (named first_name 0) (named second_name 1 ∷ []) below_0 (All-cons (λ (s : Scoped). IsScoped design s.object) (named second_name 1) [] below_1 (All-nil (λ (s : Scoped). IsScoped design s.object)));
    named = names;
    unit = unit_fits;
    small = record {
      nets = omega arith;
      vars = omega arith;
      processes = omega arith;
      chains = λ fs chain. no_chain design fs refl chain;
    };
  }
    where
      below_0 : 0 < 2
      below_0 = omega arith

      below_1 : 1 < 2
      below_1 = omega arith

      names : (o : Object) → IsObject design o → Contains (object.Net 0 ∷ object.Net 1 ∷ []) o
      names (object.Var v) below = absurd (omega (arith, below))
      names (object.Net zero) below = (0, omega arith, refl)
      names (object.Net (suc zero)) below = (1, omega arith, refl)
      names (object.Net (suc (suc n))) below = absurd (omega (arith, below))

  net_kind : (n : ℕ) (net : Net) → slice_get (driven ∷ floating ∷ []) n ≡ Some net → net.kind ≡ Unresolved
  net_kind zero net at = ap (λ (x : Net). x.kind) (sym (same_Some driven net at)) ∙ kind
  net_kind (suc zero) net at = ap (λ (x : Net). x.kind) (sym (same_Some floating net at)) ∙ other_kind
  net_kind (suc (suc n)) net at = absurd (none-some net at)

  constant_driver : IsConstantDriver assign
  constant_driver = record {
    whole = subst IsWholeSlot (sym target) (refl, refl);
    constant = (value, right);
    reads = reads;
  }

  drivers : (a : ℕ) (other : Assign) → slice_get (assign ∷ []) a ≡ Some other → IsConstantDriver other
  drivers zero other at = subst IsConstantDriver (same_Some assign other at) constant_driver
  drivers (suc a) other at = absurd (none-some other at)

  pub two_nets_plain : IsPlain design
  two_nets_plain = record { vars = refl; procs = refl; nets = net_kind; assigns = drivers; named = refl }
