-- What evaluations of assignments and resolutions of nets keep: a state of a design.
use Rattle.std.proofs.Common.{◌≡◌, ℕ, zero, suc, ◌<◌, ◌≤◌, Bool, true, false, if◌then◌else◌, List, [], ◌∷◌, map, length, get_or, refl, ap, sym, subst, ◌∙◌, arith, length-set}
use Rattle.std.specs.Prelude.{All, nat_lt, Option, Some, None, pos, ◌==◌, ◌&&◌, slice_get, slice_set, option_and_then}
use Rattle.std.proofs.lemmas.Bool.{and_parts, ltb-true, eqb-true, false≢true}
use Rattle.std.proofs.lemmas.List.{length-map}
use Rattle.std.proofs.lemmas.List.Elements.{All-cons, All-head, All-tail}
use Rattle.std.proofs.lemmas.Option.{slice_get_within, slice_get-get_or, get_or_from_slice_get, same_Some, none-some}
use Rattle.nt_value.proofs.Filled.{pairwise_filled}
use Rattle.nt_value.specs.Digits.{LeafValue}
use Rattle.nt_value.specs.Logic.{wire_digit}
use Rattle.nt_value.specs.Operators.{unsigned_leaf, wire_of}
use Rattle.nt_value.specs.Values.{AreValuesOf, IsValueOf, shape_of, default_value}
use Rattle.nt_value.specs.declared.leaf.Leaf.{Leaf}
use Rattle.nt_design.specs.Expressions.{value_of}
use Rattle.nt_design.specs.Fitting.{Gives}
use Rattle.nt_design.specs.Meaning.{most_turns}
use Rattle.nt_design.specs.Parts.{Value, leaves_at, only, with_part}
use Rattle.nt_design.specs.Shapes.{target_shape, path_shape, part_shape, slot_shape, is_width, on_leaf}
use Rattle.nt_design.specs.Turns.{Timed}
use Rattle.nt_design.specs.WellFormed.{IsDesign, IsDriven, IsKind, MayCall, scope_with, net_shapes, var_shapes}
use Rattle.nt_design.specs.declared.design.Design.{Design}
use Rattle.nt_design.specs.declared.object.Net.{Net}
use Rattle.nt_design.specs.declared.object.NetKind.{NetKind}
use Rattle.nt_design.specs.declared.object.NetKind.TheVariants.{Wire, Unresolved, Resolved}
use Rattle.nt_design.specs.declared.object.Var.{Var}
use Rattle.nt_design.specs.declared.process.Assign.{Assign}
use Rattle.nt_design.specs.declared.target.Target.{Target}
use Rattle.nt_design.specs.declared.target.Target.TheVariants as target
use Rattle.nt_design.proofs.Does.{value_set}
use Rattle.nt_design.proofs.Filled.{one_all, only_filled, with_part_filled}
use Rattle.nt_design.proofs.Puts.{whole_there}
use Rattle.nt_design.proofs.Results.{Outside, default_is, results_fit, value_has}
use Rattle.nt_design.proofs.Shaped.{on_shape_back, on_leaf_back, where_so_back, some_back, only_leaf}
use Rattle.nt_semantics.proofs.StartFitting.{z_is}
use Rattle.nt_semantics.proofs.Columns.{net_shape_there, slot_has, driver_shape_there, slot_of_net}
use Rattle.nt_semantics.proofs.ValueKeeps.{net_keeps, put_keeps}
use Rattle.nt_design.specs.Puts.{leaves_put}
use Rattle.nt_semantics.specs.Same.{is_same}
use Rattle.nt_semantics.specs.State.{MachineState, value_at, net_shape, var_shape, more, fewer, world_of_state, z_value}
use Rattle.nt_semantics.specs.StateFits.{IsStateOf, driver_shape}
use Rattle.nt_semantics.specs.Step.{assign_step, resolve_step, drive, take_evaluation, take_resolution, contribution, joined_wires, net_value, in_order, is_order, all_below, is_distinct, in_turns, only_if, set_net}
use Rattle.nt_semantics.specs.Wake.{functions_of}

-- ---- what comes out
-- what came out has what all that comes out has
pub turns_give : {A B : Type 0} (f : A → B) (P : A → Type 0) (m : Timed A) (y : B) → Gives m P → in_turns f m ≡ Some y → (x : A) × (P x) × (f x ≡ y)
turns_give f P None y h is = absurd (none-some y is)
turns_give f P (Some p) y h is = (p.0, h, same_Some (f p.0) y is)

-- ---- states with other slots and counts
pub columns_keep : (d : Design) (s : MachineState) (slots : List Value) (evaluations resolutions : List ℕ) → IsStateOf d s → AreValuesOf (map (λ (assign : Assign). driver_shape d assign.target) d.assigns) slots → length evaluations ≡ length s.evaluations → length resolutions ≡ length s.resolutions → IsStateOf d (record s { slots = slots; evaluations = evaluations; resolutions = resolutions })
columns_keep d s slots evaluations resolutions of same e r = record {
  moment = of.moment;
  vars = of.vars;
  nets = of.nets;
  slots = same;
  standings = of.standings;
  work = of.work;
  locals = of.locals;
  locals_filled = of.locals_filled;
  fresh = of.fresh;
  evaluations = e ∙ of.evaluations;
  resolutions = r ∙ of.resolutions;
  procs = λ p proc at. let x = of.procs p proc at in record { work = x.work; standing = x.standing };
  nonblocking = of.nonblocking;
  moved = of.moved;
}

-- ---- what a driver contributes
if_not : {A : Type 0} (b : Bool) (x y : A) → (b ≡ true → ⊥) → (if b then x else y) ≡ y
if_not true x y h = absurd (h refl)
if_not false x y h = refl

-- a slot of which a part is driven has one leaf
part_driven : (low width : ℕ) (shape : List Leaf) → (low ≡ 0 → width ≡ 0 → ⊥) → slot_shape low width shape ≡ on_leaf (Some shape) (part_shape width)
part_driven low width shape h =
    if_not (low == 0 && width == 0) (Some shape) (on_leaf (Some shape) (part_shape width))
    (λ is. let parts = and_parts (low == 0) (width == 0) is in h (eqb-true low 0 parts.0) (eqb-true width 0 parts.1))

contribution_has : (shape : List Leaf) (low width : ℕ) (value : Value) (leaves : List Leaf) → slot_shape low width shape ≡ Some leaves → IsValueOf leaves value → IsValueOf shape (contribution shape low width value)
contribution_has shape low (suc n) value leaves h is =
    let x = on_leaf_back (Some shape) (part_shape (suc n)) leaves (sym (part_driven low (suc n) shape (λ p q. absurd (omega (arith, q)))) ∙ h) in
    let one_leaf = some_back shape (x.0 ∷ []) x.1 in
    record {
      leaves = ap (λ (l : Leaf). l ∷ []) (only_leaf (z_value shape) x.0 ((z_is shape).leaves ∙ one_leaf)) ∙ sym one_leaf;
      filled = one_all (with_part (Some (pos low)) (only value) (only (z_value shape))) (with_part_filled (Some (pos low)) (only value) (only (z_value shape)) (only_filled (z_value shape) (z_is shape).filled));
    }
contribution_has shape zero zero value leaves h is =
    subst (λ r. IsValueOf r value) (sym (some_back shape leaves h)) is
contribution_has shape (suc low) zero value leaves h is =
    let x = on_leaf_back (Some shape) (part_shape 0) leaves (sym (part_driven (suc low) 0 shape (λ p q. absurd (omega (arith, p)))) ∙ h) in
    absurd (false≢true (where_so_back (is_width 0) (unsigned_leaf 0 x.0.four ∷ []) leaves x.2).0)

-- drivers of a built-in net, joined
joined_has : (shape : List Leaf) (leaf : Leaf) (values : List Value) → shape ≡ leaf ∷ [] → All (IsValueOf shape) values → IsValueOf shape (joined_wires shape values)
joined_has shape leaf [] h all = z_is shape
joined_has shape leaf (value ∷ values) h all =
    let rest = joined_has shape leaf values h (All-tail (IsValueOf shape) value values all) in
    let first = All-head (IsValueOf shape) value values all in
    let rest_leaf = only_leaf (joined_wires shape values) leaf (rest.leaves ∙ h) in
    record {
      leaves = ap (λ (l : Leaf). l ∷ []) rest_leaf ∙ sym h;
      filled = one_all (wire_of (only (joined_wires shape values)) (only value)) (pairwise_filled wire_digit (only (joined_wires shape values)) (only value) (only_filled (joined_wires shape values) rest.filled) (only_filled value first.filled) (rest_leaf ∙ sym (only_leaf value leaf (first.leaves ∙ h))));
    }

module _ (d : Design) (design : IsDesign d) where
  pub outside : (s : MachineState) → IsStateOf d s → Outside d (world_of_state s)
  outside s of = record { nets = of.nets; vars = of.vars; many = refl; element = refl }

  -- ---- evaluations
  -- the leaves of a net
  shape_there : (n : ℕ) (shape : List Leaf) → slice_get (net_shapes d) n ≡ Some shape → net_shape d n ≡ shape
  shape_there n shape h = get_or_from_slice_get (net_shapes d) n shape [] h

  var_there : (v : ℕ) (shape : List Leaf) → slice_get (var_shapes d) v ≡ Some shape → var_shape d v ≡ shape
  var_there v shape h = get_or_from_slice_get (var_shapes d) v shape [] h

  var_below : (v : ℕ) (shape : List Leaf) → slice_get (var_shapes d) v ≡ Some shape → v < length d.vars
  var_below v shape h =
      subst (λ n. v < n) (length-map d.vars (λ (x : Var). x.shape)) (slice_get_within (var_shapes d) v shape h)

  driven_keeps : (a : ℕ) (value : Value) (s : MachineState) (t : Target) (leaves : List Leaf) → IsDriven d.nets a t → target_shape (scope_with d [] None) t ≡ Some leaves → IsValueOf leaves value → get_or (map (λ (assign : Assign). driver_shape d assign.target) d.assigns) a [] ≡ driver_shape d t → IsStateOf d s → IsStateOf d (drive d a value s t)
  driven_keeps a value s (target.Local i path) leaves to h is slot of = of
  driven_keeps a value s (target.Var v path) leaves to h is slot of =
      let x = on_shape_back (slice_get (var_shapes d) v) (path_shape (scope_with d [] None) path) leaves h in
      let whole : x.0 ≡ leaves = some_back x.0 leaves (sym (ap (λ p. path_shape (scope_with d [] None) p x.0) to) ∙ x.2) in
      let there : shape_of value ≡ var_shape d v = is.leaves ∙ (sym whole ∙ sym (var_there v x.0 x.1)) in
      put_keeps d design (leaves_put v 0 value) s (
        var_below v x.0 x.1,
        record {
          leaves = sym (ap (λ n. leaves_at 0 n (var_shape d v)) (sym (length-map value (λ (y : LeafValue). y.leaf))) ∙ (ap (λ (l : List Leaf). leaves_at 0 (length l) (var_shape d v)) there ∙ (whole_there (var_shape d v) ∙ sym there)));
          filled = is.filled;
        },
      ) of
  driven_keeps a value s (target.Slot n k low width) leaves to h is slot of =
      let x = on_shape_back (slice_get (net_shapes d) n) (slot_shape low width) leaves h in
      let there : net_shape d n ≡ x.0 = shape_there n x.0 x.1 in
      let new = contribution (net_shape d n) low width value in
      let has : IsValueOf (net_shape d n) new = contribution_has (net_shape d n) low width value leaves (ap (slot_shape low width) there ∙ x.2) is in
      columns_keep d s (slice_set s.slots a new) s.evaluations (if is_same (value_at s.slots a) new then s.resolutions else more s.resolutions n) of
      (value_set (map (λ (assign : Assign). driver_shape d assign.target) d.assigns) s.slots a new of.slots (subst (λ r. IsValueOf r new) (sym slot) has)) refl (counts (is_same (value_at s.slots a) new))
    where
      counts : (b : Bool) → length (if b then s.resolutions else more s.resolutions n) ≡ length s.resolutions
      counts true = refl
      counts false = length-set s.resolutions n _

  -- an evaluation of an assignment
  pub assign_keeps : (a : ℕ) (assign : Assign) (s t : MachineState) → slice_get d.assigns a ≡ Some assign → IsStateOf d s → assign_step d a s assign ≡ Some t → IsStateOf d t
  assign_keeps a assign s t at of h =
      let is = design.assigns a assign at in
      let gives = value_has d design most_turns [] (world_of_state s) (outside s of) assign.right is.shape.0 is.shape.2 [] (λ i shape none. absurd (none-some shape none)) most_turns in
      let x = turns_give (λ value. drive d a value (take_evaluation a s) assign.target) (IsValueOf is.shape.0) (value_of (functions_of d) (world_of_state s) assign.right [] most_turns) t gives h in
      subst (IsStateOf d) x.2
      (driven_keeps a x.0 (take_evaluation a s) assign.target is.shape.0 is.target is.shape.1 x.1 (driver_shape_there d a assign at)
      (columns_keep d s s.slots (fewer 1 s.evaluations a) s.resolutions of of.slots (length-set s.evaluations a _) refl))

  -- ---- resolutions
  order_parts : (n : ℕ) (order : List ℕ) → is_order n order ≡ true → (length order ≡ n) × (all_below n order ≡ true)
  order_parts n order h =
      let outer = and_parts ((length order == n) && all_below n order) (is_distinct order) h in
      let inner = and_parts (length order == n) (all_below n order) outer.0 in
      (eqb-true (length order) n inner.0, inner.1)

  -- the drivers of a net have its shape
  each_has : (n : ℕ) (net : Net) (s : MachineState) → slice_get d.nets n ≡ Some net → IsStateOf d s → (order : List ℕ) → all_below (length net.slots) order ≡ true → All (IsValueOf net.shape) (in_order s.slots net.slots order)
  each_has n net s at of [] h = λ k i low. absurd (omega (arith, low))
  each_has n net s at of (first ∷ rest) h =
      let parts = and_parts (nat_lt first (length net.slots)) (all_below (length net.slots) rest) h in
      let drives = (design.nets n net at).driven first (get_or net.slots first 0) (slice_get-get_or net.slots first 0 (ltb-true first (length net.slots) parts.0)) in
      All-cons (IsValueOf net.shape) (value_at s.slots (get_or net.slots first 0)) (in_order s.slots net.slots rest)
      (subst (λ r. IsValueOf r (value_at s.slots (get_or net.slots first 0))) (slot_of_net d n first (drives.0).target drives.2 ∙ net_shape_there d n net at) (slot_has d s (get_or net.slots first 0) drives.0 of drives.1))
      (each_has n net s at of rest parts.1)

  net_value_has : (net : Net) (kind : NetKind) (given : List Value) (value : Value) → IsKind d net kind → All (IsValueOf net.shape) given → length given ≤ 1024 → net_value d kind net.shape given ≡ Some value → IsValueOf net.shape value
  net_value_has net Wire given value is all few h =
      subst (IsValueOf net.shape) (same_Some (joined_wires net.shape given) value h) (joined_has net.shape is.0 given is.1 all)
  net_value_has net Unresolved [] value is all few h =
      subst (IsValueOf net.shape) (same_Some (default_value net.shape) value h) (default_is net.shape)
  net_value_has net Unresolved (first ∷ rest) value is all few h =
      subst (IsValueOf net.shape) (same_Some first value h) (All-head (IsValueOf net.shape) first rest all)
  net_value_has net (Resolved f) given value is all few h =
      let x = turns_give (λ v. v) (IsValueOf (is.0).result) (functions_of d f given most_turns) value (results_fit d design most_turns f is.0 given most_turns is.1 may) h in
      subst (λ r. IsValueOf r value) (is.2).result (subst (IsValueOf (is.0).result) x.2 x.1)
    where
      same_shape : (shape : List Leaf) → (is.0).args ≡ shape ∷ [] → net.shape ≡ shape
      same_shape shape g = ap (λ (l : List (List Leaf)). get_or l 0 []) (sym (is.2).argument ∙ g)

      may : MayCall is.0 given
      may = record {
        own = is.3;
        values = λ not_many. absurd (false≢true (sym not_many ∙ (is.2).many));
        elements = λ shape many g. record { few = few; same = subst (λ r. All (IsValueOf r) given) (same_shape shape g) all };
      }

  -- a resolution of a net
  pub resolve_keeps : (n : ℕ) (order : List ℕ) (s t : MachineState) (net : Net) → slice_get d.nets n ≡ Some net → IsStateOf d s → resolve_step d n order s net ≡ Some t → IsStateOf d t
  resolve_keeps n order s t net at of h =
      of_order (is_order (length net.slots) order) refl h
    where
      of_value : is_order (length net.slots) order ≡ true → (o : Option Value) → net_value d net.kind net.shape (in_order s.slots net.slots order) ≡ o → option_and_then (λ value. Some (set_net d n value (take_resolution n s))) o ≡ Some t → IsStateOf d t
      of_value ordered None is g = absurd (none-some t g)
      of_value ordered (Some value) is g =
          let parts = order_parts (length net.slots) order ordered in
          let many : length (in_order s.slots net.slots order) ≡ length order = length-map order (λ slot. value_at s.slots (get_or net.slots slot 0)) in
          let few = (design.nets n net at).few_drivers in
          subst (IsStateOf d) (same_Some (set_net d n value (take_resolution n s)) t g)
          (net_keeps d design n value (take_resolution n s)
          (subst (λ r. IsValueOf r value) (sym (net_shape_there d n net at)) (net_value_has net net.kind (in_order s.slots net.slots order) value (design.nets n net at).kind (each_has n net s at of order parts.1) (omega (arith, parts.0, many, few)) is))
          (columns_keep d s s.slots s.evaluations (fewer 1 s.resolutions n) of of.slots refl (length-set s.resolutions n _)))

      of_order : (b : Bool) → is_order (length net.slots) order ≡ b → only_if b (option_and_then (λ value. Some (set_net d n value (take_resolution n s))) (net_value d net.kind net.shape (in_order s.slots net.slots order))) ≡ Some t → IsStateOf d t
      of_order false is g = absurd (none-some t g)
      of_order true is g = of_value is (net_value d net.kind net.shape (in_order s.slots net.slots order)) refl g
