-- What writes of variables and values of nets keep: a state of a design.
use Rattle.std.proofs.Common.{◌≡◌, ℕ, zero, suc, ◌+◌, ◌-◌, ◌*◌, ◌/◌, ◌<◌, ◌≤◌, not, List, [], ◌∷◌, ◌++◌, length, take, drop, refl, ap, sym, subst, ◌∙◌, arith}
use Rattle.std.specs.Prelude.{All, ⊤, Some, None, slice_get, slice_set, min, pos, negsuc}
use Rattle.std.specs.List.{take-map, drop-map}
use Rattle.std.proofs.lemmas.List.{drop-drop, length-map, length-take-le, length-drop}
use Rattle.std.proofs.lemmas.List.Elements.{All-head, All-tail}
use Rattle.std.proofs.lemmas.Option.{same_Some, none-some}
use Rattle.nt_value.specs.Digits.{LeafValue}
use Rattle.nt_value.specs.Operators.{unsigned_leaf}
use Rattle.nt_value.specs.Values.{AreValuesOf, IsValueOf, shape_of}
use Rattle.nt_value.specs.declared.leaf.Leaf.{Leaf}
use Rattle.nt_design.specs.Parts.{Value, only, one, leaves_at, leaves_each, with_leaves, with_part, Step, IntoLeaves, IntoItem, IntoPart}
use Rattle.nt_design.specs.WellFormed.{IsDesign, net_shapes, var_shapes}
use Rattle.nt_design.specs.declared.design.Design.{Design}
use Rattle.nt_design.specs.declared.object.Object.TheVariants as object
use Rattle.nt_design.proofs.Does.{value_set, value_there}
use Rattle.nt_design.proofs.Filled.{leaves_filled, none_filled, one_all, only_filled, with_leaves_filled, with_part_filled}
use Rattle.nt_design.proofs.Puts.{in_parts, nothing_dropped, nothing_taken, taken_inside, whole_there}
use Rattle.nt_design.specs.Fitting.{Into, Leads}
use Rattle.nt_design.proofs.Shaped.{append_has, leaves_has, only_leaf}
use Rattle.nt_design.proofs.Writes.{item_where}
use Rattle.nt_semantics.proofs.WakeKeeps.{wake_keeps}
use Rattle.nt_design.specs.Puts.{put_in, after_put, put_of, put_at, spot_of, into, nothing_put, digits_put, PutInside, Spot, Nowhere, AtLeaves, AtDigits}
use Rattle.nt_semantics.specs.Same.{is_same}
use Rattle.nt_semantics.specs.State.{MachineState, value_at, net_shape, var_shape}
use Rattle.nt_semantics.specs.StateFits.{IsStateOf, PutFits}
use Rattle.nt_semantics.specs.Step.{put_var, set_net, update_step}
use Rattle.nt_design.specs.declared.put.Put.{Put}

-- ---- values
-- leaves in place of others of the same kinds
pub with_kept : (first count : ℕ) (part value : Value) (s : List Leaf) → shape_of value ≡ s → shape_of part ≡ leaves_at first count s → shape_of (with_leaves first count part value) ≡ s
with_kept first count part value s h k =
    append_has (take first value) (part ++ drop (first + count) value)
    ∙ (ap (λ l. shape_of (take first value) ++ l) (append_has part (drop (first + count) value))
    ∙ (ap (λ l. l ++ (shape_of part ++ shape_of (drop (first + count) value))) before
    ∙ (ap (λ l. take first s ++ (l ++ shape_of (drop (first + count) value))) k
    ∙ (ap (λ l. take first s ++ (leaves_at first count s ++ l)) behind ∙ in_parts first count s))))
  where
    before : shape_of (take first value) ≡ take first s
    before = sym (take-map (λ (x : LeafValue). x.leaf) first value) ∙ ap (take first) h

    behind : shape_of (drop (first + count) value) ≡ drop (first + count) s
    behind =
        sym (drop-map (λ (x : LeafValue). x.leaf) (first + count) value) ∙ ap (drop (first + count)) h

-- the leaf that stands at a place
leaf_there : (s : List Leaf) (first : ℕ) (leaf : Leaf) → slice_get s first ≡ Some leaf → leaves_at first 1 s ≡ leaf ∷ []
leaf_there [] first leaf h = absurd (none-some leaf h)
leaf_there (a ∷ s) zero leaf h = ap (λ l. l ∷ []) (same_Some a leaf h)
leaf_there (a ∷ s) (suc first) leaf h = leaf_there s first leaf h

-- ---- writes
put_in_has : (first low width : ℕ) (new old : Value) (s : List Leaf) → IsValueOf s old → PutInside s first low width new → IsValueOf s (put_in first low width new old)
put_in_has first low zero new old s h k = record {
  leaves = with_kept first (length new) new old s h.leaves k.leaves;
  filled = with_leaves_filled first (length new) new old k.filled h.filled;
}
put_in_has first low (suc n) new old s h k = record {
  leaves = with_kept first 1 (one (with_part (Some (pos low)) (only new) (only (leaves_at first 1 old)))) old s h.leaves
      (ap (λ (l : Leaf). l ∷ []) (only_leaf (leaves_at first 1 old) k.0 (leaves_has first 1 old ∙ (ap (leaves_at first 1) h.leaves ∙ there)))
      ∙ sym there);
  filled = with_leaves_filled first 1 (one (with_part (Some (pos low)) (only new) (only (leaves_at first 1 old)))) old
      (one_all (with_part (Some (pos low)) (only new) (only (leaves_at first 1 old))) (with_part_filled (Some (pos low)) (only new) (only (leaves_at first 1 old)) (only_filled (leaves_at first 1 old) (leaves_filled first 1 old h.filled))))
      h.filled;
}
  where
    there : leaves_at first 1 s ≡ k.0 ∷ []
    there = leaf_there s first k.0 k.2.0

-- a write that fits keeps a variable's shape
pub put_has : (put : Put) (old : Value) (s : List Leaf) → IsValueOf s old → PutInside s put.first put.low put.width put.value → IsValueOf s (after_put put old)
unfolding after_put
put_has put old s h k = put_in_has put.first put.low put.width put.value old s h k

pub var_has : (d : Design) (s : MachineState) (v : ℕ) → IsStateOf d s → IsValueOf (var_shape d v) (value_at s.vars v)
var_has d s v of = value_there (var_shapes d) s.vars v of.vars

-- ---- where a path leads
-- a spot in leaves, and the part that stands there
abbrev SpotFits : List Leaf → Spot → List Leaf → Type 0
SpotFits s Nowhere r = ⊤
SpotFits s (AtLeaves first count) r = (first + count ≤ length s) × (leaves_at first count s ≡ r)
SpotFits s (AtDigits leaf low skip first end) r = (a : Leaf) × (slice_get s leaf ≡ Some a)

length_there : (first count : ℕ) (s r : List Leaf) → first + count ≤ length s → leaves_at first count s ≡ r → length r ≡ count
length_there first count s r low h =
    sym (ap (λ (l : List Leaf). length l) h) ∙ length-take-le count (drop first s) (omega (arith, low, length-drop first s))

-- leaves of leaves
of_leaves : (first count f c : ℕ) (s mid r : List Leaf) → first + count ≤ length s → leaves_at first count s ≡ mid → f + c ≤ length mid → leaves_at f c mid ≡ r → SpotFits s (AtLeaves (first + f) c) r
of_leaves first count f c s mid r low h inner k = (
  omega (arith, low, inner, length_there first count s mid low h),
  ap (take c) (sym (drop-drop f first s)) ∙ (sym (taken_inside c f count (drop first s) (omega (arith, inner, length_there first count s mid low h))) ∙ (ap (leaves_at f c) h ∙ k)),
)

leaf_at : (first count : ℕ) (s : List Leaf) (a : Leaf) → leaves_at first count s ≡ a ∷ [] → slice_get s first ≡ Some a
leaf_at first count [] a h =
    absurd (omega (arith, ap (λ (l : List Leaf). length l) (sym (ap (take count) (nothing_dropped first) ∙ nothing_taken count) ∙ h)))
leaf_at zero zero (x ∷ s) a h = absurd (omega (arith, ap (λ (l : List Leaf). length l) h))
leaf_at zero (suc count) (x ∷ s) a h = ap (λ (l : List Leaf). slice_get l 0) h
leaf_at (suc first) count (x ∷ s) a h = leaf_at first count s a h

into_fits : (s mid r : List Leaf) (step : Step) (spot : Spot) → SpotFits s spot mid → Into step mid r → SpotFits s (into step spot) r
into_fits s mid r step Nowhere h k = tt
into_fits s mid r (IntoLeaves at zero) (AtDigits leaf low skip first end) h k = tt
into_fits s mid r (IntoLeaves at (suc n)) (AtDigits leaf low skip first end) h k = h
into_fits s mid r (IntoItem None size) (AtDigits leaf low skip first end) h k = tt
into_fits s mid r (IntoItem (Some position) size) (AtDigits leaf low skip first end) h k = h
into_fits s mid r (IntoPart None width) (AtDigits leaf low skip first end) h k = tt
into_fits s mid r (IntoPart (Some (pos more)) width) (AtDigits leaf low skip first end) h k = h
into_fits s mid r (IntoPart (Some (negsuc below)) width) (AtDigits leaf low skip first end) h k = h
into_fits s mid r (IntoLeaves f c) (AtLeaves first count) h k = of_leaves first count f c s mid r h.0 h.1 k.0 k.1
into_fits s mid r (IntoItem None size) (AtLeaves first count) h k = tt
into_fits s mid r (IntoItem (Some position) size) (AtLeaves first count) h k =
    let w = item_where size position mid r k.0 k.1 in
    let each : leaves_each size mid ≡ count / size = ap (λ n. n / size) (length_there first count s mid h.0 h.1) in
    subst (λ n. SpotFits s (AtLeaves (first + position * n) n) r) each (of_leaves first count (position * leaves_each size mid) (leaves_each size mid) s mid r h.0 h.1 w.0 w.1)
into_fits s mid r (IntoPart None width) (AtLeaves first count) h k = tt
into_fits s mid r (IntoPart (Some (pos low)) width) (AtLeaves first count) h k = (k.0, leaf_at first count s k.0 (h.1 ∙ k.1))
into_fits s mid r (IntoPart (Some (negsuc below)) width) (AtLeaves first count) h k = (k.0, leaf_at first count s k.0 (h.1 ∙ k.1))

path_fits : (s mid r : List Leaf) (path : List Step) (spot : Spot) → SpotFits s spot mid → Leads path mid r → SpotFits s (spot_of path spot) r
path_fits s mid r [] spot h k = subst (SpotFits s spot) k h
path_fits s mid r (step ∷ path) spot h k = path_fits s k.0 r path (into step spot) (into_fits s mid k.0 step spot h k.1) k.2

-- ---- what is put there
nothing_fits : (d : Design) (v : ℕ) → v < length d.vars → PutFits d (nothing_put v)
nothing_fits d v low = (low, record { leaves = refl; filled = none_filled })

digits_fit : (d : Design) (v leaf low from : ℕ) (value : LeafValue) (n : ℕ) (a : Leaf) → v < length d.vars → slice_get (var_shape d v) leaf ≡ Some a → (0 < n → low + n ≤ a.width) → PutFits d (digits_put v leaf low from value n)
digits_fit d v leaf low from value zero a below h inner = nothing_fits d v below
digits_fit d v leaf low from value (suc n) a below h inner = (below, (a, unsigned_leaf (suc n) value.leaf.four, (h, (refl, (refl, inner (omega arith))))))

put_at_fits : (d : Design) (v : ℕ) (old : Value) (spot : Spot) (value : Value) (r : List Leaf) → v < length d.vars → shape_of old ≡ var_shape d v → SpotFits (var_shape d v) spot r → IsValueOf r value → PutFits d (put_at v old spot value)
put_at_fits d v old Nowhere value r below h k is = nothing_fits d v below
put_at_fits d v old (AtLeaves first count) value r below h k is = (
  below,
  record {
    leaves = is.leaves ∙ (sym k.1 ∙ ap (λ n. leaves_at first n (var_shape d v)) (sym long));
    filled = is.filled;
  },
)
  where
    long : length value ≡ count
    long =
        sym (length-map value (λ (x : LeafValue). x.leaf)) ∙ (ap (λ (l : List Leaf). length l) is.leaves ∙ length_there first count (var_shape d v) r k.0 k.1)
put_at_fits d v old (AtDigits leaf low skip first end) value r below h k is =
    let width : (only (leaves_at leaf 1 old)).leaf.width ≡ (k.0).width = ap (λ (a : Leaf). a.width) (only_leaf (leaves_at leaf 1 old) k.0 (leaves_has leaf 1 old ∙ (ap (leaves_at leaf 1) h ∙ leaf_there (var_shape d v) leaf k.0 k.1))) in
    digits_fit d v leaf first (first + skip - low) (only value) (min end (only (leaves_at leaf 1 old)).leaf.width - first) k.0 below k.1
    (λ some. omega (arith, some, width))

-- a write through a path that leads to a part of these leaves fits
pub put_of_fits : (d : Design) (v : ℕ) (old : Value) (path : List Step) (value : Value) (r : List Leaf) → v < length d.vars → shape_of old ≡ var_shape d v → Leads path (var_shape d v) r → IsValueOf r value → PutFits d (put_of v old path value)
put_of_fits d v old path value r below h k is =
    let long : length old ≡ length (var_shape d v) = sym (length-map old (λ (x : LeafValue). x.leaf)) ∙ ap (λ (l : List Leaf). length l) h in
    put_at_fits d v old (spot_of path (AtLeaves 0 (length old))) value r below h
    (path_fits (var_shape d v) (var_shape d v) r path (AtLeaves 0 (length old)) (omega (arith, long), ap (λ n. leaves_at 0 n (var_shape d v)) long ∙ whole_there (var_shape d v)) k)
    is

-- ---- states with other values
vars_keep : (d : Design) (s : MachineState) (vars : List Value) → IsStateOf d s → AreValuesOf (var_shapes d) vars → IsStateOf d (record s { vars = vars })
vars_keep d s vars of same = record {
  moment = of.moment;
  vars = same;
  nets = of.nets;
  slots = of.slots;
  standings = of.standings;
  work = of.work;
  locals = of.locals;
  locals_filled = of.locals_filled;
  fresh = of.fresh;
  evaluations = of.evaluations;
  resolutions = of.resolutions;
  procs = λ p proc at. let x = of.procs p proc at in record { work = x.work; standing = x.standing };
  nonblocking = of.nonblocking;
  moved = of.moved;
}

nets_keep : (d : Design) (s : MachineState) (nets : List Value) → IsStateOf d s → AreValuesOf (net_shapes d) nets → IsStateOf d (record s { nets = nets })
nets_keep d s nets of same = record {
  moment = of.moment;
  vars = of.vars;
  nets = same;
  slots = of.slots;
  standings = of.standings;
  work = of.work;
  locals = of.locals;
  locals_filled = of.locals_filled;
  fresh = of.fresh;
  evaluations = of.evaluations;
  resolutions = of.resolutions;
  procs = λ p proc at. let x = of.procs p proc at in record { work = x.work; standing = x.standing };
  nonblocking = of.nonblocking;
  moved = of.moved;
}

moved_keep : (d : Design) (s : MachineState) (puts : List Put) → IsStateOf d s → All (PutFits d) puts → IsStateOf d (record s { moved = puts })
moved_keep d s puts of fit = record {
  moment = of.moment;
  vars = of.vars;
  nets = of.nets;
  slots = of.slots;
  standings = of.standings;
  work = of.work;
  locals = of.locals;
  locals_filled = of.locals_filled;
  fresh = of.fresh;
  evaluations = of.evaluations;
  resolutions = of.resolutions;
  procs = λ p proc at. let x = of.procs p proc at in record { work = x.work; standing = x.standing };
  nonblocking = of.nonblocking;
  moved = fit;
}

module _ (d : Design) (design : IsDesign d) where
  -- a variable takes a write
  pub put_keeps : (put : Put) (s : MachineState) → PutFits d put → IsStateOf d s → IsStateOf d (put_var d put s)
  unfolding put_var
  put_keeps put s fit of =
      wake_keeps d design (object.Var put.var) (not (is_same (value_at s.vars put.var) (after_put put (value_at s.vars put.var)))) (record s { vars = slice_set s.vars put.var (after_put put (value_at s.vars put.var)) })
      (vars_keep d s (slice_set s.vars put.var (after_put put (value_at s.vars put.var))) of
      (value_set (var_shapes d) s.vars put.var (after_put put (value_at s.vars put.var)) of.vars (put_has put (value_at s.vars put.var) (var_shape d put.var) (var_has d s put.var of) fit.1)))

  -- a net takes a value
  pub net_keeps : (n : ℕ) (new : Value) (s : MachineState) → IsValueOf (net_shape d n) new → IsStateOf d s → IsStateOf d (set_net d n new s)
  unfolding set_net
  net_keeps n new s fit of =
      wake_keeps d design (object.Net n) (not (is_same (value_at s.nets n) new)) (record s { nets = slice_set s.nets n new })
      (nets_keep d s (slice_set s.nets n new) of (value_set (net_shapes d) s.nets n new of.nets fit))

  -- an update is performed
  pub update_keeps : (s t : MachineState) (puts : List Put) → All (PutFits d) puts → IsStateOf d s → update_step d s puts ≡ Some t → IsStateOf d t
  update_keeps s t [] fit of h = absurd (none-some t h)
  update_keeps s t (put ∷ puts) fit of h =
      subst (IsStateOf d) (same_Some (put_var d put (record s { moved = puts })) t h)
      (put_keeps put (record s { moved = puts }) (All-head (PutFits d) put puts fit) (moved_keep d s puts of (All-tail (PutFits d) put puts fit)))
