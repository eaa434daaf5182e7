-- Designs of nets and constants: when an event is allowed, and what it then leaves.
use Rattle.std.proofs.Common.{◌≡◌, ◌↔◌, ◌⊎◌, inl, inr, ℕ, zero, suc, ◌+◌, ◌<◌, ◌≤◌, Bool, true, false, not, ◌&&◌, ◌==◌, nat_lt, if◌then◌else◌, List, [], ◌∷◌, length, get_or, map, Option, Some, None, slice_get, IsSome, IsTrue, option_and_then, option_map, is_some, refl, sym, ◌∙◌, ap, subst, arith, lt-ltb, ltb-true, length-set}
use Rattle.std.specs.List.{range_with_len}
use Rattle.std.proofs.lemmas.Bool.{false≢true}
use Rattle.std.proofs.lemmas.List.{length-map}
use Rattle.std.proofs.lemmas.Option.{slice_get_within, slice_get-get_or, slice_get-map, get_or_from_slice_get, same_Some, none-some}
use Rattle.nt_value.specs.Values.{IsValueOf, shape_of, default_value}
use Rattle.nt_value.specs.declared.leaf.Leaf.{Leaf}
use Rattle.nt_design.specs.Expressions.{value_of}
use Rattle.nt_design.specs.Meaning.{most_turns, meaning}
use Rattle.nt_design.specs.Parts.{Value}
use Rattle.nt_design.specs.Shapes.{target_shape, tree_shape, on_shape, slot_shape}
use Rattle.nt_design.specs.WellFormed.{IsDesign, IsAssign, IsDriven, design_scope, net_shapes, scope_with}
use Rattle.nt_design.specs.declared.design.Design.{Design}
use Rattle.nt_design.specs.declared.env.Env.{Env}
use Rattle.nt_design.specs.declared.function.Function.{Function}
use Rattle.nt_design.specs.declared.object.Net.{Net}
use Rattle.nt_design.specs.declared.object.NetKind.{NetKind}
use Rattle.nt_design.specs.declared.object.NetKind.TheVariants.{Unresolved}
use Rattle.nt_design.specs.declared.object.Object.{Object}
use Rattle.nt_design.specs.declared.object.Object.TheVariants as object
use Rattle.nt_design.specs.declared.process.Assign.{Assign}
use Rattle.nt_design.specs.declared.process.Proc.{Proc}
use Rattle.nt_design.specs.declared.target.Target.{Target}
use Rattle.nt_design.specs.declared.target.Target.TheVariants as target
use Rattle.nt_design.proofs.Values.{value_const, meaning_of_const}
use Rattle.nt_design.proofs.Constants.{const_back}
use Rattle.nt_design.proofs.Does.{value_set}
use Rattle.nt_design.proofs.Results.{default_is}
use Rattle.nt_semantics.specs.Same.{is_same, is_one_of}
use Rattle.nt_semantics.specs.State.{MachineState, standing_at, work_at, count_at, value_at, net_shape, more, each_below, world_of_state}
use Rattle.nt_semantics.specs.declared.standing.Standing.TheVariants.{Over}
use Rattle.nt_semantics.specs.StateFits.{IsStateOf, driver_shape}
use Rattle.nt_semantics.specs.Step.{step, is_pending_at, is_some_work, is_some_put, proc_step, update_step, only_if, in_turns, assign_step, resolve_step, drive, take_evaluation, take_resolution, set_net, contribution, is_order, is_order_of, net_value, in_order, is_pending}
use Rattle.nt_semantics.proofs.Columns.{net_shape_there, slot_has, slot_of_net, driver_shape_there}
use Rattle.nt_semantics.specs.Wake.{wake, functions_of, reads_at, one_more_if, standing_after, work_after, waking_at}
use Rattle.nt_design.specs.Plain.{IsPlain, IsConstantDriver, IsWholeSlot, net_of}
use Rattle.nt_machine.specs.Plain.{IsPlainState, driven_plain, published_plain}
use Rattle.nt_semantics.specs.declared.event.Event.{Event}
use Rattle.nt_semantics.specs.declared.event.Event.TheVariants.{Stmt, Assign as AssignEvent, Update, Resolve}

only_if_some : {A : Type 0} (b : Bool) (o : Option A) → IsSome (only_if b o) → (b ≡ true) × IsSome o
only_if_some true o h = (refl, h)
only_if_some false o h = absurd (false≢true h)

only_if_true : {A : Type 0} (b : Bool) (o : Option A) → b ≡ true → only_if b o ≡ o
only_if_true true o h = refl
only_if_true false o h = absurd (false≢true h)

and_then_some : {A B : Type 0} (f : A → Option B) (o : Option A) → IsSome (option_and_then f o) → (x : A) × (o ≡ Some x) × IsSome (f x)
and_then_some f None h = absurd (false≢true h)
and_then_some f (Some x) h = (x, refl, h)

-- ---- nothing wakes
none_below : {A : Type 0} (xs : List A) (f : ℕ → A) → xs ≡ [] → each_below (length xs) f ≡ xs
none_below [] f h = refl
none_below (x ∷ xs) f h = let e = ap length h in absurd (omega (arith, e))

numbers_from : (xs : List ℕ) (g : ℕ → ℕ) (k : ℕ) → ((i : ℕ) → g (k + i) ≡ get_or xs i 0) → map g (range_with_len k (length xs)) ≡ xs
numbers_from [] g k h = refl
numbers_from (x ∷ xs) g k h =
    let first : g k ≡ x = ap g (omega arith) ∙ h 0 in
    let rest = numbers_from xs g (k + 1) (λ i. ap g (omega arith) ∙ h (suc i)) in
    λ j. first j ∷ rest j

numbers_below : (xs : List ℕ) (g : ℕ → ℕ) → ((i : ℕ) → g i ≡ get_or xs i 0) → each_below (length xs) g ≡ xs
numbers_below xs g h = numbers_from xs g 0 (λ i. ap g (omega arith) ∙ h i)

-- no assignment reads an object
no_reads : (assigns : List Assign) → ((a : ℕ) (assign : Assign) → slice_get assigns a ≡ Some assign → assign.reads ≡ []) → (a : ℕ) → get_or (map (λ (assign : Assign). assign.reads) assigns) a [] ≡ []
no_reads [] h a = refl
no_reads (x ∷ xs) h zero = h 0 x refl
no_reads (x ∷ xs) h (suc a) = no_reads xs (λ b assign at. h (suc b) assign at) a

reads_nothing : (d : Design) (o : Object) (a : ℕ) → IsPlain d → reads_at d o a ≡ false
reads_nothing d o a plain =
    ap (λ reads. is_one_of reads o) (no_reads d.assigns (λ b assign at. (plain.assigns b assign at).reads) a)

wakes_nothing : (d : Design) (o : Object) (changed : Bool) (s : MachineState) → IsPlain d → s.standings ≡ [] → s.work ≡ [] → wake d o changed s ≡ s
unfolding wake
wakes_nothing d o false s plain places items = refl
wakes_nothing d o true s plain places items =
    λ j. record s {
      standings = none_below s.standings (λ p. standing_after (standing_at s p) (waking_at d o s p)) places j;
      work = none_below s.work (λ p. work_after (work_at s p) (waking_at d o s p)) items j;
      evaluations = counts j;
    }
  where
    counts : each_below (length s.evaluations) (λ a. one_more_if (reads_at d o a) (count_at s.evaluations a)) ≡ s.evaluations
    counts =
        numbers_below s.evaluations (λ a. one_more_if (reads_at d o a) (count_at s.evaluations a)) (λ a. ap (λ b. one_more_if b (count_at s.evaluations a)) (reads_nothing d o a plain))

published_is : (d : Design) (n : ℕ) (value : Value) (s : MachineState) → IsPlain d → IsPlainState s → set_net d n value (take_resolution n s) ≡ published_plain s n value
unfolding set_net
published_is d n value s plain still =
    wakes_nothing d (object.Net n) (not (is_same (value_at s.nets n) value)) (published_plain s n value) plain still.standings still.work

-- ---- evaluations
contributes : (shape : List Leaf) (low width : ℕ) (value : Value) → width ≡ 0 → contribution shape low width value ≡ value
contributes shape low zero value h = refl
contributes shape low (suc n) value h = absurd (omega (arith, h))

driven_is : (d : Design) (s : MachineState) (a : ℕ) (t : Target) (value : Value) → IsWholeSlot t → drive d a value (take_evaluation a s) t ≡ driven_plain s a (net_of t) value
driven_is d s a (target.Slot n slot low width) value whole =
    ap (λ new. driven_plain s a n new) (contributes (net_shape d n) low width value whole.1)
driven_is d s a (target.Var v path) value whole = absurd whole
driven_is d s a (target.Local i path) value whole = absurd whole

const_value : (d : Design) (s : MachineState) (assign : Assign) (c : IsConstantDriver assign) → value_of (functions_of d) (world_of_state s) assign.right [] most_turns ≡ Some (c.constant.0, most_turns)
const_value d s assign c =
    ap (λ t. value_of (functions_of d) (world_of_state s) t [] most_turns) c.constant.1 ∙ value_const (functions_of d) (world_of_state s) c.constant.0 [] most_turns

-- an evaluation that is allowed
pub record Evaluates (d : Design) (s : MachineState) (a : ℕ) : Type 0 where
  pub assign : Assign
  pub here : slice_get d.assigns a ≡ Some assign
  pub active : nat_lt 0 (count_at s.evaluations a) ≡ true

pub evaluates : (d : Design) (s : MachineState) (a : ℕ) → IsSome (step d s (AssignEvent a)) → Evaluates d s a
unfolding step
evaluates d s a h =
    let p = only_if_some (nat_lt 0 (count_at s.evaluations a)) (option_and_then (assign_step d a s) (slice_get d.assigns a)) h in
    let q = and_then_some (assign_step d a s) (slice_get d.assigns a) p.1 in
    record { assign = q.0; here = q.1; active = p.0 }

pub step_evaluates : (d : Design) (s : MachineState) (a : ℕ) (assign : Assign) (c : IsConstantDriver assign) → nat_lt 0 (count_at s.evaluations a) ≡ true → slice_get d.assigns a ≡ Some assign → step d s (AssignEvent a) ≡ Some (driven_plain s a (net_of assign.target) c.constant.0)
unfolding step
step_evaluates d s a assign c active here =
    only_if_true (nat_lt 0 (count_at s.evaluations a)) (option_and_then (assign_step d a s) (slice_get d.assigns a)) active
    ∙ ap (option_and_then (assign_step d a s)) here
    ∙ ap (in_turns (λ value. drive d a value (take_evaluation a s) assign.target)) (const_value d s assign c)
    ∙ ap (λ (t : MachineState). Some t) (driven_is d s a assign.target c.constant.0 c.whole)

-- ---- resolutions
-- a resolution that is allowed
pub record Resolves (d : Design) (s : MachineState) (n : ℕ) (order : List ℕ) : Type 0 where
  pub net : Net
  pub here : slice_get d.nets n ≡ Some net
  pub active : nat_lt 0 (count_at s.resolutions n) ≡ true
  pub ordered : is_order (length net.slots) order ≡ true

pub resolves : (d : Design) (s : MachineState) (n : ℕ) (order : List ℕ) → IsSome (step d s (Resolve n order)) → Resolves d s n order
unfolding step
resolves d s n order h =
    let p = only_if_some (nat_lt 0 (count_at s.resolutions n)) (option_and_then (resolve_step d n order s) (slice_get d.nets n)) h in
    let q = and_then_some (resolve_step d n order s) (slice_get d.nets n) p.1 in
    let o = only_if_some (is_order (length q.0.slots) order) _ q.2 in
    record { net = q.0; here = q.1; active = p.0; ordered = o.0 }

pub step_resolves : (d : Design) (s : MachineState) (n : ℕ) (order : List ℕ) (net : Net) (value : Value) → IsPlain d → IsPlainState s → nat_lt 0 (count_at s.resolutions n) ≡ true → slice_get d.nets n ≡ Some net → is_order (length net.slots) order ≡ true → net_value d net.kind net.shape (in_order s.slots net.slots order) ≡ Some value → step d s (Resolve n order) ≡ Some (published_plain s n value)
unfolding step
step_resolves d s n order net value plain still active here ordered is =
    only_if_true (nat_lt 0 (count_at s.resolutions n)) (option_and_then (resolve_step d n order s) (slice_get d.nets n)) active
    ∙ ap (option_and_then (resolve_step d n order s)) here
    ∙ only_if_true (is_order (length net.slots) order) _ ordered
    ∙ ap (option_and_then (λ (v : Value). Some (set_net d n v (take_resolution n s)))) is
    ∙ ap (λ (t : MachineState). Some t) (published_is d n value s plain still)

-- ---- what a state has for each number of its design
pub nets_long : (d : Design) (s : MachineState) → IsStateOf d s → length s.nets ≡ length d.nets
nets_long d s of =
    sym (length-map s.nets shape_of) ∙ ap (λ (l : List (List Leaf)). length l) of.nets.leaves ∙ length-map d.nets (λ (net : Net). net.shape)

pub slots_long : (d : Design) (s : MachineState) → IsStateOf d s → length s.slots ≡ length d.assigns
slots_long d s of =
    sym (length-map s.slots shape_of) ∙ ap (λ (l : List (List Leaf)). length l) of.slots.leaves ∙ length-map d.assigns (λ (assign : Assign). driver_shape d assign.target)

-- the net of a driver, and the driver's value
pub record DrivesNet (d : Design) (a : ℕ) (assign : Assign) (value : Value) : Type 0 where
  pub net : Net
  pub here : slice_get d.nets (net_of assign.target) ≡ Some net
  pub is : IsValueOf net.shape value
  pub slot : driver_shape d assign.target ≡ net.shape

drives_to : (d : Design) (a : ℕ) (t : Target) (leaves : List Leaf) → IsWholeSlot t → IsDriven d.nets a t → target_shape (scope_with d [] None) t ≡ Some leaves → (net : Net) × (slice_get d.nets (net_of t) ≡ Some net) × (leaves ≡ net.shape) × (driver_shape d t ≡ net.shape)
drives_to d a (target.Slot n slot low width) leaves whole driven is = (
  driven.0,
  driven.1,
  same_Some leaves (driven.0).shape (sym is ∙ shape),
  net_shape_there d n driven.0 driven.1,
)
  where
    whole_shape : (low width : ℕ) (shape : List Leaf) → low ≡ 0 → width ≡ 0 → slot_shape low width shape ≡ Some shape
    whole_shape zero zero shape p q = refl
    whole_shape (suc low) width shape p q = absurd (omega (arith, p))
    whole_shape zero (suc width) shape p q = absurd (omega (arith, q))

    shape : target_shape (scope_with d [] None) (target.Slot n slot low width) ≡ Some (driven.0).shape
    shape =
        ap (λ o. on_shape o (slot_shape low width)) (slice_get-map (λ (x : Net). x.shape) d.nets n ∙ ap (option_map (λ (x : Net). x.shape)) driven.1)
        ∙ whole_shape low width (driven.0).shape whole.0 whole.1
drives_to d a (target.Var v path) leaves whole driven is = absurd whole
drives_to d a (target.Local i path) leaves whole driven is = absurd whole

pub drives_net : (d : Design) (a : ℕ) (assign : Assign) (c : IsConstantDriver assign) → IsAssign (design_scope d) d.nets a assign → DrivesNet d a assign c.constant.0
drives_net d a assign c is =
    let to = drives_to d a assign.target is.shape.0 c.whole is.target is.shape.1 in
    record {
      net = to.0;
      here = to.1;
      is = subst (λ r. IsValueOf r c.constant.0) to.2 (const_back (scope_with d [] None) c.constant.0 is.shape.0 (sym (ap (tree_shape (scope_with d [] None)) c.constant.1) ∙ is.shape.2));
      slot = to.3;
    }

pub record AssignWithin (d : Design) (s : MachineState) (a : ℕ) (assign : Assign) : Type 0 where
  pub at_assign : a < length d.assigns
  pub at_slot : a < length s.slots
  pub at_count : a < length s.evaluations
  pub at_net : net_of assign.target < length s.resolutions
  pub net_there : net_of assign.target < length d.nets

pub assign_within : (d : Design) (s : MachineState) (a : ℕ) (assign : Assign) → IsDesign d → IsPlain d → IsStateOf d s → slice_get d.assigns a ≡ Some assign → AssignWithin d s a assign
assign_within d s a assign is plain of here =
    let below : a < length d.assigns = slice_get_within d.assigns a assign here in
    let drives = drives_net d a assign (plain.assigns a assign here) (is.assigns a assign here) in
    let net : net_of assign.target < length d.nets = slice_get_within d.nets (net_of assign.target) drives.net drives.here in
    record {
      at_assign = below;
      at_slot = omega (arith, below, slots_long d s of);
      at_count = omega (arith, below, of.evaluations);
      at_net = omega (arith, net, of.resolutions);
      net_there = net;
    }

pub record NetWithin (d : Design) (s : MachineState) (n : ℕ) (net : Net) : Type 0 where
  pub at_net : n < length d.nets
  pub at_value : n < length s.nets
  pub at_count : n < length s.resolutions
  pub driven : (slot a : ℕ) → slice_get net.slots slot ≡ Some a → a < length s.slots

pub net_within : (d : Design) (s : MachineState) (n : ℕ) (net : Net) → IsDesign d → IsStateOf d s → slice_get d.nets n ≡ Some net → NetWithin d s n net
net_within d s n net is of here =
    let below : n < length d.nets = slice_get_within d.nets n net here in
    record {
      at_net = below;
      at_value = omega (arith, below, nets_long d s of);
      at_count = omega (arith, below, of.resolutions);
      driven = λ slot a at. let drives = (is.nets n net here).driven slot a at in
          let there : a < length d.assigns = slice_get_within d.assigns a drives.0 drives.1 in
          omega (arith, there, slots_long d s of);
    }

-- ---- what events keep
no_proc : (procs : List Proc) (p : ℕ) (proc : Proc) → procs ≡ [] → slice_get procs p ≡ Some proc → ⊥
no_proc [] p proc h at = none-some proc at
no_proc (x ∷ xs) p proc h at = let e = ap length h in omega (arith, e)

pub evaluates_keeps : (d : Design) (s : MachineState) (a : ℕ) (assign : Assign) (c : IsConstantDriver assign) → IsDesign d → IsPlain d → IsStateOf d s → slice_get d.assigns a ≡ Some assign → IsStateOf d (driven_plain s a (net_of assign.target) c.constant.0)
evaluates_keeps d s a assign c is plain of here = record {
  moment = of.moment;
  vars = of.vars;
  nets = of.nets;
  slots = value_set (map (λ (x : Assign). driver_shape d x.target) d.assigns) s.slots a c.constant.0 of.slots same;
  standings = of.standings;
  work = of.work;
  locals = of.locals;
  locals_filled = of.locals_filled;
  fresh = of.fresh;
  evaluations = length-set s.evaluations a _ ∙ of.evaluations;
  resolutions = counts (is_same (value_at s.slots a) c.constant.0);
  procs = λ p proc at. absurd (no_proc d.procs p proc plain.procs at);
  nonblocking = of.nonblocking;
  moved = of.moved;
}
  where
    drives : DrivesNet d a assign c.constant.0
    drives = drives_net d a assign c (is.assigns a assign here)

    same : IsValueOf (get_or (map (λ (x : Assign). driver_shape d x.target) d.assigns) a []) c.constant.0
    same =
        subst (λ r. IsValueOf r c.constant.0) (sym drives.slot ∙ sym (driver_shape_there d a assign here)) drives.is

    counts : (b : Bool) → length (if b then s.resolutions else more s.resolutions (net_of assign.target)) ≡ length d.nets
    counts true = of.resolutions
    counts false = length-set s.resolutions (net_of assign.target) _ ∙ of.resolutions

and_first : (a b : Bool) → (a && b) ≡ true → a ≡ true
and_first true b h = refl
and_first false b h = absurd (false≢true h)

and_second : (a b : Bool) → (a && b) ≡ true → b ≡ true
and_second true b h = h
and_second false b h = absurd (false≢true h)

both : (a b : Bool) → a ≡ true → b ≡ true → (a && b) ≡ true
both true b p q = q
both false b p q = absurd (false≢true p)

-- the first slot that an order names is one of the net's
pub first_below : (n first : ℕ) (rest : List ℕ) → is_order n (first ∷ rest) ≡ true → first < n
first_below n first rest h =
    ltb-true first n (and_first _ _ (and_second (length (first ∷ rest) == n) _ (and_first _ _ h)))

-- the value of a net without a resolution function
pub net_value_some : (d : Design) (kind : NetKind) (shape : List Leaf) (values : List Value) → kind ≡ Unresolved → (value : Value) × (net_value d kind shape values ≡ Some value)
net_value_some d kind shape values h =
    subst (λ k. (value : Value) × (net_value d k shape values ≡ Some value)) (sym h) (some values)
  where
    some : (values : List Value) → (value : Value) × (net_value d Unresolved shape values ≡ Some value)
    some [] = (default_value shape, refl)
    some (v ∷ vs) = (v, refl)

resolved_shape : (d : Design) (s : MachineState) (n : ℕ) (net : Net) (order : List ℕ) (value : Value) → IsDesign d → IsPlain d → IsStateOf d s → slice_get d.nets n ≡ Some net → is_order (length net.slots) order ≡ true → net_value d net.kind net.shape (in_order s.slots net.slots order) ≡ Some value → IsValueOf net.shape value
resolved_shape d s n net order value is plain of here ordered value_is =
    by_order order ordered (subst (λ k. net_value d k net.shape (in_order s.slots net.slots order) ≡ Some value) (plain.nets n net here) value_is)
  where
    by_order : (order : List ℕ) → is_order (length net.slots) order ≡ true → net_value d Unresolved net.shape (in_order s.slots net.slots order) ≡ Some value → IsValueOf net.shape value
    by_order [] ok h = subst (IsValueOf net.shape) (same_Some (default_value net.shape) value h) (default_is net.shape)
    by_order (first ∷ rest) ok h =
        let below = first_below (length net.slots) first rest ok in
        let drives = (is.nets n net here).driven first (get_or net.slots first 0) (slice_get-get_or net.slots first 0 below) in
        subst (IsValueOf net.shape) (same_Some (value_at s.slots (get_or net.slots first 0)) value h)
        (subst (λ r. IsValueOf r (value_at s.slots (get_or net.slots first 0))) (slot_of_net d n first (drives.0).target drives.2 ∙ net_shape_there d n net here) (slot_has d s (get_or net.slots first 0) drives.0 of drives.1))

pub resolves_keeps : (d : Design) (s : MachineState) (n : ℕ) (net : Net) (order : List ℕ) (value : Value) → IsDesign d → IsPlain d → IsStateOf d s → slice_get d.nets n ≡ Some net → is_order (length net.slots) order ≡ true → net_value d net.kind net.shape (in_order s.slots net.slots order) ≡ Some value → IsStateOf d (published_plain s n value)
resolves_keeps d s n net order value is plain of here ordered value_is = record {
  moment = of.moment;
  vars = of.vars;
  nets = value_set (net_shapes d) s.nets n value of.nets (subst (λ r. IsValueOf r value) (sym (net_shape_there d n net here)) (resolved_shape d s n net order value is plain of here ordered value_is));
  slots = of.slots;
  standings = of.standings;
  work = of.work;
  locals = of.locals;
  locals_filled = of.locals_filled;
  fresh = of.fresh;
  evaluations = of.evaluations;
  resolutions = length-set s.resolutions n _ ∙ of.resolutions;
  procs = λ p proc at. absurd (no_proc d.procs p proc plain.procs at);
  nonblocking = of.nonblocking;
  moved = of.moved;
}

pub driven_still : (s : MachineState) (a n : ℕ) (value : Value) → IsPlainState s → IsPlainState (driven_plain s a n value)
driven_still s a n value still = record {
  standings = still.standings;
  work = still.work;
  nonblocking = still.nonblocking;
  moved = still.moved;
  shown = still.shown;
  finished = still.finished;
}

pub published_still : (s : MachineState) (n : ℕ) (value : Value) → IsPlainState s → IsPlainState (published_plain s n value)
published_still s n value still = record {
  standings = still.standings;
  work = still.work;
  nonblocking = still.nonblocking;
  moved = still.moved;
  shown = still.shown;
  finished = still.finished;
}

-- ---- what is pending and what is allowed
some_at : {X : Type 0} (xs : List X) (i : ℕ) → i < length xs → (x : X) × (slice_get xs i ≡ Some x)
some_at [] i h = absurd (omega (arith, h))
some_at (x ∷ xs) zero h = (x, refl)
some_at (x ∷ xs) (suc i) h = some_at xs i (omega (arith, h))

-- an evaluation is allowed exactly where it is pending
pub evaluation_allowed : (d : Design) (s : MachineState) (a : ℕ) (b : Bool) → IsPlain d → b ≡ is_pending d s (AssignEvent a) → IsTrue b ↔ IsSome (step d s (AssignEvent a))
unfolding is_pending
evaluation_allowed d s a b plain is = (there, back)
  where
    there : IsTrue b → IsSome (step d s (AssignEvent a))
    there h =
        let pending = sym is ∙ h in
        let active = and_first (nat_lt 0 (count_at s.evaluations a)) _ pending in
        let below = ltb-true a (length d.assigns) (and_second (nat_lt 0 (count_at s.evaluations a)) _ pending) in
        let assign = some_at d.assigns a below in
        ap (λ (o : Option MachineState). is_some o) (step_evaluates d s a assign.0 (plain.assigns a assign.0 assign.1) active assign.1)

    back : IsSome (step d s (AssignEvent a)) → IsTrue b
    back h =
        let x = evaluates d s a h in
        is ∙ both (nat_lt 0 (count_at s.evaluations a)) _ x.active (lt-ltb a (length d.assigns) (slice_get_within d.assigns a x.assign x.here))

order_there : (o : Option Net) (order : List ℕ) → is_order_of o order ≡ true → (net : Net) × (o ≡ Some net) × (is_order (length net.slots) order ≡ true)
order_there None order h = absurd (false≢true h)
order_there (Some net) order h = (net, refl, h)

-- a resolution is allowed exactly where it is pending
pub resolution_allowed : (d : Design) (s : MachineState) (n : ℕ) (order : List ℕ) (b : Bool) → IsPlain d → IsPlainState s → b ≡ is_pending d s (Resolve n order) → IsTrue b ↔ IsSome (step d s (Resolve n order))
unfolding is_pending
resolution_allowed d s n order b plain still is = (there, back)
  where
    there : IsTrue b → IsSome (step d s (Resolve n order))
    there h =
        let pending = sym is ∙ h in
        let o = order_there (slice_get d.nets n) order (and_second (nat_lt 0 (count_at s.resolutions n)) _ pending) in
        let v = net_value_some d o.0.kind o.0.shape (in_order s.slots o.0.slots order) (plain.nets n o.0 o.1) in
        ap (λ (x : Option MachineState). is_some x) (step_resolves d s n order o.0 v.0 plain still (and_first _ _ pending) o.1 o.2 v.1)

    back : IsSome (step d s (Resolve n order)) → IsTrue b
    back h =
        let x = resolves d s n order h in
        is ∙ both (nat_lt 0 (count_at s.resolutions n)) _ x.active (ap (λ (o : Option Net). is_order_of o order) x.here ∙ x.ordered)

-- the value of a net with a driver is that of the slot that its order names first
pub driver_value : (d : Design) (kind : NetKind) (shape : List Leaf) (slots : List Value) (drivers order : List ℕ) (a : ℕ) (value : Value) → kind ≡ Unresolved → 1 ≤ length order → slice_get drivers (get_or order 0 0) ≡ Some a → slice_get slots a ≡ Some value → net_value d kind shape (in_order slots drivers order) ≡ Some value
driver_value d kind shape slots drivers order a value h some driver slot =
    subst (λ k. net_value d k shape (in_order slots drivers order) ≡ Some value) (sym h) (by_order order some driver)
  where
    by_order : (order : List ℕ) → 1 ≤ length order → slice_get drivers (get_or order 0 0) ≡ Some a → net_value d Unresolved shape (in_order slots drivers order) ≡ Some value
    by_order [] some driver = absurd (omega (arith, some))
    by_order (first ∷ rest) some driver =
        ap (λ (v : Value). Some v) (ap (λ k. value_at slots k) (get_or_from_slice_get drivers first a 0 driver) ∙ get_or_from_slice_get slots a value [] slot)

-- a net that drives itself by nothing takes its default
pub no_driver_value : (d : Design) (kind : NetKind) (shape : List Leaf) (slots : List Value) (drivers : List ℕ) → kind ≡ Unresolved → net_value d kind shape (in_order slots drivers []) ≡ Some (default_value shape)
no_driver_value d kind shape slots drivers h =
    ap (λ k. net_value d k shape (in_order slots drivers [])) h

-- a resolution that is allowed, of this net
pub same_net : (d : Design) (s : MachineState) (n : ℕ) (order : List ℕ) (net : Net) → IsSome (step d s (Resolve n order)) → slice_get d.nets n ≡ Some net → (is_order (length net.slots) order ≡ true) × (nat_lt 0 (count_at s.resolutions n) ≡ true)
same_net d s n order net h here =
    let x = resolves d s n order h in
    let same : x.net ≡ net = same_Some x.net net (sym x.here ∙ here) in
    (subst (λ (y : Net). is_order (length y.slots) order ≡ true) same x.ordered, x.active)

-- no statement step and no update is in Active
nothing_at : (s : MachineState) (p : ℕ) → IsPlainState s → is_pending_at s (standing_at s p) ≡ false
nothing_at s p still = ap (λ places. is_pending_at s (get_or places p Over)) still.standings

pub no_statement : (d : Design) (s : MachineState) (p : ℕ) → IsPlainState s → step d s (Stmt p) ≡ None
unfolding step
no_statement d s p still = ap (λ b. only_if b (proc_step d p s (work_at s p))) (nothing_at s p still)

pub no_update : (d : Design) (s : MachineState) → IsPlainState s → step d s Update ≡ None
unfolding step
no_update d s still = ap (update_step d s) still.moved

-- ---- what a run needs
-- an evaluation that is in Active is allowed
pub can_evaluate : (d : Design) (s : MachineState) (a : ℕ) (assign : Assign) → IsPlain d → slice_get d.assigns a ≡ Some assign → 0 < count_at s.evaluations a → IsSome (step d s (AssignEvent a))
can_evaluate d s a assign plain here active =
    ap (λ (o : Option MachineState). is_some o) (step_evaluates d s a assign (plain.assigns a assign here) (lt-ltb 0 (count_at s.evaluations a) active) here)

-- so is a resolution that is in Active, in each order of its net's slots
pub can_resolve : (d : Design) (s : MachineState) (n : ℕ) (order : List ℕ) (net : Net) → IsPlain d → IsPlainState s → slice_get d.nets n ≡ Some net → is_order (length net.slots) order ≡ true → 0 < count_at s.resolutions n → IsSome (step d s (Resolve n order))
can_resolve d s n order net plain still here ordered active =
    let v = net_value_some d net.kind net.shape (in_order s.slots net.slots order) (plain.nets n net here) in
    ap (λ (o : Option MachineState). is_some o) (step_resolves d s n order net v.0 plain still (lt-ltb 0 (count_at s.resolutions n) active) here ordered v.1)

-- what an evaluation leaves
pub evaluated_to : (d : Design) (s t : MachineState) (a : ℕ) → IsPlain d → step d s (AssignEvent a) ≡ Some t → (n : ℕ) × (value : Value) × (t ≡ driven_plain s a n value)
evaluated_to d s t a plain h =
    let x = evaluates d s a (ap (λ (o : Option MachineState). is_some o) h) in
    let c = plain.assigns a x.assign x.here in
    (net_of x.assign.target, c.constant.0, same_Some t _ (sym h ∙ step_evaluates d s a x.assign c x.active x.here))

-- what a resolution leaves
pub resolved_to : (d : Design) (s t : MachineState) (n : ℕ) (order : List ℕ) → IsPlain d → IsPlainState s → step d s (Resolve n order) ≡ Some t → (value : Value) × (t ≡ published_plain s n value)
resolved_to d s t n order plain still h =
    let x = resolves d s n order (ap (λ (o : Option MachineState). is_some o) h) in
    let v = net_value_some d x.net.kind x.net.shape (in_order s.slots x.net.slots order) (plain.nets n x.net x.here) in
    (v.0, same_Some t _ (sym h ∙ step_resolves d s n order x.net v.0 plain still x.active x.here x.ordered v.1))

-- the value that an evaluation gave is that of its constant
pub given_value : (functions : List Function) (env : Env) (assign : Assign) (c : IsConstantDriver assign) (value : Value) → meaning functions env assign.right ≡ Some value → value ≡ c.constant.0
given_value functions env assign c value is =
    same_Some value c.constant.0 (sym is ∙ meaning_of_const functions env assign.right c.constant.0 c.constant.0 c.constant.1 refl)

pub value_given : (functions : List Function) (env : Env) (assign : Assign) → IsConstantDriver assign → meaning functions env assign.right ≡ None → ⊥
value_given functions env assign c none =
    none-some c.constant.0 (sym none ∙ meaning_of_const functions env assign.right c.constant.0 c.constant.0 c.constant.1 refl)

-- an event is allowed exactly where it is pending
pub event_allowed : (d : Design) (s : MachineState) (e : Event) (b : Bool) → IsPlain d → IsPlainState s → b ≡ is_pending d s e → IsTrue b ↔ IsSome (step d s e)
unfolding is_pending
event_allowed d s (Stmt p) b plain still is = (
  λ h. absurd (false≢true (sym (ap (λ x. x && is_some_work (work_at s p)) (nothing_at s p still)) ∙ sym is ∙ h)),
  λ h. absurd (false≢true (sym (ap (λ (o : Option MachineState). is_some o) (no_statement d s p still)) ∙ h)),
)
event_allowed d s (AssignEvent a) b plain still is = evaluation_allowed d s a b plain is
event_allowed d s Update b plain still is = (
  λ h. absurd (false≢true (sym (ap is_some_put still.moved) ∙ sym is ∙ h)),
  λ h. absurd (false≢true (sym (ap (λ (o : Option MachineState). is_some o) (no_update d s still)) ∙ h)),
)
event_allowed d s (Resolve n order) b plain still is = resolution_allowed d s n order b plain still is

-- a statement step or an update is not allowed
pub no_other : (d : Design) (s : MachineState) (e : Event) → IsPlainState s → ((p : ℕ) × (e ≡ Stmt p)) ⊎ (e ≡ Update) → IsSome (step d s e) → ⊥
no_other d s e still (inl is) h =
    false≢true (sym (ap (λ (o : Option MachineState). is_some o) (ap (step d s) is.1 ∙ no_statement d s is.0 still)) ∙ h)
no_other d s e still (inr is) h =
    false≢true (sym (ap (λ (o : Option MachineState). is_some o) (ap (step d s) is ∙ no_update d s still)) ∙ h)

-- a state that an evaluation left, by the net and the value that are the driver's
pub driven_as : (s t : MachineState) (a n m : ℕ) (v w : Value) → n ≡ m → v ≡ w → t ≡ driven_plain s a n v → driven_plain s a m w ≡ t
driven_as s t a n m v w same_net same_value is = sym (is ∙ (λ i. driven_plain s a (same_net i) (same_value i)))
