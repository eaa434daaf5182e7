-- A further copy of a resolution or of an evaluation, right after it, changes nothing.
use Rattle.std.proofs.Common.{◌≡◌, ℕ, zero, suc, ◌+◌, ◌<◌, Bool, true, false, ◌&&◌, not, nat_lt, if◌then◌else◌, List, [], ◌∷◌, ◌++◌, map, length, get_or, slice_set, Some, None, Option, refl, sym, ◌∙◌, ap, subst, arith, lt-ltb, get_or-set_same}
use Rattle.std.specs.Prelude.{slice_get, option_and_then, drop, ◌||◌}
use Rattle.std.specs.List.{list_any, list_all}
use Rattle.std.proofs.lemmas.Bool.{eq-eqb}
use Rattle.std.proofs.lemmas.List.{get_or-set_other, length-map}
use Rattle.std.proofs.Math.Seq.{drop-append_seam}
use Rattle.std.proofs.lemmas.Option.{same_Some, slice_get_within}
use Rattle.nt_design.proofs.Frame.{frame}
use Rattle.nt_design.specs.Expressions.{value_of, object_in}
use Rattle.nt_design.specs.Meaning.{most_turns}
use Rattle.nt_design.specs.Parts.{Value}
use Rattle.nt_design.specs.Reads.{reads_of}
use Rattle.nt_design.specs.Turns.{Timed, Timing}
use Rattle.nt_design.specs.Worlds.{Alike}
use Rattle.nt_design.specs.declared.target.Pick.{Pick}
use Rattle.nt_semantics.specs.Execution.{reads_target, reads_own_target}
use Rattle.nt_design.specs.declared.process.Assign.{Assign}
use Rattle.nt_design.specs.declared.tree.Tree.{Tree}
use Rattle.nt_value.specs.Values.{shape_of}
use Rattle.nt_value.specs.declared.leaf.Leaf.{Leaf}
use Rattle.nt_design.specs.Shapes.{Shaped, on_shape, path_shape, target_shape}
use Rattle.nt_design.specs.WellFormed.{IsDesign, net_shapes, var_shapes, scope_with}
use Rattle.nt_design.specs.declared.design.Design.{Design}
use Rattle.nt_design.specs.declared.object.Net.{Net}
use Rattle.nt_design.specs.declared.object.Object.{Object}
use Rattle.nt_design.specs.declared.object.Object.TheVariants as object
use Rattle.nt_design.specs.declared.target.Target.{Target}
use Rattle.nt_design.specs.declared.target.Target.TheVariants as target
use Rattle.nt_semantics.proofs.Sames.{values_decide}
use Rattle.nt_semantics.specs.Laws.{without, AgainChangesNothing}
use Rattle.nt_semantics.specs.StateFits.{IsStateOf, driver_shape}
use Rattle.nt_design.specs.Puts.{after_put, leaves_put}
use Rattle.nt_semantics.specs.Same.{is_same, is_same_object}
use Rattle.nt_semantics.specs.State.{MachineState, value_at, count_at, net_shape, more, world_of_state}
use Rattle.nt_semantics.specs.Step.{step, set_net, put_var, resolve_step, take_resolution, only_if, is_order, in_order, net_value, drive, contribution, take_evaluation, assign_step, in_turns}
use Rattle.nt_semantics.specs.Wake.{wake, functions_of}
use Rattle.nt_design.specs.declared.put.Put.{Put}
use Rattle.nt_semantics.specs.declared.event.Event.TheVariants.{Stmt, Assign as AssignEvent, Update, Resolve}

true_false : true ≡ false → ⊥
true_false h = cc

none_some : (t : MachineState) → None ≡ Some t → ⊥
none_some t h = cc

-- ---- writes of what is there
set_back : (xs : List Value) (i : ℕ) → slice_set xs i (value_at xs i) ≡ xs
set_back [] i = refl
set_back (x ∷ xs) zero = refl
set_back (x ∷ xs) (suc i) = ap (λ (l : List Value). x ∷ l) (set_back xs i)

same_itself : (a b : Value) → a ≡ b → not (is_same a b) ≡ false
same_itself a b h = rw ((values_decide a b).1 h) refl

unwoken : (d : Design) (o : Object) (s : MachineState) → wake d o false s ≡ s
unfolding wake
unwoken d o s = refl

pub set_net_same : (d : Design) (n : ℕ) (value : Value) (s : MachineState) → value_at s.nets n ≡ value → set_net d n value s ≡ s
unfolding set_net
set_net_same d n value s h =
    ap (λ (b : Bool). wake d (object.Net n) b (record s { nets = slice_set s.nets n value })) (same_itself (value_at s.nets n) value h)
    ∙ (unwoken d (object.Net n) (record s { nets = slice_set s.nets n value })
    ∙ ap (λ (xs : List Value). record s { nets = xs }) (subst (λ (v : Value). slice_set s.nets n v ≡ s.nets) h (set_back s.nets n)))

pub put_var_same : (d : Design) (put : Put) (s : MachineState) → value_at s.vars put.var ≡ after_put put (value_at s.vars put.var) → put_var d put s ≡ s
unfolding put_var
put_var_same d put s h =
    let new = after_put put (value_at s.vars put.var) in
    ap (λ (b : Bool). wake d (object.Var put.var) b (record s { vars = slice_set s.vars put.var new })) (same_itself (value_at s.vars put.var) new h)
    ∙ (unwoken d (object.Var put.var) (record s { vars = slice_set s.vars put.var new })
    ∙ ap (λ (xs : List Value). record s { vars = xs }) (subst (λ (v : Value). slice_set s.vars put.var v ≡ s.vars) h (set_back s.vars put.var)))

-- ---- resolutions
slots_kept : (d : Design) (n : ℕ) (value : Value) (s : MachineState) → (set_net d n value s).slots ≡ s.slots
unfolding set_net wake
slots_kept d n value s = refl

net_taken : (d : Design) (n : ℕ) (value : Value) (s : MachineState) → n < length s.nets → value_at (set_net d n value s).nets n ≡ value
unfolding set_net wake
net_taken d n value s below = get_or-set_same s.nets n value [] below

net_again : (d : Design) (n : ℕ) (order : List ℕ) (t : MachineState) (slots : List Value) (net : Net) (value : Value) → t.slots ≡ slots → net_value d net.kind net.shape (in_order slots net.slots order) ≡ Some value → value_at t.nets n ≡ value → is_order (length net.slots) order ≡ true → resolve_step d n order t net ≡ Some (take_resolution n t)
net_again d n order t slots net value same is there ordered =
    let of_t = ap (λ (xs : List Value). net_value d net.kind net.shape (in_order xs net.slots order)) same ∙ is in
    rw (ordered, of_t) (ap (λ (u : MachineState). Some u) (set_net_same d n value (take_resolution n t) there))

step_again : (d : Design) (n : ℕ) (order : List ℕ) (t : MachineState) (net : Net) → slice_get d.nets n ≡ Some net → resolve_step d n order t net ≡ Some (take_resolution n t) → 0 < count_at t.resolutions n → step d t (Resolve n order) ≡ Some (without t (Resolve n order))
unfolding step
step_again d n order t net here is left =
    rw (lt-ltb 0 (count_at t.resolutions n) left, here) is

-- a net's resolution that led from s to t
resolve_again : (d : Design) (n : ℕ) (order : List ℕ) (s t : MachineState) (net : Net) → n < length s.nets → slice_get d.nets n ≡ Some net → resolve_step d n order s net ≡ Some t → 0 < count_at t.resolutions n → step d t (Resolve n order) ≡ Some (without t (Resolve n order))
resolve_again d n order s t net below here h left =
    of_order (is_order (length net.slots) order) refl (net_value d net.kind net.shape (in_order s.slots net.slots order)) refl h
  where
    of_order : (is : Bool) → is_order (length net.slots) order ≡ is → (o : Option Value) → net_value d net.kind net.shape (in_order s.slots net.slots order) ≡ o → only_if is (option_and_then (λ v. Some (set_net d n v (take_resolution n s))) o) ≡ Some t → step d t (Resolve n order) ≡ Some (without t (Resolve n order))
    of_order false ordered o is g = absurd (none_some t g)
    of_order true ordered None is g = absurd (none_some t g)
    of_order true ordered (Some value) is g =
        let to : set_net d n value (take_resolution n s) ≡ t = same_Some (set_net d n value (take_resolution n s)) t g in
        step_again d n order t net here (net_again d n order t s.slots net value (ap (λ (u : MachineState). u.slots) (sym to) ∙ slots_kept d n value (take_resolution n s)) is (ap (λ (u : MachineState). value_at u.nets n) (sym to) ∙ net_taken d n value (take_resolution n s) below) ordered) left

-- ---- evaluations
-- a driver's slot that has its contribution already
slot_same : (d : Design) (a : ℕ) (value : Value) (s : MachineState) (n slot low width : ℕ) → value_at s.slots a ≡ contribution (net_shape d n) low width value → drive d a value s (target.Slot n slot low width) ≡ s
slot_same d a value s n slot low width h =
    let new = contribution (net_shape d n) low width value in
    ap (λ (b : Bool). record s { slots = slice_set s.slots a new; resolutions = if b then s.resolutions else more s.resolutions n }) ((values_decide (value_at s.slots a) new).1 h)
    ∙ ap (λ (xs : List Value). record s { slots = xs }) (subst (λ (v : Value). slice_set s.slots a v ≡ s.slots) h (set_back s.slots a))

-- a whole write over itself
write_twice : (v : ℕ) (value old : Value) → after_put (leaves_put v 0 value) (after_put (leaves_put v 0 value) old) ≡ after_put (leaves_put v 0 value) old
unfolding after_put
write_twice v value old =
    let start : 0 + length value ≡ length value = omega arith in
    rw start (ap (λ (xs : Value). value ++ xs) (drop-append_seam value (drop (length value) old)))

put_taken : (d : Design) (put : Put) (s : MachineState) → put.var < length s.vars → value_at (put_var d put s).vars put.var ≡ after_put put (value_at s.vars put.var)
unfolding put_var wake
put_taken d put s below = get_or-set_same s.vars put.var (after_put put (value_at s.vars put.var)) [] below

-- an evaluation of an assignment gives this value in a state
abbrev Evaluates : Design → ℕ → MachineState → Assign → Value → Type 0
Evaluates d a s assign value =
    (left : ℕ) × (value_of (functions_of d) (world_of_state s) assign.right [] most_turns ≡ Some (value, left))

-- an evaluation in a state that has its value already
evaluates_same : (d : Design) (a : ℕ) (t : MachineState) (assign : Assign) (value : Value) → slice_get d.assigns a ≡ Some assign → Evaluates d a t assign value → drive d a value (take_evaluation a t) assign.target ≡ take_evaluation a t → 0 < count_at t.evaluations a → step d t (AssignEvent a) ≡ Some (without t (AssignEvent a))
unfolding step
evaluates_same d a t assign value here is same left =
    rw (lt-ltb 0 (count_at t.evaluations a) left, here, is.1) (ap (λ (u : MachineState). Some u) same)

-- what an evaluation of a slot leaves as it was
slot_world : (d : Design) (a : ℕ) (value : Value) (s : MachineState) (n slot low width : ℕ) → world_of_state (drive d a value (take_evaluation a s) (target.Slot n slot low width)) ≡ world_of_state s
slot_world d a value s n slot low width = refl

slot_again : (d : Design) (a : ℕ) (s t : MachineState) (right : Tree) (value : Value) (n slot low width : ℕ) → a < length s.slots → drive d a value (take_evaluation a s) (target.Slot n slot low width) ≡ t → drive d a value (take_evaluation a t) (target.Slot n slot low width) ≡ take_evaluation a t
slot_again d a s t right value n slot low width below to =
    slot_same d a value (take_evaluation a t) n slot low width (ap (λ (u : MachineState). value_at u.slots a) (sym to) ∙ get_or-set_same s.slots a (contribution (net_shape d n) low width value) [] below)

-- a whole write into a variable, made again
var_again : (d : Design) (a : ℕ) (s t : MachineState) (value : Value) (v : ℕ) → v < length s.vars → put_var d (leaves_put v 0 value) (take_evaluation a s) ≡ t → put_var d (leaves_put v 0 value) (take_evaluation a t) ≡ take_evaluation a t
var_again d a s t value v below to =
    let put = leaves_put v 0 value in
    let old = value_at s.vars v in
    let there : value_at t.vars v ≡ after_put put old = ap (λ (u : MachineState). value_at u.vars v) (sym to) ∙ put_taken d put (take_evaluation a s) below in
    put_var_same d put (take_evaluation a t) (there ∙ sym (ap (after_put put) there ∙ write_twice v value old))

-- ---- an assignment that doesn't read what it writes
abbrev other_than : ℕ → Object → Bool
other_than v o = not (is_same_object o (object.Var v))

others_only : (v : ℕ) (objects : List Object) → list_any (λ o. is_same_object (object.Var v) o) objects ≡ false → list_all (λ o. not (is_same_object (object.Var v) o)) objects ≡ true
others_only v [] h = refl
others_only v (o ∷ objects) h = of_test (λ g. others_only v objects g) (is_same_object (object.Var v) o) h
  where
    of_test : (list_any (λ o. is_same_object (object.Var v) o) objects ≡ false → list_all (λ o. not (is_same_object (object.Var v) o)) objects ≡ true) → (is : Bool) → (is || list_any (λ o. is_same_object (object.Var v) o) objects) ≡ false → (not is && list_all (λ o. not (is_same_object (object.Var v) o)) objects) ≡ true
    of_test rest true g = absurd (true_false g)
    of_test rest false g = rest g

-- other variables stay
others_stay : (d : Design) (put : Put) (s : MachineState) (w : ℕ) → (w ≡ put.var → ⊥) → value_at (put_var d put s).vars w ≡ value_at s.vars w
unfolding put_var wake
others_stay d put s w differs =
    get_or-set_other s.vars put.var w (after_put put (value_at s.vars put.var)) [] differs

put_time : (d : Design) (put : Put) (s : MachineState) → (put_var d put s).moment ≡ s.moment
unfolding put_var wake
put_time d put s = refl

put_nets : (d : Design) (put : Put) (s : MachineState) → (put_var d put s).nets ≡ s.nets
unfolding put_var wake
put_nets d put s = refl

put_alike : (d : Design) (put : Put) (s t : MachineState) → put_var d put s ≡ t → Alike (λ o. not (is_same_object (object.Var put.var) o)) (world_of_state t) (world_of_state s)
put_alike d put s t to = record {
  objects = same;
  time = ap (λ (u : MachineState). u.moment) (sym to) ∙ put_time d put s;
  many = refl;
  element = refl;
}
  where
    same : (o : Object) → not (is_same_object (object.Var put.var) o) ≡ true → object_in (world_of_state t) o ≡ object_in (world_of_state s) o
    same (object.Net n) h =
        ap (λ (u : MachineState). value_at u.nets n) (sym to) ∙ ap (λ (xs : List Value). value_at xs n) (put_nets d put s)
    same (object.Var w) h =
        ap (λ (u : MachineState). value_at u.vars w) (sym to) ∙ others_stay d put s w (λ e. true_false (sym h ∙ ap (λ (b : Bool). not b) (eq-eqb put.var w (sym e))))

-- ---- evaluations, again
-- which variables and slots there are
record Room (d : Design) (s : MachineState) (a : ℕ) (assign : Assign) : Type 0 where
  slot : a < length s.slots
  var : (v : ℕ) (path : List Pick) → assign.target ≡ target.Var v path → v < length s.vars

driven_again : (d : Design) (a : ℕ) (s t : MachineState) (assign : Assign) (value : Value) (to_target : Target) → assign.target ≡ to_target → Room d s a assign → reads_target assign to_target ≡ false → Evaluates d a s assign value → drive d a value (take_evaluation a s) to_target ≡ t → Evaluates d a t assign value × (drive d a value (take_evaluation a t) to_target ≡ take_evaluation a t)
driven_again d a s t assign value (target.Slot n slot low width) is room other of to =
    ((of.0, ap (λ (u : MachineState). value_of (functions_of d) (world_of_state u) assign.right [] most_turns) (sym to) ∙ of.1), slot_again d a s t assign.right value n slot low width room.slot to)
driven_again d a s t assign value (target.Var v path) is room other of to =
    let only = others_only v (reads_of assign.right) other in
    let alike = put_alike d (leaves_put v 0 value) (take_evaluation a s) t to in
    let same = ap (λ (m : Timing Value). m [] most_turns) (frame (λ o. not (is_same_object (object.Var v) o)) (functions_of d) (world_of_state t) (world_of_state s) alike assign.right only) in
    ((of.0, same ∙ of.1), var_again d a s t value v (room.var v path is) to)
driven_again d a s t assign value (target.Local i path) is room other of to =
    ((of.0, ap (λ (u : MachineState). value_of (functions_of d) (world_of_state u) assign.right [] most_turns) (sym to) ∙ of.1), refl)

assign_again : (d : Design) (a : ℕ) (s t : MachineState) (assign : Assign) → slice_get d.assigns a ≡ Some assign → Room d s a assign → reads_target assign assign.target ≡ false → assign_step d a s assign ≡ Some t → 0 < count_at t.evaluations a → step d t (AssignEvent a) ≡ Some (without t (AssignEvent a))
assign_again d a s t assign here room other h left =
    of_value (value_of (functions_of d) (world_of_state s) assign.right [] most_turns) refl h
  where
    of_value : (m : Timed Value) → value_of (functions_of d) (world_of_state s) assign.right [] most_turns ≡ m → in_turns (λ value. drive d a value (take_evaluation a s) assign.target) m ≡ Some t → step d t (AssignEvent a) ≡ Some (without t (AssignEvent a))
    of_value None is g = absurd (none_some t g)
    of_value (Some p) is g =
        let r = driven_again d a s t assign p.0 assign.target refl room other (p.1, is) (same_Some (drive d a p.0 (take_evaluation a s) assign.target) t g) in
        evaluates_same d a t assign p.0 here r.0 r.1 left

-- ---- all events
same_length : (xs : List Value) (shapes : List (List Leaf)) → map shape_of xs ≡ shapes → length xs ≡ length shapes
same_length xs shapes h = sym (length-map xs shape_of) ∙ ap (λ (l : List (List Leaf)). length l) h

has_shape : (shapes : List (List Leaf)) (v : ℕ) (go : List Leaf → Shaped) (leaves : List Leaf) → on_shape (slice_get shapes v) go ≡ Some leaves → v < length shapes
has_shape shapes v go leaves h = of_shape (slice_get shapes v) refl h
  where
    none_leaves : None ≡ Some leaves → ⊥
    none_leaves g = cc

    of_shape : (o : Shaped) → slice_get shapes v ≡ o → on_shape o go ≡ Some leaves → v < length shapes
    of_shape None is g = absurd (none_leaves g)
    of_shape (Some shape) is g = slice_get_within shapes v shape is

room_of : (d : Design) (s : MachineState) (a : ℕ) (assign : Assign) → IsDesign d → IsStateOf d s → slice_get d.assigns a ≡ Some assign → Room d s a assign
room_of d s a assign design is here = record {
  slot =
      let slots = same_length s.slots (map (λ (x : Assign). driver_shape d x.target) d.assigns) is.slots.leaves ∙ length-map d.assigns (λ (x : Assign). driver_shape d x.target) in
      subst (λ k. a < k) (sym slots) (slice_get_within d.assigns a assign here);
  var = λ v path to.
      let shape = (design.assigns a assign here).shape in
      let there = has_shape (var_shapes d) v (path_shape (scope_with d [] None) path) shape.0 (subst (λ (x : Target). target_shape (scope_with d [] None) x ≡ Some shape.0) to shape.1) in
      subst (λ k. v < k) (sym (same_length s.vars (var_shapes d) is.vars.leaves)) there;
}

own_at : (assigns : List Assign) (a : ℕ) (assign : Assign) → slice_get assigns a ≡ Some assign → get_or (map (λ (x : Assign). reads_target x x.target) assigns) a false ≡ reads_target assign assign.target
own_at [] a assign h = absurd (none_assign h)
  where
    none_assign : None ≡ Some assign → ⊥
    none_assign g = cc
own_at (x ∷ assigns) zero assign h = ap (λ (y : Assign). reads_target y y.target) (same_Some x assign h)
own_at (x ∷ assigns) (suc a) assign h = own_at assigns a assign h

not_false : (b : Bool) → not b ≡ true → b ≡ false
not_false true h = absurd (true_false (sym h))
not_false false h = refl

pub again : AgainChangesNothing
unfolding step
again d s t (Stmt p) design is may h left = absurd (true_false (sym may))
again d s t Update design is may h left = absurd (true_false (sym may))
again d s t (AssignEvent a) design is may h left =
    of_assign (nat_lt 0 (count_at s.evaluations a)) (slice_get d.assigns a) refl h
  where
    of_assign : (some : Bool) (o : Option Assign) → slice_get d.assigns a ≡ o → only_if some (option_and_then (assign_step d a s) o) ≡ Some t → step d t (AssignEvent a) ≡ Some (without t (AssignEvent a))
    of_assign false o here g = absurd (none_some t g)
    of_assign true None here g = absurd (none_some t g)
    of_assign true (Some assign) here g =
        assign_again d a s t assign here (room_of d s a assign design is here) (sym (own_at d.assigns a assign here) ∙ not_false (reads_own_target d a) may) g left
again d s t (Resolve n order) design is may h left =
    of_net (nat_lt 0 (count_at s.resolutions n)) (slice_get d.nets n) refl h
  where
    of_net : (some : Bool) (o : Option Net) → slice_get d.nets n ≡ o → only_if some (option_and_then (resolve_step d n order s) o) ≡ Some t → step d t (Resolve n order) ≡ Some (without t (Resolve n order))
    of_net false o here g = absurd (none_some t g)
    of_net true None here g = absurd (none_some t g)
    of_net true (Some net) here g =
        let nets = same_length s.nets (net_shapes d) is.nets.leaves ∙ length-map d.nets (λ (x : Net). x.shape) in
        resolve_again d n order s t net (subst (λ k. n < k) (sym nets) (slice_get_within d.nets n net here)) here g left
