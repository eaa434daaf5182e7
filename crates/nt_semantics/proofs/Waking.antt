-- Where a procedure stands after an event of another: where it stood, or it waited, and is ready or waits on.
use Rattle.std.proofs.Common.{◌≡◌, subst, ◌⊎◌, inl, inr, ℕ, zero, suc, ◌<◌, ◌≤◌, Bool, true, false, not, List, [], ◌∷◌, get_or, length, slice_get, slice_set, Option, Some, None, option_and_then, refl, sym, ◌∙◌, ap, arith, get_or-set_other}
use Rattle.std.proofs.lemmas.Bool.{false≢true}
use Rattle.std.proofs.lemmas.Option.{same_Some}
use Rattle.std.proofs.lemmas.List.{get_or_past}
use Rattle.std.proofs.lemmas.List.FromFn.{get_or-map-range_with_len, length-map-range_with_len}
use Rattle.std.proofs.Common.{nat_lt}
use Rattle.nt_design.specs.Expressions.{World, Calls}
use Rattle.nt_design.specs.Parts.{Value}
use Rattle.nt_design.specs.Turns.{Timed}
use Rattle.nt_design.specs.declared.design.Design.{Design}
use Rattle.nt_design.specs.declared.object.Net.{Net}
use Rattle.nt_design.specs.declared.object.Object.{Object}
use Rattle.nt_design.specs.declared.object.Object.TheVariants as object
use Rattle.nt_design.specs.declared.process.Assign.{Assign}
use Rattle.nt_design.specs.declared.target.Target.{Target}
use Rattle.nt_design.specs.declared.target.Target.TheVariants as target
use Rattle.nt_design.specs.Puts.{after_put, leaves_put}
use Rattle.nt_semantics.specs.Same.{is_same}
use Rattle.nt_semantics.specs.State.{MachineState, standing_at, work_at, locals_at, each_below, world_of_state, value_at, count_at}
use Rattle.nt_semantics.specs.declared.standing.Standing.{Standing}
use Rattle.nt_semantics.specs.declared.standing.Standing.TheVariants.{Unbegun, Ready, Inactive, Later, Waits, Over}
use Rattle.nt_semantics.specs.declared.work.Work.{Work}
use Rattle.nt_semantics.specs.Step.{step, only_if, in_turns, proc_step, assign_step, resolve_step, update_step, make_step, do_deed, standing_after_deed, drive, take_evaluation, put_var, set_net, take_resolution, is_order, is_pending_at}
use Rattle.nt_semantics.specs.Wake.{Waking, Asleep, Keeps, Wakes, functions_of, standing_after, wake, waking, waking_at}
use Rattle.nt_semantics.specs.declared.deed.Deed.{Deed}
use Rattle.nt_semantics.specs.declared.deed.Deed.TheVariants as deed
use Rattle.nt_design.specs.declared.put.Put.{Put}
use Rattle.nt_semantics.specs.declared.event.Event.{Event}
use Rattle.nt_semantics.specs.declared.event.Event.TheVariants.{Stmt, Assign as AssignEvent, Update, Resolve}
use Rattle.nt_semantics.specs.ReadyLists.{IsOther, StandsOn, is_live}
use Rattle.nt_semantics.specs.Laws.{OthersWakeTheWaiting}
use Rattle.nt_semantics.specs.Rounds.{is_waiting}

pub none_some : {A : Type 0} (x : A) → None ≡ Some x → ⊥
none_some x h = cc

-- ---- a wake
standing_on : (calls : Calls) (world : World) (o : Object) (standing : Standing) (items : List Work) (locals : List Value) → StandsOn standing (standing_after standing (waking calls world o standing items locals))
standing_on calls world o (Waits kept) items locals = of_waking (waking calls world o (Waits kept) items locals)
  where
    of_waking : (w : Waking) → StandsOn (Waits kept) (standing_after (Waits kept) w)
    of_waking Asleep = inl refl
    of_waking (Keeps new) = inr (refl, refl)
    of_waking (Wakes new) = inr (refl, refl)
standing_on calls world o Unbegun items locals = inl refl
standing_on calls world o Ready items locals = inl refl
standing_on calls world o Inactive items locals = inl refl
standing_on calls world o (Later at) items locals = inl refl
standing_on calls world o Over items locals = inl refl

pub lt_or_le : (k n : ℕ) → (k < n) ⊎ (n ≤ k)
lt_or_le k zero = inr (omega arith)
lt_or_le zero (suc n) = inl (omega arith)
lt_or_le (suc k) (suc n) = elim (lt_or_le k n) [
  | inl below ↦ inl (omega (arith, below))
  | inr past ↦ inr (omega (arith, past))
]

pub column_at : {A : Type 0} (at : ℕ → A) (n p : ℕ) (e : A) → p < n → get_or (each_below n at) p e ≡ at p
column_at at n p e low = get_or-map-range_with_len at 0 n p p e low (omega arith)

pub column_past : {A : Type 0} (at : ℕ → A) (n p : ℕ) (e : A) → n ≤ p → get_or (each_below n at) p e ≡ e
column_past at n p e past = get_or_past (each_below n at) p e (omega (arith, past, length-map-range_with_len at 0 n))

-- a change leaves a procedure where it stood, or wakes it
abbrev StandsFrom : MachineState → MachineState → ℕ → Type 0
StandsFrom s t p = StandsOn (standing_at s p) (standing_at t p)

wake_stands : (d : Design) (o : Object) (changed : Bool) (s : MachineState) (p : ℕ) → StandsFrom s (wake d o changed s) p
unfolding wake
wake_stands d o false s p = inl refl
wake_stands d o true s p = elim (lt_or_le p (length s.standings)) [
  | inl low ↦ subst (StandsOn (standing_at s p)) (sym (column_at (λ q. standing_after (standing_at s q) (waking_at d o s q)) (length s.standings) p Over low)) (standing_on (functions_of d) (world_of_state s) o (standing_at s p) (work_at s p) (locals_at s p))
  | inr past ↦ inl (column_past (λ q. standing_after (standing_at s q) (waking_at d o s q)) (length s.standings) p Over past ∙ sym (get_or_past s.standings p Over past))
]

put_stands : (d : Design) (put : Put) (s : MachineState) (p : ℕ) → StandsFrom s (put_var d put s) p
unfolding put_var
put_stands d put s p =
    wake_stands d (object.Var put.var) (not (is_same (value_at s.vars put.var) (after_put put (value_at s.vars put.var)))) (record s { vars = slice_set s.vars put.var (after_put put (value_at s.vars put.var)) }) p

net_stands : (d : Design) (n : ℕ) (new : Value) (s : MachineState) (p : ℕ) → StandsFrom s (set_net d n new s) p
unfolding set_net
net_stands d n new s p =
    wake_stands d (object.Net n) (not (is_same (value_at s.nets n) new)) (record s { nets = slice_set s.nets n new }) p

pub deed_stands : (d : Design) (x : Deed) (s : MachineState) (p : ℕ) → StandsFrom s (do_deed d x s) p
deed_stands d (deed.Writes put) s p = put_stands d put s p
deed_stands d deed.GoesOn s p = inl refl
deed_stands d (deed.Schedules put) s p = inl refl
deed_stands d (deed.SetsLocal local value) s p = inl refl
deed_stands d (deed.Delays amount) s p = inl refl
deed_stands d (deed.Waits kept) s p = inl refl
deed_stands d (deed.Displays line) s p = inl refl
deed_stands d deed.Finishes s p = inl refl

step_stands : (d : Design) (q : ℕ) (s : MachineState) (x : Deed × List Work) (p : ℕ) → (p ≡ q → ⊥) → StandsFrom s (make_step d q s x) p
unfolding make_step
step_stands d q s x p other =
    subst (λ before. StandsOn before (standing_at (make_step d q s x) p)) (get_or-set_other s.standings q p (standing_after_deed s.moment x.0 x.1) Over other) (deed_stands d x.0 _ p)

drive_stands : (d : Design) (a : ℕ) (value : Value) (s : MachineState) (t : Target) (p : ℕ) → StandsFrom s (drive d a value s t) p
drive_stands d a value s (target.Slot n slot low width) p = inl refl
drive_stands d a value s (target.Var v path) p = put_stands d (leaves_put v 0 value) s p
drive_stands d a value s (target.Local i path) p = inl refl

-- ---- a step
pub of_test : {A : Type 0} (b : Bool) (o : Option A) (t : A) → only_if b o ≡ Some t → o ≡ Some t
of_test true o t h = h
of_test false o t h = absurd (none_some t h)

pub of_turns : {A B : Type 0} (f : A → B) (o : Timed A) (t : B) → in_turns f o ≡ Some t → (x : A) × (f x ≡ t)
of_turns f None t h = absurd (none_some t h)
of_turns f (Some x) t h = (x.0, same_Some (f x.0) t h)

pub of_some : {A B : Type 0} (f : A → Option B) (o : Option A) (t : B) → option_and_then f o ≡ Some t → (x : A) × (f x ≡ Some t)
of_some f None t h = absurd (none_some t h)
of_some f (Some x) t h = (x, h)

stands_in : (s t u : MachineState) (p : ℕ) → u ≡ t → StandsFrom s u p → StandsFrom s t p
stands_in s t u p same h = subst (λ x. StandsFrom s x p) same h

proc_stands : (d : Design) (q : ℕ) (s t : MachineState) (items : List Work) (p : ℕ) → (p ≡ q → ⊥) → proc_step d q s items ≡ Some t → StandsFrom s t p
proc_stands d q s t [] p other h = absurd (none_some t h)
proc_stands d q s t (i ∷ rest) p other h =
    let x = of_turns (make_step d q s) _ t h in
    stands_in s t (make_step d q s x.0) p x.1 (step_stands d q s x.0 p other)

assign_stands : (d : Design) (a : ℕ) (s t : MachineState) (assign : Assign) (p : ℕ) → assign_step d a s assign ≡ Some t → StandsFrom s t p
assign_stands d a s t assign p h =
    let x = of_turns (λ value. drive d a value (take_evaluation a s) assign.target) _ t h in
    stands_in s t (drive d a x.0 (take_evaluation a s) assign.target) p x.1 (drive_stands d a x.0 (take_evaluation a s) assign.target p)

update_stands : (d : Design) (s t : MachineState) (puts : List Put) (p : ℕ) → update_step d s puts ≡ Some t → StandsFrom s t p
update_stands d s t [] p h = absurd (none_some t h)
update_stands d s t (put ∷ puts) p h =
    stands_in s t (put_var d put (record s { moved = puts })) p (same_Some (put_var d put (record s { moved = puts })) t h) (put_stands d put (record s { moved = puts }) p)

resolve_stands : (d : Design) (n : ℕ) (order : List ℕ) (s t : MachineState) (net : Net) (p : ℕ) → resolve_step d n order s net ≡ Some t → StandsFrom s t p
resolve_stands d n order s t net p h =
    let x = of_some (λ value. Some (set_net d n value (take_resolution n s))) _ t (of_test (is_order (length net.slots) order) _ t h) in
    stands_in s t (set_net d n x.0 (take_resolution n s)) p (same_Some (set_net d n x.0 (take_resolution n s)) t x.1) (net_stands d n x.0 (take_resolution n s) p)

pub others_stand : OthersWakeTheWaiting
unfolding step
others_stand d s t (Stmt q) p other h =
    proc_stands d q s t (work_at s q) p (λ e. other (sym e)) (of_test (is_pending_at s (standing_at s q)) _ t h)
others_stand d s t (AssignEvent a) p other h =
    let x = of_some (assign_step d a s) (slice_get d.assigns a) t (of_test (nat_lt 0 (count_at s.evaluations a)) _ t h) in
    assign_stands d a s t x.0 p x.1
others_stand d s t Update p other h = update_stands d s t s.moved p h
others_stand d s t (Resolve n order) p other h =
    let x = of_some (resolve_step d n order s) (slice_get d.nets n) t (of_test (nat_lt 0 (count_at s.resolutions n)) _ t h) in
    resolve_stands d n order s t x.0 p x.1

-- ---- what follows
waiting_live : (standing : Standing) → is_waiting standing ≡ true → is_live standing ≡ true
waiting_live (Waits kept) h = refl
waiting_live Unbegun h = absurd (false≢true h)
waiting_live Ready h = refl
waiting_live Inactive h = absurd (false≢true h)
waiting_live (Later at) h = absurd (false≢true h)
waiting_live Over h = absurd (false≢true h)

-- a procedure that is ready or waiting after an event of another was so before
pub others_wake : (d : Design) (s t : MachineState) (e : Event) (p : ℕ) → IsOther p e → step d s e ≡ Some t → is_live (standing_at t p) ≡ true → is_live (standing_at s p) ≡ true
others_wake d s t e p other h live = elim (others_stand d s t e p other h) [
  | inl same ↦ ap is_live (sym same) ∙ live
  | inr woken ↦ waiting_live (standing_at s p) woken.0
]

-- where a procedure neither waits nor is ready after an event of another, it stood before
pub others_stay : (d : Design) (s t : MachineState) (e : Event) (p : ℕ) → IsOther p e → step d s e ≡ Some t → is_live (standing_at t p) ≡ false → standing_at t p ≡ standing_at s p
others_stay d s t e p other h not_live = elim (others_stand d s t e p other h) [
  | inl same ↦ same
  | inr woken ↦ absurd (false≢true (sym not_live ∙ woken.1))
]

-- where it didn't wait before, it stands there still
pub others_leave : (d : Design) (s t : MachineState) (e : Event) (p : ℕ) → IsOther p e → step d s e ≡ Some t → is_waiting (standing_at s p) ≡ false → standing_at t p ≡ standing_at s p
others_leave d s t e p other h not_waiting = elim (others_stand d s t e p other h) [
  | inl same ↦ same
  | inr woken ↦ absurd (false≢true (sym not_waiting ∙ woken.0))
]
