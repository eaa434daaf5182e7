-- What is in Active stays there until its own event: evaluations, resolutions, and that an `always_comb` may begin.
use Rattle.std.specs.Prelude.{⊤}
use Rattle.std.proofs.Common.{◌≡◌, ℕ, zero, suc, ◌+◌, ◌-◌, ◌≤◌, Bool, true, false, not, if◌then◌else◌, List, [], ◌∷◌, length, replicate, Option, Some, None, option_and_then, slice_get, slice_set, nat_lt, refl, subst, arith, inl, inr, get_or-set_other}
use Rattle.std.specs.List.{list_any}
use Rattle.std.proofs.lemmas.Bool.{false≢true}
use Rattle.std.proofs.lemmas.List.{get_or_past}
use Rattle.std.proofs.lemmas.Option.{same_Some}
use Rattle.nt_design.specs.Parts.{Value}
use Rattle.nt_design.specs.Puts.{after_put, leaves_put}
use Rattle.nt_design.specs.declared.design.Design.{Design}
use Rattle.nt_design.specs.declared.object.Net.{Net}
use Rattle.nt_design.specs.declared.object.Object.{Object}
use Rattle.nt_design.specs.declared.object.Object.TheVariants as object
use Rattle.nt_design.specs.declared.process.Assign.{Assign}
use Rattle.nt_design.specs.declared.put.Put.{Put}
use Rattle.nt_design.specs.declared.target.Target.{Target}
use Rattle.nt_design.specs.declared.target.Target.TheVariants as target
use Rattle.nt_semantics.proofs.Waking.{column_at, lt_or_le, none_some, of_some, of_test, of_turns}
use Rattle.nt_semantics.specs.Execution.{steps}
use Rattle.nt_semantics.specs.Laws.{without}
use Rattle.nt_semantics.specs.Same.{is_same}
use Rattle.nt_semantics.specs.State.{MachineState, count_at, fewer, more, net_shape, standing_at, value_at, work_at}
use Rattle.nt_semantics.specs.Step.{assign_step, contribution, do_deed, drive, is_order, is_pending_at, make_step, may_begin, proc_step, put_var, resolve_step, set_net, step, take_evaluation, take_resolution, update_step}
use Rattle.nt_semantics.specs.Wake.{one_more_if, reads_at, wake}
use Rattle.nt_semantics.specs.declared.deed.Deed.{Deed}
use Rattle.nt_semantics.specs.declared.deed.Deed.TheVariants as deed
use Rattle.nt_semantics.specs.declared.event.Event.{Event}
use Rattle.nt_semantics.specs.declared.event.Event.TheVariants.{Stmt, Assign as AssignEvent, Update, Resolve}
use Rattle.nt_semantics.specs.declared.work.Work.{Work}

pub record Lasts (s t : MachineState) : Type 0 where
  pub evaluations : (a : ℕ) → count_at s.evaluations a ≤ count_at t.evaluations a
  pub resolutions : (n : ℕ) → count_at s.resolutions n ≤ count_at t.resolutions n
  pub begins : may_begin s ≡ true → may_begin t ≡ true

lasts_itself : (s : MachineState) → Lasts s s
lasts_itself s = record { evaluations = λ a. omega arith; resolutions = λ n. omega arith; begins = λ h. h }

-- ---- counts
pub more_lasts : (counts : List ℕ) (i k : ℕ) → count_at counts k ≤ count_at (more counts i) k
more_lasts [] i k = omega arith
more_lasts (x ∷ xs) zero zero = omega arith
more_lasts (x ∷ xs) zero (suc k) = omega arith
more_lasts (x ∷ xs) (suc i) zero = omega arith
more_lasts (x ∷ xs) (suc i) (suc k) = more_lasts xs i k

pub one_less : (counts : List ℕ) (i : ℕ) → count_at counts i ≤ count_at (fewer 1 counts i) i + 1
one_less [] i = omega arith
one_less (x ∷ xs) zero = omega arith
one_less (x ∷ xs) (suc i) = one_less xs i

-- ---- a change
one_lasts : (b : Bool) (n : ℕ) → n ≤ one_more_if b n
one_lasts true n = omega arith
one_lasts false n = omega arith

wake_lasts : (d : Design) (o : Object) (changed : Bool) (s t : MachineState) → Lasts s t → Lasts s (wake d o changed t)
unfolding wake
wake_lasts d o false s t b = record { evaluations = b.evaluations; resolutions = b.resolutions; begins = b.begins }
wake_lasts d o true s t b = record {
  evaluations = λ a. elim (lt_or_le a (length t.evaluations)) [
    | inl low ↦ (let here = column_at (λ c. one_more_if (reads_at d o c) (count_at t.evaluations c)) (length t.evaluations) a 0 low in let one = one_lasts (reads_at d o a) (count_at t.evaluations a) in omega (arith, here, one, b.evaluations a))
    | inr past ↦ (let none = get_or_past t.evaluations a 0 past in omega (arith, none, b.evaluations a))
  ];
  resolutions = b.resolutions;
  begins = b.begins;
}

put_lasts : (d : Design) (put : Put) (s t : MachineState) → Lasts s t → Lasts s (put_var d put t)
unfolding put_var
put_lasts d put s t b =
    wake_lasts d (object.Var put.var) _ s (record t { vars = slice_set t.vars put.var (after_put put (value_at t.vars put.var)) }) (record { evaluations = b.evaluations; resolutions = b.resolutions; begins = b.begins })

net_lasts : (d : Design) (n : ℕ) (new : Value) (s t : MachineState) → Lasts s t → Lasts s (set_net d n new t)
unfolding set_net
net_lasts d n new s t b =
    wake_lasts d (object.Net n) _ s (record t { nets = slice_set t.nets n new }) (record { evaluations = b.evaluations; resolutions = b.resolutions; begins = b.begins })

-- ---- a step of a procedure
deed_lasts : (d : Design) (x : Deed) (s t : MachineState) → Lasts s t → Lasts s (do_deed d x t)
deed_lasts d (deed.Writes put) s t b = put_lasts d put s t b
deed_lasts d deed.GoesOn s t b = b
deed_lasts d (deed.Schedules put) s t b = b
deed_lasts d (deed.SetsLocal local value) s t b = b
deed_lasts d (deed.Delays amount) s t b = b
deed_lasts d (deed.Waits kept) s t b = b
deed_lasts d (deed.Displays line) s t b = b
deed_lasts d deed.Finishes s t b = b

-- none is to come, and none is where one has come
none_fresh : (fresh : List Bool) (p : ℕ) → not (list_any (λ f. f) fresh) ≡ true → not (list_any (λ f. f) (slice_set fresh p false)) ≡ true
none_fresh [] p h = h
none_fresh (true ∷ fresh) p h = absurd (false≢true h)
none_fresh (false ∷ fresh) zero h = h
none_fresh (false ∷ fresh) (suc p) h = none_fresh fresh p h

made_lasts : (d : Design) (p : ℕ) (s : MachineState) (x : Deed × List Work) → Lasts s (make_step d p s x)
unfolding make_step
made_lasts d p s x =
    deed_lasts d x.0 s _ (record {
      evaluations = λ a. omega arith;
      resolutions = λ n. omega arith;
      begins = none_fresh s.fresh p;
    })

proc_lasts : (d : Design) (p : ℕ) (s t : MachineState) (work : List Work) → proc_step d p s work ≡ Some t → Lasts s t
proc_lasts d p s t [] h = absurd (none_some t h)
proc_lasts d p s t (i ∷ rest) h =
    let x = of_turns (make_step d p s) _ t h in subst (Lasts s) x.1 (made_lasts d p s x.0)

-- ---- other events
drive_lasts : (d : Design) (a : ℕ) (value : Value) (s : MachineState) (t : Target) → Lasts s (drive d a value s t)
drive_lasts d a value s (target.Slot n slot low width) = record {
  evaluations = λ k. omega arith;
  resolutions = λ k. either (is_same (value_at s.slots a) (contribution (net_shape d n) low width value)) k;
  begins = λ h. h;
}
  where
    either : (b : Bool) (k : ℕ) → count_at s.resolutions k ≤ count_at (if b then s.resolutions else more s.resolutions n) k
    either true k = omega arith
    either false k = more_lasts s.resolutions n k
drive_lasts d a value s (target.Var v path) = put_lasts d (leaves_put v 0 value) s s (lasts_itself s)
drive_lasts d a value s (target.Local i path) = lasts_itself s

assign_lasts : (d : Design) (a : ℕ) (s t : MachineState) (assign : Assign) → assign_step d a s assign ≡ Some t → Lasts (take_evaluation a s) t
assign_lasts d a s t assign h =
    let x = of_turns (λ value. drive d a value (take_evaluation a s) assign.target) _ t h in
    subst (Lasts (take_evaluation a s)) x.1 (drive_lasts d a x.0 (take_evaluation a s) assign.target)

update_lasts : (d : Design) (s t : MachineState) (puts : List Put) → update_step d s puts ≡ Some t → Lasts s t
update_lasts d s t [] h = absurd (none_some t h)
update_lasts d s t (put ∷ puts) h =
    subst (Lasts s) (same_Some (put_var d put (record s { moved = puts })) t h) (put_lasts d put s (record s { moved = puts }) (record { evaluations = λ a. omega arith; resolutions = λ n. omega arith; begins = λ g. g }))

resolve_lasts : (d : Design) (n : ℕ) (order : List ℕ) (s t : MachineState) (net : Net) → resolve_step d n order s net ≡ Some t → Lasts (take_resolution n s) t
resolve_lasts d n order s t net h =
    let x = of_some (λ value. Some (set_net d n value (take_resolution n s))) _ t (of_test (is_order (length net.slots) order) _ t h) in
    subst (Lasts (take_resolution n s)) (same_Some (set_net d n x.0 (take_resolution n s)) t x.1) (net_lasts d n x.0 (take_resolution n s) (take_resolution n s) (lasts_itself (take_resolution n s)))

-- what is in Active but for one copy of the event is there after it
pub step_lasts : (d : Design) (s t : MachineState) (e : Event) → step d s e ≡ Some t → Lasts (without s e) t
unfolding step
step_lasts d s t (Stmt p) h = proc_lasts d p s t (work_at s p) (of_test (is_pending_at s (standing_at s p)) _ t h)
step_lasts d s t (AssignEvent a) h =
    let x = of_some (assign_step d a s) (slice_get d.assigns a) t (of_test (nat_lt 0 (count_at s.evaluations a)) _ t h) in
    assign_lasts d a s t x.0 x.1
step_lasts d s t Update h = update_lasts d s t s.moved h
step_lasts d s t (Resolve n order) h =
    let x = of_some (resolve_step d n order s) (slice_get d.nets n) t (of_test (nat_lt 0 (count_at s.resolutions n)) _ t h) in
    resolve_lasts d n order s t x.0 x.1

-- ---- what follows
-- an event that is no evaluation of this assignment
abbrev pub NoEvaluation : ℕ → Event → Type 0
NoEvaluation a (Stmt p) = ⊤
NoEvaluation a (AssignEvent b) = a ≡ b → ⊥
NoEvaluation a Update = ⊤
NoEvaluation a (Resolve n order) = ⊤

evaluations_without : (s : MachineState) (e : Event) (a : ℕ) → NoEvaluation a e → count_at s.evaluations a ≤ count_at (without s e).evaluations a
evaluations_without s (Stmt p) a other = omega arith
evaluations_without s Update a other = omega arith
evaluations_without s (Resolve n order) a other = omega arith
evaluations_without s (AssignEvent b) a other =
    omega (arith, get_or-set_other s.evaluations b a (count_at s.evaluations b - 1) 0 other)

begins_without : (s : MachineState) (e : Event) → may_begin s ≡ true → may_begin (without s e) ≡ true
begins_without s (Stmt p) h = h
begins_without s Update h = h
begins_without s (AssignEvent a) h = h
begins_without s (Resolve n order) h = h

pub evaluation_lasts : (d : Design) (s t : MachineState) (e : Event) (a : ℕ) → NoEvaluation a e → step d s e ≡ Some t → count_at s.evaluations a ≤ count_at t.evaluations a
evaluation_lasts d s t e a other h =
    omega (arith, evaluations_without s e a other, (step_lasts d s t e h).evaluations a)

pub begin_lasts : (d : Design) (s t : MachineState) (e : Event) → step d s e ≡ Some t → may_begin s ≡ true → may_begin t ≡ true
begin_lasts d s t e h may = (step_lasts d s t e h).begins (begins_without s e may)

-- one copy fewer at most
pub evaluated_once : (d : Design) (s t : MachineState) (a : ℕ) → step d s (AssignEvent a) ≡ Some t → count_at s.evaluations a ≤ count_at t.evaluations a + 1
evaluated_once d s t a h =
    omega (arith, one_less s.evaluations a, (step_lasts d s t (AssignEvent a) h).evaluations a)

pub resolved_once : (d : Design) (s t : MachineState) (n : ℕ) (order : List ℕ) → step d s (Resolve n order) ≡ Some t → count_at s.resolutions n ≤ count_at t.resolutions n + 1
resolved_once d s t n order h =
    omega (arith, one_less s.resolutions n, (step_lasts d s t (Resolve n order) h).resolutions n)

-- several events in a row
abbrev StepThen : Design → List Event → MachineState → MachineState → Type 0
StepThen d es s t = steps d es s ≡ Some t

pub evaluations_last : (d : Design) (e : Event) (k : ℕ) (s t : MachineState) (a : ℕ) → NoEvaluation a e → steps d (replicate k e) s ≡ Some t → count_at s.evaluations a ≤ count_at t.evaluations a
evaluations_last d e zero s t a other h =
    subst (λ (u : MachineState). count_at s.evaluations a ≤ count_at u.evaluations a) (same_Some s t h) (omega arith)
evaluations_last d e (suc k) s t a other h =
    of_step (λ u. evaluations_last d e k u t a other) (step d s e) refl h
  where
    of_step : ((u : MachineState) → steps d (replicate k e) u ≡ Some t → count_at u.evaluations a ≤ count_at t.evaluations a) → (o : Option MachineState) → step d s e ≡ o → option_and_then (steps d (replicate k e)) o ≡ Some t → count_at s.evaluations a ≤ count_at t.evaluations a
    of_step rest None is g = absurd (none_some t g)
    of_step rest (Some u) is g = omega (arith, evaluation_lasts d s u e a other is, rest u g)

pub begins_last : (d : Design) (es : List Event) (s t : MachineState) → steps d es s ≡ Some t → may_begin s ≡ true → may_begin t ≡ true
begins_last d [] s t h may = subst (λ (u : MachineState). may_begin u ≡ true) (same_Some s t h) may
begins_last d (e ∷ es) s t h may = of_step (λ u. begins_last d es u t) (step d s e) refl h
  where
    of_step : ((u : MachineState) → steps d es u ≡ Some t → may_begin u ≡ true → may_begin t ≡ true) → (o : Option MachineState) → step d s e ≡ o → option_and_then (steps d es) o ≡ Some t → may_begin t ≡ true
    of_step rest None is g = absurd (none_some t g)
    of_step rest (Some u) is g = rest u g (begin_lasts d s u e is may)
