-- Each step keeps a state of its design, and so does an execution.
use Rattle.std.proofs.Common.{◌≡◌, ℕ, ◌≤◌, ◌^◌, Bool, true, false, if◌then◌else◌, List, [], ◌∷◌, refl, subst}
use Rattle.std.specs.Prelude.{Option, Some, None, nat_lt, option_and_then, slice_get, unwrap_or}
use Rattle.std.proofs.lemmas.Option.{none-some, same_Some}
use Rattle.nt_design.specs.WellFormed.{IsDesign}
use Rattle.nt_design.specs.declared.design.Design.{Design}
use Rattle.nt_semantics.proofs.EventKeeps.{assign_keeps, resolve_keeps}
use Rattle.nt_semantics.proofs.Keeping.{move_keeps}
use Rattle.nt_semantics.proofs.ProcKeeps.{proc_keeps}
use Rattle.nt_semantics.proofs.StartFitting.{start_fits}
use Rattle.nt_semantics.proofs.ValueKeeps.{update_keeps}
use Rattle.nt_semantics.specs.Execution.{expansion, is_active, move, run, settle, steps}
use Rattle.nt_semantics.specs.Laws.{ExecutionFits, StepKeeps}
use Rattle.nt_semantics.specs.State.{MachineState, count_at, work_at, standing_at, start_state}
use Rattle.nt_semantics.specs.StateFits.{IsStateOf}
use Rattle.nt_semantics.specs.Step.{assign_step, is_pending_at, only_if, proc_step, resolve_step, step}
use Rattle.nt_semantics.specs.declared.event.Event.{Event}
use Rattle.nt_semantics.specs.declared.event.Event.TheVariants.{Stmt, Assign as AssignEvent, Update, Resolve}

-- what there is under a condition is there
there : {A : Type 0} (b : Bool) (o : Option A) (x : A) → only_if b o ≡ Some x → o ≡ Some x
there true o x h = h
there false o x h = absurd (none-some x h)

from_there : {A B : Type 0} (f : A → Option B) (o : Option A) (y : B) → option_and_then f o ≡ Some y → (x : A) × (o ≡ Some x) × (f x ≡ Some y)
from_there f None y h = absurd (none-some y h)
from_there f (Some x) y h = (x, refl, h)

pub step_keeps : StepKeeps
unfolding step
step_keeps d s t (Stmt p) design of h =
    proc_keeps d design p s t of (there (is_pending_at s (standing_at s p)) (proc_step d p s (work_at s p)) t h)
step_keeps d s t (AssignEvent a) design of h =
    let x = from_there (assign_step d a s) (slice_get d.assigns a) t (there (nat_lt 0 (count_at s.evaluations a)) (option_and_then (assign_step d a s) (slice_get d.assigns a)) t h) in
    assign_keeps d design a x.0 s t x.1 of x.2
step_keeps d s t Update design of h = update_keeps d design s t s.moved of.moved of h
step_keeps d s t (Resolve n order) design of h =
    let x = from_there (resolve_step d n order s) (slice_get d.nets n) t (there (nat_lt 0 (count_at s.resolutions n)) (option_and_then (resolve_step d n order s) (slice_get d.nets n)) t h) in
    resolve_keeps d design n order s t x.0 x.1 of x.2

-- and so do steps
pub steps_keep : (d : Design) (events : List Event) (s t : MachineState) → IsDesign d → IsStateOf d s → steps d events s ≡ Some t → IsStateOf d t
steps_keep d [] s t design of h = subst (IsStateOf d) (same_Some s t h) of
steps_keep d (e ∷ events) s t design of h =
    let x = from_there (steps d events) (step d s e) t h in
    steps_keep d events x.0 t design (step_keeps d s x.0 e design of x.1) x.2

-- the move that is needed keeps one too
settle_keeps : (until : ℕ) (d : Design) (s : MachineState) → until ≤ 2 ^ 48 → IsDesign d → IsStateOf d s → IsStateOf d (settle until s)
unfolding settle
settle_keeps until d s most design of = of_active (is_active s) refl
  where
    of_move : is_active s ≡ false → (o : Option MachineState) → move until s ≡ o → IsStateOf d (unwrap_or o s)
    of_move calm None is = of
    of_move calm (Some t) is = move_keeps until d s t most design of calm is

    of_active : (b : Bool) → is_active s ≡ b → IsStateOf d (if b then s else unwrap_or (move until s) s)
    of_active true is = of
    of_active false is = of_move is (move until s) refl

run_keeps : (until : ℕ) (d : Design) (events : List Event) (s t : MachineState) → until ≤ 2 ^ 48 → IsDesign d → IsStateOf d s → run until d events s ≡ Some t → IsStateOf d t
run_keeps until d [] s t most design of h = subst (IsStateOf d) (same_Some s t h) of
run_keeps until d (e ∷ events) s t most design of h =
    let x = from_there (run until d events) (step d (settle until s) e) t h in
    run_keeps until d events x.0 t most design (step_keeps d (settle until s) x.0 e design (settle_keeps until d s most design of) x.1) x.2

pub execution_fits : ExecutionFits
execution_fits until d entries s most design of =
    run_keeps until d (expansion entries) (start_state d) s most design (start_fits d design) of.runs
