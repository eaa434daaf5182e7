-- Moves within a slot, and events of a slot after others.
use Rattle.std.proofs.Common.{◌≡◌, Bool, true, false, if◌then◌else◌, List, [], ◌∷◌, ◌++◌, Option, Some, None, option_and_then, refl, sym, ◌∙◌, ap}
use Rattle.nt_design.specs.declared.design.Design.{Design}
use Rattle.nt_semantics.specs.Execution.{is_active, has_inactive, activate, move_updates, begin_next, next_moment}
use Rattle.nt_semantics.specs.State.{MachineState}
use Rattle.nt_semantics.specs.Step.{step, is_some_put}
use Rattle.nt_semantics.specs.declared.event.Event.{Event}
use Rattle.nt_semantics.proofs.Filling.{move_fills}
use Rattle.nt_semantics.specs.Slots.{move_here, settle_here, run_here}

pub settle_active : (s : MachineState) → is_active s ≡ true → settle_here s ≡ s
unfolding settle_here
settle_active s h = ap (λ b. if b then s else move_here s) h

pub settle_idle : (s : MachineState) (b : Bool) → is_active s ≡ b → settle_here s ≡ (if b then s else move_here s)
unfolding settle_here
settle_idle s b h = ap (λ b. if b then s else move_here s) h

-- what a move within the slot gives is active, or nothing was moved
moved_settled : (s : MachineState) → is_active s ≡ false → settle_here (move_here s) ≡ move_here s
moved_settled s empty = of_inactive (has_inactive s) refl
  where
    of_updates : (some : Bool) → is_some_put s.nonblocking ≡ some → has_inactive s ≡ false → settle_here (if some then move_updates s else s) ≡ (if some then move_updates s else s)
    of_updates true is none = settle_active (move_updates s) (move_fills 0 s (move_updates s) (ap (λ b. if b then Some (activate s) else (if is_some_put s.nonblocking then Some (move_updates s) else (if s.finished then None else begin_next 0 s (next_moment s.standings)))) none ∙ ap (λ b. if b then Some (move_updates s) else (if s.finished then None else begin_next 0 s (next_moment s.standings))) is))
    of_updates false is none =
        settle_idle s false empty ∙ ap (λ b. if b then activate s else (if is_some_put s.nonblocking then move_updates s else s)) none ∙ ap (λ b. if b then move_updates s else s) is

    of_inactive : (some : Bool) → has_inactive s ≡ some → settle_here (if some then activate s else (if is_some_put s.nonblocking then move_updates s else s)) ≡ (if some then activate s else (if is_some_put s.nonblocking then move_updates s else s))
    of_inactive true is = settle_active (activate s) (move_fills 0 s (activate s) (ap (λ b. if b then Some (activate s) else (if is_some_put s.nonblocking then Some (move_updates s) else (if s.finished then None else begin_next 0 s (next_moment s.standings)))) is))
    of_inactive false is = of_updates (is_some_put s.nonblocking) refl is

pub settled_again : (s : MachineState) → settle_here (settle_here s) ≡ settle_here s
settled_again s = of_active (is_active s) refl
  where
    of_active : (b : Bool) → is_active s ≡ b → settle_here (settle_here s) ≡ settle_here s
    of_active true h = ap settle_here (settle_active s h)
    of_active false h = ap settle_here (settle_idle s false h) ∙ moved_settled s h ∙ sym (settle_idle s false h)

-- events after events
pub run_here_append : (d : Design) (es fs : List Event) (s : MachineState) → run_here d (es ++ fs) s ≡ option_and_then (run_here d fs) (run_here d es s)
run_here_append d [] fs s = refl
run_here_append d (e ∷ es) fs s = after_step (λ t. run_here_append d es fs t) (step d (settle_here s) e)
  where
    after_step : ((t : MachineState) → run_here d (es ++ fs) t ≡ option_and_then (run_here d fs) (run_here d es t)) → (o : Option MachineState) → option_and_then (run_here d (es ++ fs)) o ≡ option_and_then (run_here d fs) (option_and_then (run_here d es) o)
    after_step same None = refl
    after_step same (Some t) = same t

pub run_settled : (d : Design) (e : Event) (es : List Event) (s : MachineState) → run_here d (e ∷ es) (settle_here s) ≡ run_here d (e ∷ es) s
run_settled d e es s = ap (λ t. option_and_then (run_here d es) (step d t e)) (settled_again s)
