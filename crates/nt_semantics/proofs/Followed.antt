-- The slots that ended are those that a later one followed, and that of the last state where it is over.
use Rattle.std.proofs.Common.{◌≡◌, ℕ, List, [], ◌∷◌, ◌++◌, ap, sym, ◌∙◌}
use Rattle.std.specs.Prelude.{Option, Some, None, option_and_then}
use Rattle.std.proofs.lemmas.Option.{none-some, same_Some}
use Rattle.std.proofs.lemmas.List.{append_assoc}
use Rattle.nt_design.specs.declared.design.Design.{Design}
use Rattle.nt_semantics.specs.Execution.{ended, followed, if_some, run, seen, settle}
use Rattle.nt_semantics.specs.State.{MachineState}
use Rattle.nt_semantics.specs.Step.{step}
use Rattle.nt_semantics.specs.declared.event.Event.{Event}

pub ended_is : (until : ℕ) (d : Design) (es : List Event) (s t : MachineState) → run until d es s ≡ Some t → ended until d es s ≡ followed until d es s ++ seen t
ended_is until d [] s t h = ap seen (same_Some s t h)
ended_is until d (e ∷ es) s t h =
    of_step (λ u g. ended_is until d es u t g) (step d (settle until s) e) h
  where
    of_step : ((u : MachineState) → run until d es u ≡ Some t → ended until d es u ≡ followed until d es u ++ seen t) → (o : Option MachineState) → option_and_then (run until d es) o ≡ Some t → seen s ++ if_some [] (ended until d es) o ≡ (seen s ++ if_some [] (followed until d es) o) ++ seen t
    of_step next None h = absurd (none-some t h)
    of_step next (Some u) h =
        ap (λ l. seen s ++ l) (next u h) ∙ sym (append_assoc (seen s) (followed until d es u) (seen t))
