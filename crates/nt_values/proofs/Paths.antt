-- Steps of paths, one after the other.
use Rattle.std.proofs.Common.{◌≡◌, List, [], ◌∷◌, ◌++◌, arith, refl, ap}
use Rattle.std.specs.Prelude.{All}
use Rattle.std.proofs.lemmas.List.Elements.{All-append, All-cons}
use Rattle.nt_parts.specs.Steps.{IsStep, step_at, steps_at}
use Rattle.nt_parts.specs.declared.step.Step.{Step}

pub no_steps : All IsStep []
no_steps = λ k d h. absurd (omega (arith, h))

pub all_steps : (steps : List Step) (step : Step) → All IsStep steps → IsStep step → All IsStep (steps ++ step ∷ [])
all_steps steps step h k = All-append IsStep steps (step ∷ []) h (All-cons IsStep step [] k no_steps)

pub steps_more : (steps : List Step) (step : Step) → steps_at (steps ++ step ∷ []) ≡ steps_at steps ++ step_at step ∷ []
steps_more [] step = refl
steps_more (s ∷ steps) step = ap (λ l. step_at s ∷ l) (steps_more steps step)
