use Rattle.nt_semantics.proofs.StepKeeps.{step_keeps}
use Rattle.nt_semantics.proofs.laws.step_keeps.Goals as goal

pub returns : goal.returns
returns c = step_keeps
