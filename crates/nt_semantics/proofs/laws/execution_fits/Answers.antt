use Rattle.nt_semantics.proofs.StepKeeps.{execution_fits}
use Rattle.nt_semantics.proofs.laws.execution_fits.Goals as goal

pub returns : goal.returns
returns c = execution_fits
