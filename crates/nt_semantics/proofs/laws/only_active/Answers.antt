use Rattle.nt_semantics.proofs.Acting.{step_active}
use Rattle.nt_semantics.proofs.laws.only_active.Goals as goal

pub returns : goal.returns
returns c = step_active
