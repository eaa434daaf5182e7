use Rattle.nt_semantics.proofs.Again.{again}
use Rattle.nt_semantics.proofs.laws.again_changes_nothing.Goals as goal

pub returns : goal.returns
returns c = again
