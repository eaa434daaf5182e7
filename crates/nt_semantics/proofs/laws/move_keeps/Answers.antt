use Rattle.nt_semantics.proofs.Keeping.{move_keeps}
use Rattle.nt_semantics.proofs.laws.move_keeps.Goals as goal

pub returns : goal.returns
returns c = move_keeps
