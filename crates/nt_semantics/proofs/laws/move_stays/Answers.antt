use Rattle.nt_semantics.proofs.Keeping.{move_stays}
use Rattle.nt_semantics.proofs.laws.move_stays.Goals as goal

pub returns : goal.returns
returns c = move_stays
