use Rattle.nt_semantics.proofs.Filling.{move_fills}
use Rattle.nt_semantics.proofs.laws.move_fills.Goals as goal

pub returns : goal.returns
returns c = move_fills
