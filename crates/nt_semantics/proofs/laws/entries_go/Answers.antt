use Rattle.nt_semantics.proofs.GoingHere.{entries_go}
use Rattle.nt_semantics.proofs.laws.entries_go.Goals as goal

pub returns : goal.returns
returns c = entries_go
