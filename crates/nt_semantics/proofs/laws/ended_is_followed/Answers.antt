use Rattle.nt_semantics.proofs.Followed.{ended_is}
use Rattle.nt_semantics.proofs.laws.ended_is_followed.Goals as goal

pub returns : goal.returns
returns c = ended_is
