use Rattle.nt_interconnect.proofs.Unique.{one}
use Rattle.nt_interconnect.proofs.laws.one_type.Goals as goal

pub returns : goal.returns
returns c = one
