use Rattle.nt_semantics.proofs.Tying.{region_tied}
use Rattle.nt_semantics.proofs.laws.region_keeps_tied.Goals as goal

pub returns : goal.returns
returns c = region_tied
