use Rattle.nt_parse_unit.proofs.Exact.{one_only}
use Rattle.nt_parse_unit.proofs.laws.one_source.Goals as goal

pub returns : goal.returns
returns c = one_only
