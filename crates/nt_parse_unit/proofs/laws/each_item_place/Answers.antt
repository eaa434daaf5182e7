use Rattle.nt_parse_unit.proofs.Exact.{each_place}
use Rattle.nt_parse_unit.proofs.laws.each_item_place.Goals as goal

pub returns : goal.returns
returns c = each_place
