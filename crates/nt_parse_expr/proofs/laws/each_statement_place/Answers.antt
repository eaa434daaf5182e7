use Rattle.nt_parse_expr.proofs.Exact.{each_statement_place}
use Rattle.nt_parse_expr.proofs.laws.each_statement_place.Goals as goal

pub returns : goal.returns
returns c = each_statement_place
