use Rattle.nt_parse_expr.proofs.Exact.{one_statement}
use Rattle.nt_parse_expr.proofs.laws.one_statement.Goals as goal

pub returns : goal.returns
returns c = one_statement
