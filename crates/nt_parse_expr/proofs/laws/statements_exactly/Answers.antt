use Rattle.nt_parse_expr.proofs.Exact.{statements_exact}
use Rattle.nt_parse_expr.proofs.laws.statements_exactly.Goals as goal

pub returns : goal.returns
returns c = λ limit ts after x. ((statements_exact limit).sound ts after x, λ d. (statements_exact limit).complete ts after x d)
