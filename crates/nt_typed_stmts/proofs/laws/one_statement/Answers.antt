use Rattle.nt_typed_stmts.proofs.One.{statement_one}
use Rattle.nt_typed_stmts.proofs.laws.one_statement.Goals as goal

pub returns : goal.returns
returns c = λ w x a b g h. statement_one g h
