use Rattle.nt_typed_stmts.proofs.Excluded.{no_unmet, statement_met}
use Rattle.nt_typed_stmts.proofs.laws.no_statement_fault.Goals as goal

pub returns : goal.returns
returns c = λ w x a r p g f. no_unmet f (statement_met g)
