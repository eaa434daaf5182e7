use Rattle.std.proofs.Common.{subst, sym, ◌≤◌, ℕ, Option}
use Rattle.std.specs.Prelude.{IfSome}
use Rattle.nt_lexer.specs.Spellings.{tens}
use Rattle.nt_lexer.proofs.Tens.{ten_small}
use Rattle.nt_lexer.proofs.directives.ten_named.Goals as goal

pub returns-clause-valid : goal.returns-clause-valid
unfolding tens
returns-clause-valid c = subst (λ (o : Option ℕ). IfSome o (λ m. m ≤ 2)) (sym c.lookup.ensures) (ten_small c.args.text.now)
