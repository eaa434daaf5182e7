use Rattle.nt_lexer.proofs.Places.{moved_end, moved_inside}
use Rattle.nt_lexer.proofs.cut.step.Goals as goal

pub returns-then-b-eq10-clause-place : goal.returns-then-b-eq10-clause-place
returns-then-b-eq10-clause-place c = moved_end c.args.at c.args.b c.if-b-eq10.true

pub returns-else-b-eq10-clause-place : goal.returns-else-b-eq10-clause-place
returns-else-b-eq10-clause-place c = moved_inside c.args.at c.args.b c.if-b-eq10.false
