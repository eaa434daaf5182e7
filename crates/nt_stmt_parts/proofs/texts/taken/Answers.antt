use Rattle.nt_typed_stmts.specs.Tables.{Anything, taken_from}
use Rattle.nt_stmt_parts.proofs.Counting.{none_left, one_left}
use Rattle.nt_stmt_parts.proofs.texts.taken.Goals as goal

pub returns-then-left-eq0 : goal.returns-then-left-eq0
returns-then-left-eq0 c = λ cs. none_left (taken_from Anything cs) c.args.left c.if-left-eq0.true

pub returns-else-left-eq0 : goal.returns-else-left-eq0
returns-else-left-eq0 c = λ cs. one_left (taken_from Anything cs) c.args.left c.if-left-eq0.false
