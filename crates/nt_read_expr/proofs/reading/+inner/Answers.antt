use Rattle.std.proofs.Common.{◌≡◌, arith}
use Rattle.nt_read_expr.proofs.Below.{inner_zero, inner_operand, inner_whole}
use Rattle.nt_read_expr.proofs.reading.+inner.Goals as goal

pub returns-then-depth-eq0 : goal.returns-then-depth-eq0
returns-then-depth-eq0 t c = inner_zero c.args.limit c.args.depth c.args.only c.args.tokens.now (omega arith)

pub returns-then-only : goal.returns-then-only
returns-then-only t c = rw (inner_operand c.args.limit c.args.depth c.args.only c.args.tokens.now (omega arith) c.if-only.true) c.operand.ensures

pub returns-else-only : goal.returns-else-only
returns-else-only t c = rw (inner_whole c.args.limit c.args.depth c.args.only c.args.tokens.now (omega arith) c.if-only.false) c.whole.ensures
