use Rattle.std.proofs.Common.{arith}
use Rattle.nt_read_unit.proofs.Turns.{inside_zero, inside_suc}
use Rattle.nt_read_unit.proofs.types.+nested.Goals as goal

pub returns-then-depth-eq0 : goal.returns-then-depth-eq0
returns-then-depth-eq0 t c = inside_zero c.args.limit c.args.depth c.args.tokens.now (omega arith)

pub returns : goal.returns
returns t c = rw (inside_suc c.args.limit c.args.depth c.args.tokens.now (omega arith)) c.structure.ensures
