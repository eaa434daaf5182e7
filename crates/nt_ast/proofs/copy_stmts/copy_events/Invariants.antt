use Rattle.std.proofs.Common.{◌≡◌, take}
use Rattle.nt_ast.proofs.copy_stmts.copy_events.Given as goal

abbrev pub invariant-loop-edge : goal.invariant-loop-edge
invariant-loop-edge l = l.all ≡ take l.edge-index l.on
