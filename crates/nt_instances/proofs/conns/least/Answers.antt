use Rattle.std.proofs.Common.{arith}
use Rattle.nt_diag.proofs.Least.{best_start, best_turn, best_all}
use Rattle.nt_instances.proofs.conns.least.Goals as goal

pub loop-number-init : goal.loop-number-init
loop-number-init c = best_start _ _

pub loop-number-preserved : goal.loop-number-preserved
loop-number-preserved c = best_turn c.index-conns-number.result _ _ c.loop-number-test.true c.index-conns-number.is c.loop-number.invariant c.conn_fault.ensures c.earlier-best.ensures

pub returns : goal.returns
returns c = (best_all (omega arith) c.loop-number.invariant).best
