use Rattle.std.proofs.Common.{arith}
use Rattle.nt_diag.proofs.Least.{best_start, best_turn, best_to}
use Rattle.nt_instances.proofs.faults.first_rows_fault.Goals as goal

pub loop-number-init : goal.loop-number-init
loop-number-init c = best_start _ _

pub loop-number-preserved : goal.loop-number-preserved
loop-number-preserved c = best_turn c.index-rows-number.result _ _ (omega arith) c.index-rows-number.is c.loop-number.invariant c.in_ok-row_fault.ensures c.earlier-best.ensures

pub returns : goal.returns
returns c = best_to _ (omega arith) c.loop-number.invariant
