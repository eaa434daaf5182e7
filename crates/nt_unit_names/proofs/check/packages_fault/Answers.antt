use Rattle.std.proofs.Common.{length}
use Rattle.nt_diag.proofs.Least.{best_turn, best_to}
use Rattle.nt_unit_names.proofs.Naming.{ended}
use Rattle.nt_unit_names.proofs.check.packages_fault.Goals as goal

pub loop-item-preserved : goal.loop-item-preserved
loop-item-preserved c = best_turn c.item-item.result c.in_ok-fault.fault c.earlier-least.result c.loop-item-test.true c.item-item.is c.loop-item.invariant c.in_ok-fault.ensures c.earlier-least.ensures

pub returns : goal.returns
returns c = best_to (length c.args.items.now) (ended _ _ c.loop-item.auto.item-index-end c.loop-item-test.false) c.loop-item.invariant
