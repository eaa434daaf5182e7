use Rattle.std.proofs.Common.{length}
use Rattle.nt_diag.proofs.Least.{best_to}
use Rattle.nt_unit_names.proofs.Naming.{unit_turn, ended}
use Rattle.nt_unit_names.proofs.check.unit_fault.Goals as goal

pub loop-file-preserved : goal.loop-file-preserved
loop-file-preserved c =
    unit_turn c.file-item.result c.in_ok-fault.fault c.earlier-least.result c.loop-file-test.true c.file-item.is c.loop-file.invariant (rw c.as_slice.ensures at c.in_ok-fault.ensures) c.earlier-least.ensures

pub returns : goal.returns
returns c = best_to (length c.args.units.now) (ended _ _ c.loop-file.auto.file-index-end c.loop-file-test.false) c.loop-file.invariant.best
