use Rattle.nt_diag.specs.Order.{Among}
use Rattle.nt_diag.proofs.Least.{Best}
use Rattle.nt_instances.specs.Faults.{RowFault}
use Rattle.nt_instances.proofs.faults.first_rows_fault.Given as goal

abbrev pub invariant-loop-number : goal.invariant-loop-number
invariant-loop-number l = Best (Among (RowFault l.modules) l.number l.rows) l.best
