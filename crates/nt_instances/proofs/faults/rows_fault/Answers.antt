use Rattle.std.proofs.Common.{arith}
use Rattle.nt_instances.proofs.Faulting.{rows_all}
use Rattle.nt_instances.proofs.faults.rows_fault.Goals as goal

pub returns : goal.returns
returns c = rows_all _ _ _ _ _ _ (omega arith) c.in_ok-of_rows.ensures c.past_fault.ensures c.earlier.ensures
