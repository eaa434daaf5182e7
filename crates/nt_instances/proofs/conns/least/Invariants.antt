use Rattle.nt_diag.specs.Order.{Among}
use Rattle.nt_diag.proofs.Least.{Best}
use Rattle.nt_instances.specs.Faults.{ConnFault}
use Rattle.nt_instances.proofs.conns.least.Given as goal

abbrev pub invariant-loop-number : goal.invariant-loop-number
invariant-loop-number l = Best (Among (ConnFault l.rule l.targets) l.number l.conns) l.best
