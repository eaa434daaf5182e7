use Rattle.nt_changes.proofs.Turning.{SoFar}
use Rattle.nt_changes.proofs.procs.wake_procs.Given as goal

abbrev pub invariant-loop-proc : goal.invariant-loop-proc
invariant-loop-proc l = SoFar l.design l.object l.initial.state l.state l.proc
