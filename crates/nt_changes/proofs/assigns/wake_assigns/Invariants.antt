use Rattle.nt_changes.proofs.Counting.{Counted}
use Rattle.nt_changes.proofs.assigns.wake_assigns.Given as goal

abbrev pub invariant-loop-assign : goal.invariant-loop-assign
invariant-loop-assign l = Counted l.design l.object l.initial.state l.state l.assign
