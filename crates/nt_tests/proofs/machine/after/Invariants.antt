use Rattle.std.proofs.Common.{◌+◌}
use Rattle.nt_machine.specs.Plain.{IsPlainState}
use Rattle.nt_semantics.specs.StateFits.{IsStateOf, AtMost}
use Rattle.nt_tests.proofs.machine.after.Given as goal

abbrev pub invariant-loop-event : goal.invariant-loop-event
invariant-loop-event l = IsStateOf l.design l.state × IsPlainState l.state × AtMost (l.event-index + 1) l.state
