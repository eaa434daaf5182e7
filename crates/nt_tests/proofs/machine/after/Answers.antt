use Rattle.std.proofs.Common.{◌+◌}
use Rattle.nt_machine.proofs.Counts.{start_at_most}
use Rattle.nt_semantics.proofs.StartFitting.{start_fits}
use Rattle.nt_machine.proofs.Starts.{start_still}
use Rattle.nt_tests.proofs.machine.after.Goals as goal

pub loop-event-init : goal.loop-event-init
loop-event-init c =
    rw c.in_ok-state.ensures.start (start_fits c.args.design.now c.requires.design, start_still c.args.design.now c.requires.plain_design, start_at_most c.args.design.now)

pub loop-event-preserved : goal.loop-event-preserved
loop-event-preserved c =
    (c.in_ok-perform.ensures.state, c.in_ok-perform.ensures.plain, c.in_ok-perform.ensures.few (c.loop-event.event-index + 1) c.loop-event.invariant.2)
