use Rattle.nt_machine.proofs.Steps.{event_allowed}
use Rattle.nt_machine.proofs.step.allowed.Goals as goal

pub returns : goal.returns
returns c =
    event_allowed c.args.design.now c.args.state.now c.args.event.now c.pending.result c.requires.plain_design c.requires.plain c.pending.ensures
