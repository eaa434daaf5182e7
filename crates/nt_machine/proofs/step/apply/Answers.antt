use Rattle.nt_machine.proofs.Steps.{no_other}
use Rattle.nt_machine.proofs.step.apply.Goals as goal

pub unreachable-requires : goal.unreachable-requires
unreachable-requires c =
    no_other c.args.design.now c.args.state.now c.args.event.now c.requires.plain c.in-Stmt.is c.requires.allowed
