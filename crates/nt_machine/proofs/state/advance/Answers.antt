use Rattle.std.proofs.Common.{sym}
use Rattle.nt_machine.proofs.Moves.{settled}
use Rattle.nt_machine.proofs.state.advance.Goals as goal

pub returns-then-is_active-clause-state : goal.returns-then-is_active-clause-state
returns-then-is_active-clause-state c = sym (settled c.args._until c.args.state.now c.requires.plain)

pub returns-else-is_active-clause-state : goal.returns-else-is_active-clause-state
returns-else-is_active-clause-state c = sym (settled c.args._until c.args.state.now c.requires.plain)
