use Rattle.std.proofs.Common.{sym, ◌∙◌}
use Rattle.nt_scopes.proofs.Looking.{held_some}
use Rattle.nt_scopes.proofs.look.held.Goals as goal

pub returns-then-counts : goal.returns-then-counts
returns-then-counts c = held_some c.in-Some.entry (sym c.in-Some.ensures) (sym c.counts.ensures ∙ c.if-counts.true)
