use Rattle.std.proofs.Common.{sym, ◌∙◌}
use Rattle.nt_scopes.specs.Means.{declares}
use Rattle.nt_bodies.proofs.body.Body.declared.Goals as goal

pub returns-then-counts : goal.returns-then-counts
returns-then-counts c = declares c.in-Some.entry (sym c.in-Some.ensures) (sym c.counts.ensures ∙ c.if-counts.true)
