use Rattle.std.proofs.Common.{sym, ◌∙◌}
use Rattle.nt_types.specs.Units.{by_name, by_package, no_package, later_package}
use Rattle.nt_types.proofs.scopes.Scopes.meaning.Goals as goal

pub returns-in-None : goal.returns-in-None
returns-in-None c = by_name c.named.result c.in-None.is c.named.ensures

pub returns-in-None-find : goal.returns-in-None-find
returns-in-None-find c = no_package c.in-Some.scope c.in-Some.is (sym c.in-None-find.ensures)

pub returns-then-counts : goal.returns-then-counts
returns-then-counts c =
    by_package c.meaning_of.result c.in-Some.scope c.in-Some-find.entry c.in-Some.is (sym c.in-Some-find.ensures) (sym c.counts.ensures ∙ c.if-counts.true) (rw c.deref.ensures.value at c.meaning_of.ensures)

pub returns-else-counts : goal.returns-else-counts
returns-else-counts c = later_package c.in-Some.scope c.in-Some-find.entry c.in-Some.is (sym c.in-Some-find.ensures) (sym c.counts.ensures ∙ c.if-counts.false)
