use Rattle.std.proofs.Common.{sym, ◌∙◌}
use Rattle.nt_unit_names.proofs.Naming.{item_again, item_missing, seen_import}
use Rattle.nt_unit_names.proofs.check.item_fault.Goals as goal

pub returns-then-again : goal.returns-then-again
returns-then-again c = λ before h. rw c.refused.ensures (item_again c.place.result c.place.ensures (rw c.if-again.true at (c.in_ok-again.ensures before h)))

pub returns-else-is_there : goal.returns-else-is_there
returns-else-is_there c =
    λ before h. rw c.refused-else-is_there.ensures
    (item_missing c.in-Import.at c.in-Import.scope c.in-Import.name (seen_import _ _ _ _ c.in-Import.is) (sym c.is_there.ensures ∙ c.if-is_there.false) (rw c.if-again.false at (c.in_ok-again.ensures before h)))
