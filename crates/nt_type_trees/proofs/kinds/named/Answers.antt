use Rattle.std.proofs.Common.{sym, ◌∙◌}
use Rattle.nt_type_trees.proofs.Walking.{kind_known, kind_faulty, kind_other, kind_unknown, kind_ambiguous}
use Rattle.nt_type_trees.proofs.kinds.named.Goals as goal

pub returns-in-Known : goal.returns-in-Known
returns-in-Known g c = λ at. kind_known at (sym c.in-Known.is ∙ c.in_ok-kind.ensures.seen) (rw c.in-Known.is at c.in_ok-kind.ensures.sound)

pub returns-in-Faulty : goal.returns-in-Faulty
returns-in-Faulty g c = λ at. kind_faulty at (sym c.in-Faulty.is ∙ c.in_ok-kind.ensures.seen)

pub returns-in-Other : goal.returns-in-Other
returns-in-Other g c = λ at. rw c.refused.ensures (kind_other at (sym c.in-Other.is ∙ c.in_ok-kind.ensures.seen))

pub returns-in-Unknown : goal.returns-in-Unknown
returns-in-Unknown g c = λ at. rw c.refused-in-Unknown.ensures (kind_unknown at (sym c.in-Unknown.is ∙ c.in_ok-kind.ensures.seen))

pub returns-in-Ambiguous : goal.returns-in-Ambiguous
returns-in-Ambiguous g c = λ at. rw c.refused-in-Ambiguous.ensures (kind_ambiguous at (sym c.in-Ambiguous.is ∙ c.in_ok-kind.ensures.seen))
