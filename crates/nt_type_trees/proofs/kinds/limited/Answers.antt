use Rattle.std.proofs.Common.{refl}
use Rattle.nt_type_trees.specs.Answers.{small, large}
use Rattle.nt_type_trees.proofs.kinds.limited.Goals as goal

pub returns-then-is_small : goal.returns-then-is_small
returns-then-is_small c = small (c.if-is_small.ensures.0 refl)

pub returns-else-is_small : goal.returns-else-is_small
returns-else-is_small c = rw c.refused.ensures (large (λ h. absurd (let e : _ = c.if-is_small.ensures.1 h in cc)))
