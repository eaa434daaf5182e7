use Rattle.nt_type_trees.specs.Answers.{large}
use Rattle.nt_type_trees.proofs.Walking.{too_deep}
use Rattle.nt_type_trees.proofs.kinds.limited_arrays.Goals as goal

pub returns-then-spans-gt64 : goal.returns-then-spans-gt64
returns-then-spans-gt64 c = rw c.refused.ensures (large (λ s. too_deep c.args.spans.now c.args.element c.if-spans-gt64.true s))
