use Rattle.std.proofs.Common.{length}
use Rattle.nt_shapes.proofs.forms.+all_leaves.Given as goal

abbrev pub decreases-all_leaves : goal.decreases-all_leaves
decreases-all_leaves l = length l.parts.now
