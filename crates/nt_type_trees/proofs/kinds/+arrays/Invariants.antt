use Rattle.std.proofs.Common.{length}
use Rattle.nt_type_trees.proofs.kinds.+arrays.Given as goal

abbrev pub decreases-arrays : goal.decreases-arrays
decreases-arrays l = length l.spans.now
