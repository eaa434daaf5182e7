use Rattle.std.proofs.Common.{length}
use Rattle.nt_merge.proofs.Trees.{Merged}
use Rattle.nt_merge.proofs.forest.merge_all.Given as goal

abbrev pub invariant-loop-link : goal.invariant-loop-link
invariant-loop-link l = Merged (length l.fn.parents) l.links l.link-index l.parents
