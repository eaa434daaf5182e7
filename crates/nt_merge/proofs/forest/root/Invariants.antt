use Rattle.std.proofs.Common.{◌≡◌, ℕ, ◌<◌, length, get_or, List}
use Rattle.nt_merge.specs.Forest.{Downward, HasRoots}
use Rattle.nt_merge.proofs.forest.root.Given as goal

abbrev pub invariant-loop-parents : goal.invariant-loop-parents
invariant-loop-parents l = record {
  within : l.at < length l.parents;
  downward : Downward l.parents;
  roots : (roots : List ℕ) → HasRoots l.fn.parents roots → HasRoots l.parents roots × (get_or roots l.at 0 ≡ get_or roots l.segment 0);
}

abbrev pub decreases-loop-parents : goal.decreases-loop-parents
decreases-loop-parents l = l.at
