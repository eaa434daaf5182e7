use Rattle.std.proofs.Common.{◌≡◌, ℕ, ◌<◌, get_or, List}
use Rattle.nt_merge.specs.Forest.{Downward, HasRoots}
use Rattle.nt_merge.proofs.forest.flatten.Given as goal

abbrev pub invariant-loop-at : goal.invariant-loop-at
invariant-loop-at l = record {
  downward : Downward l.parents;
  roots : (roots : List ℕ) → HasRoots l.fn.parents roots → HasRoots l.parents roots × ((k : ℕ) → k < l.at → get_or l.parents k 0 ≡ get_or roots k 0);
}
