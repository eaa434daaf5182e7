use Rattle.std.proofs.Common.{◌≡◌, ℕ, ◌<◌, get_or, length}
use Rattle.nt_merge.proofs.forest.classes.Given as goal

abbrev pub invariant-loop-segment : goal.invariant-loop-segment
invariant-loop-segment l = record {
  size : length l.parents.items ≡ l.segment;
  own : (k : ℕ) → k < l.segment → get_or l.parents.items k 0 ≡ k;
}
