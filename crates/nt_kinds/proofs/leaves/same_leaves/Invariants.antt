use Rattle.std.proofs.Common.{◌≡◌, ◌<◌, ℕ}
use Rattle.std.specs.Prelude.{slice_get}
use Rattle.nt_kinds.specs.Kinds.{member_leaves}
use Rattle.nt_kinds.proofs.leaves.same_leaves.Given as goal

abbrev pub invariant-loop-k : goal.invariant-loop-k
invariant-loop-k l = (i : ℕ) → i < l.k → slice_get (member_leaves l.a) i ≡ slice_get (member_leaves l.b) i
