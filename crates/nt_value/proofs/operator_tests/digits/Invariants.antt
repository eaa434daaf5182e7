-- The digits that are still to come stand below `above`, and the leaf stays.
use Rattle.std.proofs.Common.{◌≡◌, ◌≤◌}
use Rattle.nt_value.proofs.operator_tests.digits.Given as goal

abbrev pub invariant-loop-code : goal.invariant-loop-code
invariant-loop-code l = (l.bits.leaf ≡ l.leaf) × (l.above ≤ l.leaf.width)
