use Rattle.std.proofs.Common.{length, ◌≤◌}
use Rattle.nt_call_show.proofs.cases.argument.Given as goal

abbrev pub invariant-loop-part : goal.invariant-loop-part
invariant-loop-part l = length l.leaves.items ≤ 64
