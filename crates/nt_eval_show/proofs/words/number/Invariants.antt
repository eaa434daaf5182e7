-- The leaf stays.
use Rattle.std.proofs.Common.{◌≡◌}
use Rattle.nt_eval_show.proofs.words.number.Given as goal

abbrev pub invariant-loop-at : goal.invariant-loop-at
invariant-loop-at l = l.bits.leaf ≡ l.fn.leaf
