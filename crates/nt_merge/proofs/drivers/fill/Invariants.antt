use Rattle.std.proofs.Common.{ℕ, List, length}
use Rattle.nt_merge.specs.Numbers.{IsNumbering, contents}
use Rattle.nt_merge.proofs.Counting.{Filled}
use Rattle.nt_merge.proofs.drivers.fill.Given as goal

abbrev pub invariant-loop-at : goal.invariant-loop-at
invariant-loop-at l = (least : List ℕ) → IsNumbering least (length least) l.numbers (length l.fn.lists) → Filled least l.driven l.resolved (length l.fn.lists) l.at (contents l.lists)
