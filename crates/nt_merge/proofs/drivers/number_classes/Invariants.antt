use Rattle.std.proofs.Common.{◌≤◌}
use Rattle.nt_merge.specs.Numbers.{IsNumbering}
use Rattle.nt_merge.proofs.drivers.number_classes.Given as goal

abbrev pub invariant-loop-segment : goal.invariant-loop-segment
invariant-loop-segment l = record { few : l.count ≤ l.segment; numbers : IsNumbering l.least l.segment l.numbers.items l.count }
