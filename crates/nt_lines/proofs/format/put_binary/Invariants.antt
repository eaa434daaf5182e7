use Rattle.std.proofs.Common.{◌≡◌, ◌++◌, drop, map, reverse}
use Rattle.nt_value.specs.Texts.{digit_code}
use Rattle.nt_lines.proofs.format.put_binary.Given as goal

abbrev pub invariant-loop-at : goal.invariant-loop-at
invariant-loop-at l = l.out ≡ l.initial.out ++ reverse (map digit_code (drop l.at l.bits.digits))
