use Rattle.std.proofs.Common.{◌≡◌, drop}
use Rattle.std.specs.List.{list_any}
use Rattle.nt_value.specs.Logic.{is_same_digit}
use Rattle.nt_value.specs.declared.digit.Digit.TheVariants.{X}
use Rattle.nt_lines.proofs.format.some_x.Given as goal

abbrev pub invariant-loop-at : goal.invariant-loop-at
invariant-loop-at l = list_any (is_same_digit X) (drop l.at l.bits.digits) ≡ list_any (is_same_digit X) l.bits.digits
