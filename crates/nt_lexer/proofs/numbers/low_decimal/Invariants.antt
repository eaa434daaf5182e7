use Rattle.std.proofs.Common.{◌≡◌, ◌%◌, ◌<◌, drop}
use Rattle.nt_lexer.specs.Numbers.{decimal, decimal_from}
use Rattle.nt_lexer.proofs.numbers.low_decimal.Given as goal

abbrev pub invariant-loop-b : goal.invariant-loop-b
invariant-loop-b l = record {
  value : decimal_from l.number (drop l.b-index l.text) % 18446744073709551616 ≡ decimal l.text % 18446744073709551616;
  small : l.number < 18446744073709551616;
}
