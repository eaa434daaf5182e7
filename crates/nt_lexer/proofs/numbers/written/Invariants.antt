use Rattle.std.proofs.Common.{◌≡◌, ◌++◌, drop}
use Rattle.nt_lexer.specs.Numbers.{written}
use Rattle.nt_lexer.proofs.numbers.written.Given as goal

abbrev pub invariant-loop-b : goal.invariant-loop-b
invariant-loop-b l = l.digits.items ++ written l.radix (drop l.b-index l.text) ≡ written l.radix l.text
