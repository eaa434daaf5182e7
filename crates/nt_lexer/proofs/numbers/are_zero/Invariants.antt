use Rattle.std.proofs.Common.{◌≡◌, drop}
use Rattle.std.specs.List.{list_all}
use Rattle.nt_lexer.specs.Numbers.{is_zero}
use Rattle.nt_lexer.proofs.numbers.are_zero.Given as goal

abbrev pub invariant-loop-digit : goal.invariant-loop-digit
invariant-loop-digit l = list_all is_zero (drop l.digit-index l.digits) ≡ list_all is_zero l.digits
