use Rattle.std.proofs.Common.{◌≡◌, ◌++◌, ◌-◌, replicate}
use Rattle.nt_value.specs.Arithmetic.{padded}
use Rattle.nt_value.specs.declared.digit.Digit.TheVariants.{Zero}
use Rattle.nt_lexer.proofs.numbers.fit.Given as goal

abbrev pub invariant-loop-at : goal.invariant-loop-at
invariant-loop-at l = l.bits ≡ record { leaf = l.fn.leaf; digits = padded l.at l.fill l.digits ++ replicate (l.fn.leaf.width - l.at) Zero }
