use Rattle.std.proofs.Common.{ap, ◌∙◌, sym, List}
use Rattle.nt_value.specs.Digits.{LeafValue}
use Rattle.nt_value.specs.declared.digit.Digit.{Digit}
use Rattle.nt_value.specs.declared.leaf.Leaf.{Leaf}
use Rattle.nt_lexer.specs.Numbers.{decimal, decimal_digits}
use Rattle.nt_lexer.proofs.Binaries.{decimal_low}
use Rattle.nt_lexer.proofs.numbers.decimal_value.Goals as goal

abbrev with : Leaf → List Digit → LeafValue
with leaf digits = record { leaf = leaf; digits = digits }

pub returns-in-None : goal.returns-in-None
returns-in-None c =
    c.number.ensures.value
    ∙ ap (with c.args.leaf) (decimal_low c.args.leaf.width c.from.result c.low_decimal.result (decimal c.args.text.now) c.requires.leaf.1 c.from.ensures c.low_decimal.ensures)
    ∙ sym (ap (λ u. with c.args.leaf (decimal_digits c.args.leaf.width c.args.text.now u)) (sym c.first_unknown.ensures ∙ c.in-None.is))
