use Rattle.std.proofs.Common.{ap, ◌∙◌, List}
use Rattle.nt_value.specs.Operators.{in_leaf}
use Rattle.nt_value.specs.declared.digit.Digit.{Digit}
use Rattle.nt_value.proofs.Widths.{seen_filled}
use Rattle.nt_value.proofs.bits.Bits.filled.Goals as goal

pub returns : goal.returns
returns c =
    c.fitted.ensures
    ∙ rw (c.spread-ones.ensures, c.spread-unknown.ensures, c.is_one_bit.ensures, c.is_unknown_bit.ensures)
    (ap (λ (ds : List Digit). in_leaf c.args.leaf ds) (seen_filled c.args.leaf.width c.args.digit))
