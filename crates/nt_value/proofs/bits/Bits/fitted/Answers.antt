use Rattle.std.proofs.Common.{◌∙◌, ap, List}
use Rattle.nt_value.specs.Operators.{in_leaf}
use Rattle.nt_value.specs.declared.digit.Digit.{Digit}
use Rattle.nt_value.proofs.Widths.{masked, masked_lt}
use Rattle.nt_value.proofs.bits.Bits.fitted.Goals as goal

pub from_words-requires-clause-ones : goal.from_words-requires-clause-ones
from_words-requires-clause-ones c = rw c.low_ones-low.ensures (masked_lt c.args.ones c.args.leaf.width)

pub from_words-requires-clause-unknown : goal.from_words-requires-clause-unknown
from_words-requires-clause-unknown c = rw c.low_ones-low.ensures (masked_lt c.args.unknown c.args.leaf.width)

pub returns : goal.returns
returns c =
    let made = rw c.low_ones-low.ensures at c.from_words.ensures in
    made ∙ ap (λ (ds : List Digit). in_leaf c.args.leaf ds) (masked c.args.leaf.width c.args.ones c.args.unknown)
