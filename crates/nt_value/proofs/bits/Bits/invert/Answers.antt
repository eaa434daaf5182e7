use Rattle.std.proofs.Common.{◌<◌, ◌^◌, ◌∙◌, arith}
use Rattle.std.proofs.lemmas.Nat.{or_lt, xor_lt, pow_pos}
use Rattle.nt_value.proofs.Bitwise.{seen_turned}
use Rattle.nt_value.proofs.bits.Bits.invert.Goals as goal

pub from_words-requires-clause-ones : goal.from_words-requires-clause-ones
from_words-requires-clause-ones c =
    let n = c.self.inside.leaf.width in
    let low : c.low_ones.result < 2 ^ n = omega (arith, c.low_ones.ensures, pow_pos n) in
    or_lt n _ _ (xor_lt n _ _ c.self.invariant.ones low) c.self.invariant.unknown

pub returns : goal.returns
returns c =
    let made = rw c.low_ones.ensures at c.from_words.ensures in
    made ∙ seen_turned c.self.inside c.args.self c.self.view_is
