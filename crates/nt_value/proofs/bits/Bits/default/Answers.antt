use Rattle.std.proofs.Common.{◌≡◌, true, arith}
use Rattle.nt_value.proofs.Words.{default_four}
use Rattle.nt_value.proofs.bits.Bits.default.Goals as goal

pub returns : goal.returns
returns c =
    let four : c.args.leaf.four ≡ true = grind arith in
    default_four c.args.leaf _ four c.low_ones-ones.ensures
