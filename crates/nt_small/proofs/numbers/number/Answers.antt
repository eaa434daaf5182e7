use Rattle.std.proofs.Common.{arith}
use Rattle.std.proofs.lemmas.List.Sums.{fold_more}
use Rattle.nt_small.proofs.Decimal.{digit_at, pow_more}
use Rattle.nt_small.proofs.numbers.number.Goals as goal

pub overflow_sub-digit : goal.overflow_sub-digit
overflow_sub-digit c = (digit_at c.args.digits.now c.loop-digit.digit-index c.loop-digit-test.true c.requires.2).0

pub loop-digit-preserved : goal.loop-digit-preserved
loop-digit-preserved c =
    let range = digit_at c.args.digits.now c.loop-digit.digit-index c.loop-digit-test.true c.requires.2 in
    (grind (arith, fold_more), omega (arith, range.0, range.1, c.from.ensures, c.loop-digit.invariant.1, pow_more c.loop-digit.digit-index))
