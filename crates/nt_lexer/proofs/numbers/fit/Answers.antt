use Rattle.std.proofs.Common.{ap, ◌∙◌, get_or}
use Rattle.nt_lexer.proofs.Binaries.{fit_next}
use Rattle.nt_lexer.proofs.numbers.fit.Goals as goal

pub loop-at-preserved : goal.loop-at-preserved
loop-at-preserved c =
    fit_next c.args.leaf c.loop-at.at c.args.fill c.digit_or.result c.args.digits.now c.loop-at.bits c.with_digit-bits.result c.loop-at-test.true c.loop-at.invariant
    (c.digit_or.ensures ∙ ap (λ j. get_or c.args.digits.now j c.args.fill) c.from.ensures) c.with_digit-bits.ensures
