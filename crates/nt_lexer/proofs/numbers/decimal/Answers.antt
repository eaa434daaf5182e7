use Rattle.nt_lexer.proofs.Digits.{too_wide}
use Rattle.nt_lexer.proofs.numbers.decimal.Goals as goal

pub returns-then-number-most : goal.returns-then-number-most
returns-then-number-most c =
    too_wide c.args.most c.loop-b.number c.with_digit-number.result c.loop-b.b-index c.args.text.now c.loop-b-test.true c.loop-b.invariant.value c.with_digit-number.ensures c.if-number-most.true
