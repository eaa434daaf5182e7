use Rattle.std.proofs.Common.{ap, ◌∙◌, sym, ◌%◌, ◌≡◌, arith}
use Rattle.std.proofs.lemmas.List.{drop_all}
use Rattle.nt_lexer.specs.Numbers.{decimal, decimal_from}
use Rattle.nt_lexer.proofs.Digits.{low_step}
use Rattle.nt_lexer.proofs.numbers.low_decimal.Goals as goal

pub loop-b-preserved : goal.loop-b-preserved
loop-b-preserved c = record {
  value = low_step c.loop-b.number c.with_low_digit-number.result c.loop-b.b-index c.args.text.now c.loop-b-test.true c.loop-b.invariant.value c.with_low_digit-number.ensures;
  small = c.with_low_digit-number.type_inv;
}

pub returns : goal.returns
returns c =
    let e : c.loop-b.number % 18446744073709551616 ≡ decimal c.args.text.now % 18446744073709551616 =
    ap (λ t. decimal_from c.loop-b.number t % 18446744073709551616) (sym (drop_all c.loop-b.b-index c.args.text.now c.loop-b-test.false)) ∙ c.loop-b.invariant.value in
    omega (arith, e, c.loop-b.invariant.small)
