use Rattle.std.proofs.Common.{sym, ◌∙◌, arith}
use Rattle.nt_value.specs.Logic.{is_same_digit}
use Rattle.nt_value.specs.declared.digit.Digit.TheVariants.{X}
use Rattle.nt_lines.proofs.Digits.{any_done, any_found, any_on}
use Rattle.nt_lines.proofs.format.some_x.Goals as goal

pub returns-then-is_x : goal.returns-then-is_x
returns-then-is_x c =
    any_found (is_same_digit X) c.args.bits.digits c.loop-at.at c.digit.result c.digit.ensures c.loop-at.invariant (sym c.is_x.ensures ∙ c.if-is_x.true)

pub loop-at-preserved : goal.loop-at-preserved
loop-at-preserved c =
    any_on (is_same_digit X) c.args.bits.digits c.loop-at.at c.digit.result c.digit.ensures c.loop-at.invariant (sym c.is_x.ensures ∙ c.if-is_x.false)

pub returns : goal.returns
returns c = any_done (is_same_digit X) c.args.bits.digits c.loop-at.at (omega (arith, c.width-at-end.ensures.whole, c.width-at-end.ensures.value, c.loop-at-test.false)) c.loop-at.invariant
