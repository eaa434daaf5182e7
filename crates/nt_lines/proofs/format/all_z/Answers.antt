use Rattle.std.proofs.Common.{sym, ◌∙◌, arith}
use Rattle.nt_value.specs.Logic.{is_same_digit}
use Rattle.nt_value.specs.declared.digit.Digit.TheVariants.{Z}
use Rattle.nt_lines.proofs.Digits.{all_done, all_off, all_on}
use Rattle.nt_lines.proofs.format.all_z.Goals as goal

pub returns-then-not-is_z : goal.returns-then-not-is_z
returns-then-not-is_z c =
    all_off (is_same_digit Z) c.args.bits.digits c.loop-at.at c.digit.result c.digit.ensures c.loop-at.invariant (sym c.is_z.ensures ∙ c.if-not-is_z.true)

pub loop-at-preserved : goal.loop-at-preserved
loop-at-preserved c =
    all_on (is_same_digit Z) c.args.bits.digits c.loop-at.at c.digit.result c.digit.ensures c.loop-at.invariant (sym c.is_z.ensures ∙ c.if-not-is_z.false)

pub returns : goal.returns
returns c = all_done (is_same_digit Z) c.args.bits.digits c.loop-at.at (omega (arith, c.width-at-end.ensures.whole, c.width-at-end.ensures.value, c.loop-at-test.false)) c.loop-at.invariant
