use Rattle.std.proofs.Common.{◌≡◌, ◌∙◌, ◌-◌, refl, sym, ap, arith}
use Rattle.std.specs.Prelude.{false}
use Rattle.nt_value.specs.Digits.{is_one}
use Rattle.nt_value.specs.declared.digit.Digit.{Digit}
use Rattle.nt_value.specs.declared.digit.Digit.TheVariants.{Zero, One, X, Z}
use Rattle.nt_parts.proofs.Numbers.{top_is}
use Rattle.nt_parts.proofs.index.is_top_one.Goals as goal

other : (d : Digit) → (d ≡ One → ⊥) → is_one d ≡ false
other Zero h = refl
other One h = absurd (h refl)
other X h = refl
other Z h = refl

pub returns-in-One : goal.returns-in-One
returns-in-One c =
    let e = c.width.ensures.whole in
    let some = c.width.ensures.some in
    sym (top_is c.args.bits.digits c.digit.result (c.width.result - 1) (omega (arith, e, some)) c.digit.ensures ∙ ap is_one c.in-One.is)

pub returns-in_default : goal.returns-in_default
returns-in_default c =
    let e = c.width.ensures.whole in
    let some = c.width.ensures.some in
    sym (top_is c.args.bits.digits c.digit.result (c.width.result - 1) (omega (arith, e, some)) c.digit.ensures ∙ other c.digit.result c.in_default.not-One)
