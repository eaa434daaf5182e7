use Rattle.std.proofs.Common.{◌≡◌, sym, ◌∙◌, subst}
use Rattle.nt_value.proofs.bits.Bits.has_digits.Goals as goal

pub returns : goal.returns
returns c = record { long = c.width-width.ensures.whole ∙ c.width-width.ensures.value; two = λ h. sym c.is_known-known.ensures.value ∙ c.is_known-known.ensures.two h }
