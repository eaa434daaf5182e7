use Rattle.std.proofs.Common.{◌∙◌, sym, subst, ◌<◌}
use Rattle.nt_value.proofs.Results.{seen_remainder}
use Rattle.nt_value.proofs.Signs.{divisor_positive}
use Rattle.nt_value.proofs.bits.Bits.remainder.Goals as goal

pub nonzero_rem-absolute : goal.nonzero_rem-absolute
nonzero_rem-absolute c =
    let can = sym c.can_divide.ensures ∙ c.if-not-can_divide.false in
    subst (λ n. 0 < n) (sym c.absolute-2.ensures) (divisor_positive c.args.self c.args.other can)

pub returns : goal.returns
returns c =
    let can = sym c.can_divide.ensures ∙ c.if-not-can_divide.false in
    c.with_sign.ensures
    ∙ seen_remainder c.self.inside c.args.self c.args.other _ _ _ c.self.view_is can c.is_negative.ensures c.absolute.ensures c.absolute-2.ensures
