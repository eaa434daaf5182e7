use Rattle.std.proofs.Common.{◌∙◌, sym, subst, ◌<◌}
use Rattle.nt_value.proofs.Results.{seen_quotient}
use Rattle.nt_value.proofs.Signs.{divisor_positive}
use Rattle.nt_value.proofs.bits.Bits.divide.Goals as goal

pub nonzero_div-absolute : goal.nonzero_div-absolute
nonzero_div-absolute c =
    let can = sym c.can_divide.ensures ∙ c.if-not-can_divide.false in
    subst (λ n. 0 < n) (sym c.absolute-2.ensures) (divisor_positive c.args.self c.args.other can)

pub returns : goal.returns
returns c =
    let can = sym c.can_divide.ensures ∙ c.if-not-can_divide.false in
    c.with_sign.ensures
    ∙ seen_quotient c.self-2.inside c.args.self c.args.other _ _ _ _ c.self-2.view_is can c.is_negative.ensures c.is_negative-2.ensures c.absolute.ensures c.absolute-2.ensures
