use Rattle.std.proofs.Common.{◌∙◌, sym}
use Rattle.nt_value.proofs.Joins.{seen_joined_and}
use Rattle.nt_value.proofs.Truths.{if_same, if_other}
use Rattle.nt_value.proofs.bits.Bits.reduce_and.Goals as goal

pub returns-then-self-low_ones : goal.returns-then-self-low_ones
returns-then-self-low_ones c =
    let whole = seen_joined_and c.self.inside c.args.self c.self.view_is c.self.invariant in
    sym (whole ∙ if_other _ _ (λ e. c.if-self-low_ones.true (e ∙ sym c.low_ones.ensures)))

pub returns-then-self-ne0 : goal.returns-then-self-ne0
returns-then-self-ne0 c =
    let whole = seen_joined_and c.self.inside c.args.self c.self.view_is c.self.invariant in
    sym (whole ∙ if_same _ _ (c.if-self-low_ones.false ∙ c.low_ones.ensures) ∙ if_other _ _ c.if-self-ne0.true)

pub returns : goal.returns
returns c =
    let whole = seen_joined_and c.self.inside c.args.self c.self.view_is c.self.invariant in
    sym (whole ∙ if_same _ _ (c.if-self-low_ones.false ∙ c.low_ones.ensures) ∙ if_same _ _ c.if-self-ne0.false)
