use Rattle.std.proofs.Common.{◌∙◌, sym}
use Rattle.nt_value.proofs.Joins.{seen_joined_xor}
use Rattle.nt_value.proofs.Truths.{if_same, if_other}
use Rattle.nt_value.proofs.bits.Bits.reduce_xor.Goals as goal

pub returns-then-self-ne0 : goal.returns-then-self-ne0
returns-then-self-ne0 c =
    let whole = seen_joined_xor c.self.inside c.args.self c.self.view_is c.self.invariant in
    sym (whole ∙ if_other _ _ c.if-self-ne0.true)

pub returns-then-self-eq0 : goal.returns-then-self-eq0
returns-then-self-eq0 c =
    let whole = seen_joined_xor c.self.inside c.args.self c.self.view_is c.self.invariant in
    sym (whole ∙ if_same _ _ c.if-self-ne0.false ∙ if_same _ _ c.if-self-eq0.true)

pub returns : goal.returns
returns c =
    let whole = seen_joined_xor c.self.inside c.args.self c.self.view_is c.self.invariant in
    sym (whole ∙ if_same _ _ c.if-self-ne0.false ∙ if_other _ _ c.if-self-eq0.false)
