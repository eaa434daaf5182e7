use Rattle.std.proofs.Common.{◌∙◌, sym}
use Rattle.nt_value.proofs.Truths.{if_same, if_other, seen_equal}
use Rattle.nt_value.proofs.bits.Bits.equality.Goals as goal

pub returns-then-self-other-ne0 : goal.returns-then-self-other-ne0
returns-then-self-other-ne0 c =
    let whole = seen_equal c.self.inside c.other.inside c.args.self c.args.other c.self.view_is c.other.view_is c.requires c.self.invariant c.other.invariant in
    sym (whole ∙ if_other _ _ c.if-self-other-ne0.true)

pub returns-then-unknown-ne0 : goal.returns-then-unknown-ne0
returns-then-unknown-ne0 c =
    let whole = seen_equal c.self.inside c.other.inside c.args.self c.args.other c.self.view_is c.other.view_is c.requires c.self.invariant c.other.invariant in
    sym (whole ∙ if_same _ _ c.if-self-other-ne0.false ∙ if_other _ _ c.if-unknown-ne0.true)

pub returns : goal.returns
returns c =
    let whole = seen_equal c.self.inside c.other.inside c.args.self c.args.other c.self.view_is c.other.view_is c.requires c.self.invariant c.other.invariant in
    sym (whole ∙ if_same _ _ c.if-self-other-ne0.false ∙ if_same _ _ c.if-unknown-ne0.false)
