use Rattle.std.proofs.Common.{◌∙◌, sym}
use Rattle.nt_value.proofs.Truths.{if_same, if_other, seen_truth}
use Rattle.nt_value.proofs.logic.truth.Goals as goal

pub returns-then-a-ne0 : goal.returns-then-a-ne0
returns-then-a-ne0 c =
    let whole = seen_truth c.a.inside c.args.a c.a.view_is c.a.invariant in
    sym (whole ∙ if_other _ _ c.if-a-ne0.true)

pub returns-then-a-ne0-2 : goal.returns-then-a-ne0-2
returns-then-a-ne0-2 c =
    let whole = seen_truth c.a.inside c.args.a c.a.view_is c.a.invariant in
    sym (whole ∙ if_same _ _ c.if-a-ne0.false ∙ if_other _ _ c.if-a-ne0-2.true)

pub returns : goal.returns
returns c =
    let whole = seen_truth c.a.inside c.args.a c.a.view_is c.a.invariant in
    sym (whole ∙ if_same _ _ c.if-a-ne0.false ∙ if_same _ _ c.if-a-ne0-2.false)
