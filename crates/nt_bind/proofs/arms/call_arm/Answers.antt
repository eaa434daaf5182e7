use Rattle.std.proofs.Common.{Err, sym, ap, ◌∙◌, subst}
use Rattle.std.proofs.lemmas.Result.{err_from_is_err_and}
use Rattle.nt_ast.specs.declared.expr.Expr.TheOpen.{Expr-F}
use Rattle.nt_forms.specs.Walks.{AllSent}
use Rattle.nt_typing.specs.Tables.{given}
use Rattle.nt_typing.specs.Faults.{asked_of}
use Rattle.nt_typing.specs.Places.{RefusesOne}
use Rattle.nt_typing.proofs.Least.{refuse_in}
use Rattle.nt_bind.proofs.Rising.{drafts_err, lift_sent}
use Rattle.nt_bind.proofs.arms.call_arm.Goals as goal

pub returns-in_err-args : goal.returns-in_err-args
returns-in_err-args c = λ s path xs e h.
    let p = err_from_is_err_and c.from_residual.result c.from_residual.ensures.1 in
    drafts_err s _ c.from_residual.result c.in_err-args.field-0.0 (p.1 ∙ ap (λ f. Err f) p.2)
    (lift_sent s _ (given xs c.args.function.now.args) c.in_err-args.field-0.0
    (λ r h. refuse_in (Expr-F.Call c.args.at path xs) r (subst (λ o. RefusesOne s (asked_of o xs) r) (sym e) h))
    (subst (λ r. AllSent s (given xs c.args.function.now.args) r) c.in_err-args.was h))
