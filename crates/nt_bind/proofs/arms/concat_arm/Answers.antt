use Rattle.std.proofs.Common.{Err, ap, ◌∙◌, subst}
use Rattle.std.proofs.lemmas.Result.{err_from_is_err_and}
use Rattle.nt_ast.specs.declared.expr.Expr.TheOpen.{Expr-F}
use Rattle.nt_forms.specs.Walks.{Severals}
use Rattle.nt_typing.proofs.Least.{refuse_in}
use Rattle.nt_bind.proofs.Rising.{drafts_err, lift_several}
use Rattle.nt_bind.proofs.arms.concat_arm.Goals as goal

pub returns-in_err-all : goal.returns-in_err-all
returns-in_err-all c = λ s xs h0.
    let p = err_from_is_err_and c.from_residual.result c.from_residual.ensures.1 in
    drafts_err s _ c.from_residual.result c.in_err-all.field-0.0 (p.1 ∙ ap (λ f. Err f) p.2)
    (lift_several s _ xs c.in_err-all.field-0.0 (λ r h. refuse_in (Expr-F.Concat c.args.at xs) r h) (subst (λ r. Severals s xs r) c.in_err-all.was h0))
