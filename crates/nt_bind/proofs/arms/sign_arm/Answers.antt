use Rattle.std.proofs.Common.{Err, ap, ◌∙◌, subst}
use Rattle.std.proofs.lemmas.Result.{err_from_is_err_and}
use Rattle.nt_ast.specs.declared.expr.Expr.TheOpen.{Expr-F}
use Rattle.nt_ast.specs.declared.expr.Expr.TheViews.{out-Expr}
use Rattle.nt_forms.specs.Walks.{Selves}
use Rattle.nt_typing.specs.Faults.{leaf}
use Rattle.nt_typing.proofs.Least.{refuse_in}
use Rattle.nt_bind.proofs.Rising.{drafts_err, lift_one}
use Rattle.nt_bind.proofs.arms.sign_arm.Goals as goal

pub returns-in_err-of : goal.returns-in_err-of
returns-in_err-of c = λ s at x h0.
    let p = err_from_is_err_and c.from_residual.result c.from_residual.ensures.1 in
    drafts_err s _ c.from_residual.result c.in_err-of.field-0.0 (p.1 ∙ ap (λ f. Err f) p.2)
    (lift_one s _ leaf x _ c.in_err-of.field-0.0 (λ r h. refuse_in (Expr-F.Sign at c.args.signed x) r h) (subst (λ r. Selves s (out-Expr x) r) c.in_err-of.was h0))
