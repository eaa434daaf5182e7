use Rattle.std.proofs.Common.{Err, ap, ◌∙◌, subst}
use Rattle.std.proofs.lemmas.Result.{err_from_is_err_and}
use Rattle.nt_ast.specs.declared.expr.Expr.TheOpen.{Expr-F}
use Rattle.nt_ast.specs.declared.expr.Expr.TheViews.{out-Expr}
use Rattle.nt_forms.specs.Walks.{Bases, Selves}
use Rattle.nt_typing.specs.Faults.{base, leaf}
use Rattle.nt_typing.proofs.Excluded.{fit_base}
use Rattle.nt_typing.proofs.Least.{refuse_in, refuse_there}
use Rattle.nt_bind.proofs.Rising.{drafts_err, lift_one}
use Rattle.nt_bind.proofs.arms.item_arm.Goals as goal

pub returns-in_err-of : goal.returns-in_err-of
returns-in_err-of c = λ s x y h0 h1.
    let p = err_from_is_err_and c.from_residual.result c.from_residual.ensures.1 in
    drafts_err s _ c.from_residual.result c.in_err-of.field-0.0 (p.1 ∙ ap (λ f. Err f) p.2)
    (lift_one s _ base x _ c.in_err-of.field-0.0 (λ r h. refuse_in (Expr-F.Item c.args.at x y) r h) (subst (λ r. Bases s (out-Expr x) r) c.in_err-of.was h0))

pub returns-in_err-index : goal.returns-in_err-index
returns-in_err-index c = λ s x y h0 h1.
    let p = err_from_is_err_and c.from_residual-in_err-index.result c.from_residual-in_err-index.ensures.1 in
    drafts_err s _ c.from_residual-in_err-index.result c.in_err-index.field-0.0 (p.1 ∙ ap (λ f. Err f) p.2)
    (lift_one s _ leaf y _ c.in_err-index.field-0.0 (λ r h. refuse_in (Expr-F.Item c.args.at x y) r (refuse_there base x _ r (fit_base (subst (λ r. Bases s (out-Expr x) r) c.in_ok-of.was h0)) h)) (subst (λ r. Selves s (out-Expr y) r) c.in_err-index.was h1))
