use Rattle.std.proofs.Common.{Err, ap, ◌∙◌, subst}
use Rattle.std.proofs.lemmas.Result.{err_from_is_err_and}
use Rattle.nt_ast.specs.declared.expr.Expr.TheOpen.{Expr-F}
use Rattle.nt_ast.specs.declared.expr.Expr.TheViews.{out-Expr}
use Rattle.nt_forms.specs.Walks.{Bases, MeasuresTo, Selves}
use Rattle.nt_typing.specs.Faults.{base, known, leaf}
use Rattle.nt_typing.proofs.Excluded.{fit_base}
use Rattle.nt_typing.proofs.Least.{refuse_in, refuse_there}
use Rattle.nt_bind.proofs.Rising.{drafts_err, lift_one, selfed_fit}
use Rattle.nt_bind.proofs.arms.indexed_arm.Goals as goal

pub returns-in_err-of : goal.returns-in_err-of
returns-in_err-of c = λ s x y z h0 h1 h2.
    let p = err_from_is_err_and c.from_residual.result c.from_residual.ensures.1 in
    drafts_err s _ c.from_residual.result c.in_err-of.field-0.0 (p.1 ∙ ap (λ f. Err f) p.2)
    (lift_one s _ base x _ c.in_err-of.field-0.0 (λ r h. refuse_in (Expr-F.Indexed c.args.at x y z c.args.up) r h) (subst (λ r. Bases s (out-Expr x) r) c.in_err-of.was h0))

pub returns-in_err-base : goal.returns-in_err-base
returns-in_err-base c = λ s x y z h0 h1 h2.
    let p = err_from_is_err_and c.from_residual-in_err-base.result c.from_residual-in_err-base.ensures.1 in
    drafts_err s _ c.from_residual-in_err-base.result c.in_err-base.field-0.0 (p.1 ∙ ap (λ f. Err f) p.2)
    (lift_one s _ leaf y _ c.in_err-base.field-0.0 (λ r h. refuse_in (Expr-F.Indexed c.args.at x y z c.args.up) r (refuse_there base x _ r (fit_base (subst (λ r. Bases s (out-Expr x) r) c.in_ok-of.was h0)) h)) (subst (λ r. Selves s (out-Expr y) r) c.in_err-base.was h1))

pub returns-in_err-width : goal.returns-in_err-width
returns-in_err-width c = λ s x y z h0 h1 h2.
    let p = err_from_is_err_and c.from_residual-in_err-width.result c.from_residual-in_err-width.ensures.1 in
    drafts_err s _ c.from_residual-in_err-width.result c.in_err-width.field-0.0 (p.1 ∙ ap (λ f. Err f) p.2)
    (lift_one s _ known z _ c.in_err-width.field-0.0 (λ r h. refuse_in (Expr-F.Indexed c.args.at x y z c.args.up) r (refuse_there base x _ r (fit_base (subst (λ r. Bases s (out-Expr x) r) c.in_ok-of.was h0)) (refuse_there leaf y _ r (selfed_fit (subst (λ r. Selves s (out-Expr y) r) c.in_ok-base.was h1)) h))) (subst (λ r. MeasuresTo s (out-Expr z) r) c.in_err-width.was h2))
