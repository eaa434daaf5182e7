use Rattle.std.proofs.Common.{Err, ap, ◌∙◌, subst}
use Rattle.std.proofs.lemmas.Result.{err_from_is_err_and}
use Rattle.nt_ast.specs.declared.expr.Expr.TheOpen.{Expr-F}
use Rattle.nt_ast.specs.declared.expr.Expr.TheViews.{out-Expr}
use Rattle.nt_forms.specs.Walks.{Leafs, Selves}
use Rattle.nt_typing.specs.Faults.{leaf}
use Rattle.nt_typing.proofs.Least.{refuse_in, refuse_there}
use Rattle.nt_bind.proofs.Rising.{drafts_err, leafed_fit, lift_one, selfed_fit}
use Rattle.nt_bind.proofs.arms.choose_arm.Goals as goal

pub returns-in_err-test : goal.returns-in_err-test
returns-in_err-test c = λ s at z x y h0 h1 h2.
    let p = err_from_is_err_and c.from_residual.result c.from_residual.ensures.1 in
    drafts_err s _ c.from_residual.result c.in_err-test.field-0.0 (p.1 ∙ ap (λ f. Err f) p.2)
    (lift_one s _ leaf z _ c.in_err-test.field-0.0 (λ r h. refuse_in (Expr-F.Choose at z x y) r h) (subst (λ r. Selves s (out-Expr z) r) c.in_err-test.was h0))

pub returns-in_err-one : goal.returns-in_err-one
returns-in_err-one c = λ s at z x y h0 h1 h2.
    let p = err_from_is_err_and c.from_residual-in_err-one.result c.from_residual-in_err-one.ensures.1 in
    drafts_err s _ c.from_residual-in_err-one.result c.in_err-one.field-0.0 (p.1 ∙ ap (λ f. Err f) p.2)
    (lift_one s _ leaf x _ c.in_err-one.field-0.0 (λ r h. refuse_in (Expr-F.Choose at z x y) r (refuse_there leaf z _ r (selfed_fit (subst (λ r. Selves s (out-Expr z) r) c.in_ok-test.was h0)) h)) (subst (λ r. Leafs s (out-Expr x) r) c.in_err-one.was h1))

pub returns-in_err-other : goal.returns-in_err-other
returns-in_err-other c = λ s at z x y h0 h1 h2.
    let p = err_from_is_err_and c.from_residual-in_err-other.result c.from_residual-in_err-other.ensures.1 in
    drafts_err s _ c.from_residual-in_err-other.result c.in_err-other.field-0.0 (p.1 ∙ ap (λ f. Err f) p.2)
    (lift_one s _ leaf y _ c.in_err-other.field-0.0 (λ r h. refuse_in (Expr-F.Choose at z x y) r (refuse_there leaf z _ r (selfed_fit (subst (λ r. Selves s (out-Expr z) r) c.in_ok-test.was h0)) (refuse_there leaf x _ r (leafed_fit c.in_ok-one.one (subst (λ r. Leafs s (out-Expr x) r) c.in_ok-one.was h1)) h))) (subst (λ r. Leafs s (out-Expr y) r) c.in_err-other.was h2))
