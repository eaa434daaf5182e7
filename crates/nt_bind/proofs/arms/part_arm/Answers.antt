use Rattle.std.proofs.Common.{Err, ap, ◌∙◌, subst}
use Rattle.std.proofs.lemmas.Result.{err_from_is_err_and}
use Rattle.nt_ast.specs.declared.expr.Expr.TheOpen.{Expr-F}
use Rattle.nt_ast.specs.declared.expr.Expr.TheViews.{out-Expr}
use Rattle.nt_forms.specs.Walks.{Bases, CountsTo}
use Rattle.nt_typing.specs.Faults.{base, count}
use Rattle.nt_typing.proofs.Excluded.{fit_base}
use Rattle.nt_typing.proofs.Least.{refuse_in, refuse_there}
use Rattle.nt_bind.proofs.Rising.{counted_fit, drafts_err, lift_one}
use Rattle.nt_bind.proofs.arms.part_arm.Goals as goal

pub returns-in_err-of : goal.returns-in_err-of
returns-in_err-of c = λ s x y z h0 h1 h2.
    let p = err_from_is_err_and c.from_residual.result c.from_residual.ensures.1 in
    drafts_err s _ c.from_residual.result c.in_err-of.field-0.0 (p.1 ∙ ap (λ f. Err f) p.2)
    (lift_one s _ base x _ c.in_err-of.field-0.0 (λ r h. refuse_in (Expr-F.Part c.args.at x y z) r h) (subst (λ r. Bases s (out-Expr x) r) c.in_err-of.was h0))

pub returns-in_err-left : goal.returns-in_err-left
returns-in_err-left c = λ s x y z h0 h1 h2.
    let p = err_from_is_err_and c.from_residual-in_err-left.result c.from_residual-in_err-left.ensures.1 in
    drafts_err s _ c.from_residual-in_err-left.result c.in_err-left.field-0.0 (p.1 ∙ ap (λ f. Err f) p.2)
    (lift_one s _ count y _ c.in_err-left.field-0.0 (λ r h. refuse_in (Expr-F.Part c.args.at x y z) r (refuse_there base x _ r (fit_base (subst (λ r. Bases s (out-Expr x) r) c.in_ok-of.was h0)) h)) (subst (λ r. CountsTo s (out-Expr y) r) c.in_err-left.was h1))

pub returns-in_err-right : goal.returns-in_err-right
returns-in_err-right c = λ s x y z h0 h1 h2.
    let p = err_from_is_err_and c.from_residual-in_err-right.result c.from_residual-in_err-right.ensures.1 in
    drafts_err s _ c.from_residual-in_err-right.result c.in_err-right.field-0.0 (p.1 ∙ ap (λ f. Err f) p.2)
    (lift_one s _ count z _ c.in_err-right.field-0.0 (λ r h. refuse_in (Expr-F.Part c.args.at x y z) r (refuse_there base x _ r (fit_base (subst (λ r. Bases s (out-Expr x) r) c.in_ok-of.was h0)) (refuse_there count y _ r (counted_fit (subst (λ r. CountsTo s (out-Expr y) r) c.in_ok-left.was h1)) h))) (subst (λ r. CountsTo s (out-Expr z) r) c.in_err-right.was h2))
