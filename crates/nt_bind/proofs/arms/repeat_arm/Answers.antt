use Rattle.std.proofs.Common.{Err, ap, ◌∙◌, subst}
use Rattle.std.proofs.lemmas.Result.{err_from_is_err_and}
use Rattle.nt_ast.specs.declared.expr.Expr.TheOpen.{Expr-F}
use Rattle.nt_ast.specs.declared.expr.Expr.TheViews.{out-Expr}
use Rattle.nt_forms.specs.Walks.{CountsTo, Severals}
use Rattle.nt_typing.specs.Faults.{count}
use Rattle.nt_typing.proofs.Least.{refuse_in, refuse_there}
use Rattle.nt_bind.proofs.Rising.{counted_fit, drafts_err, lift_one, lift_several}
use Rattle.nt_bind.proofs.arms.repeat_arm.Goals as goal

pub returns-in_err-count : goal.returns-in_err-count
returns-in_err-count c = λ s x xs h0 h1.
    let p = err_from_is_err_and c.from_residual.result c.from_residual.ensures.1 in
    drafts_err s _ c.from_residual.result c.in_err-count.field-0.0 (p.1 ∙ ap (λ f. Err f) p.2)
    (lift_one s _ count x _ c.in_err-count.field-0.0 (λ r h. refuse_in (Expr-F.Repeat c.args.at x xs) r h) (subst (λ r. CountsTo s (out-Expr x) r) c.in_err-count.was h0))

pub returns-in_err-all : goal.returns-in_err-all
returns-in_err-all c = λ s x xs h0 h1.
    let p = err_from_is_err_and c.from_residual-in_err-all.result c.from_residual-in_err-all.ensures.1 in
    drafts_err s _ c.from_residual-in_err-all.result c.in_err-all.field-0.0 (p.1 ∙ ap (λ f. Err f) p.2)
    (lift_several s _ xs c.in_err-all.field-0.0 (λ r h. refuse_in (Expr-F.Repeat c.args.at x xs) r (refuse_there count x _ r (counted_fit (subst (λ r. CountsTo s (out-Expr x) r) c.in_ok-count.was h0)) h)) (subst (λ r. Severals s xs r) c.in_err-all.was h1))
