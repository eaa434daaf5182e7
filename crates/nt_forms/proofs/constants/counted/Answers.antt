use Rattle.std.proofs.Common.{Err, sym, ap, refl, subst, ◌∙◌}
use Rattle.std.proofs.lemmas.Result.{err_from_is_err_and}
use Rattle.nt_ast.specs.declared.expr.Expr.TheViews.{out-Expr}
use Rattle.nt_typing.specs.Faults.{count}
use Rattle.nt_forms.specs.Walks.{CountsTo}
use Rattle.nt_forms.proofs.Knowing.{means_own, constant_lacks, unmet_lacks}
use Rattle.nt_forms.proofs.constants.counted.Goals as goal

pub returns-in_err-value : goal.returns-in_err-value
returns-in_err-value c =
    let p = err_from_is_err_and c.from_residual.result c.from_residual.ensures.1 in
    subst (λ r. CountsTo c.args.scope.now (out-Expr c.args.expr.now) r) (sym (p.1 ∙ ap (λ f. Err f) p.2)) (constant_lacks count c.args.scope.now _ c.in_err-value.field-0.0 refl c.in_err-value.ensures.answer)

pub returns-then-counts : goal.returns-then-counts
returns-then-counts c = record { value = c.in_ok-value.value; constant = means_own c.in_ok-value.ensures.answer; counts = c.if-counts.ensures.0 refl; is = c.magnitude.ensures.value }

pub returns-else-counts : goal.returns-else-counts
returns-else-counts c = unmet_lacks count c.args.scope.now _ c.in_ok-value.value c.at.result _ refl (means_own c.in_ok-value.ensures.answer) (λ g. absurd (let e : _ = c.if-counts.ensures.1 g in cc)) c.refused.ensures c.at.ensures
