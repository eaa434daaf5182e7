use Rattle.std.proofs.Common.{◌≡◌, true, false, Err, sym, ap, refl, subst, ◌∙◌}
use Rattle.std.proofs.lemmas.Result.{err_from_is_err_and}
use Rattle.nt_ast.specs.declared.expr.Expr.TheViews.{out-Expr}
use Rattle.nt_typing.specs.Faults.{known}
use Rattle.nt_forms.specs.Walks.{MeasuresTo}
use Rattle.nt_forms.proofs.Knowing.{means_own, constant_lacks, unmet_lacks}
use Rattle.nt_forms.proofs.constants.measured.Goals as goal

pub returns-in_err-value : goal.returns-in_err-value
returns-in_err-value c =
    let p = err_from_is_err_and c.from_residual.result c.from_residual.ensures.1 in
    subst (λ r. MeasuresTo c.args.scope.now (out-Expr c.args.expr.now) r) (sym (p.1 ∙ ap (λ f. Err f) p.2)) (constant_lacks known c.args.scope.now _ c.in_err-value.field-0.0 refl c.in_err-value.ensures.answer)

pub returns-then-is_known : goal.returns-then-is_known
returns-then-is_known c = record { value = c.in_ok-value.value; constant = means_own c.in_ok-value.ensures.answer; is_known = sym c.if-is_known.ensures.value; is = c.width_of.ensures }

pub returns-else-is_known : goal.returns-else-is_known
returns-else-is_known c = unmet_lacks known c.args.scope.now _ c.in_ok-value.value c.at.result _ refl (means_own c.in_ok-value.ensures.answer) (λ g. absurd (let e : false ≡ true = c.if-is_known.ensures.value ∙ g in cc)) c.refused.ensures c.at.ensures
