use Rattle.std.proofs.Common.{Err, ap, ◌∙◌}
use Rattle.std.proofs.lemmas.Result.{err_from_is_err_and}
use Rattle.nt_design.specs.declared.tree.Tree.TheVariants as t
use Rattle.nt_forms.proofs.Knowing.{means_own}
use Rattle.nt_stmt_parts.proofs.Telling.{means_filled, not_small, outside_told, small_is, varies_told}
use Rattle.nt_stmt_parts.proofs.delays.delay_of.Goals as goal

pub returns-in_err-bits : goal.returns-in_err-bits
returns-in_err-bits c =
    let p = err_from_is_err_and c.from_residual.result c.from_residual.ensures.1 in
    varies_told c.args.scope.now c.args.expr.now c.from_residual.result c.in_err-bits.field-0.0 (p.1 ∙ ap (λ f. Err f) p.2) c.in_err-bits.ensures.answer

pub returns-in_ok-new : goal.returns-in_ok-new
returns-in_ok-new c = record {
  value = c.in_ok-bits.bits;
  constant = means_own c.in_ok-bits.ensures.answer;
  filled = means_filled c.in_ok-bits.ensures.answer;
  small = small_is c.in_ok-bits.bits _ _ _ c.in_ok-value.ensures c.index_of.ensures c.if-is_delay.ensures;
  tree = c.in_ok-new.ensures ∙ ap t.Const c.in_ok-value.ensures;
}

pub returns-else-is_delay : goal.returns-else-is_delay
returns-else-is_delay c =
    outside_told c.args.scope.now c.args.expr.now c.in_ok-bits.bits c.at.result _ (means_own c.in_ok-bits.ensures.answer)
    (not_small c.in_ok-bits.bits (small_is c.in_ok-bits.bits _ _ _ c.in_ok-value.ensures c.index_of.ensures c.if-is_delay.ensures)) c.refused.ensures c.at.ensures
