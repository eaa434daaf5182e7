use Rattle.std.proofs.Common.{Err, ap, ◌∙◌, subst}
use Rattle.std.proofs.lemmas.Result.{err_from_is_err_and}
use Rattle.nt_stmt_parts.specs.Parts.{Lefts}
use Rattle.nt_stmt_parts.proofs.Telling.{deferred_left_told, deferred_told}
use Rattle.nt_stmt_parts.proofs.assigned.deferred_to.Goals as goal

pub returns-in_err-left : goal.returns-in_err-left
returns-in_err-left c = λ x e h.
    let p = err_from_is_err_and c.from_residual.result c.from_residual.ensures.1 in
    deferred_left_told c.args.scope.now c.args.first x c.args.right.now c.from_residual.result c.args.left c.in_err-left.field-0.0 (p.1 ∙ ap (λ f. Err f) p.2) c.in_err-left.was h

pub returns : goal.returns
returns c = λ x e h.
    deferred_told c.args.scope.now c.args.first x c.args.right.now c.is_own-own.result c.args.at c.args.left c.in_ok-left.left c.assigned_to-assigned.result c.with_rule.result
    c.is_own-own.ensures e c.in_ok-left.was c.with_rule.ensures h (c.assigned_to-assigned.ensures x (subst (Lefts c.args.scope.now x) c.in_ok-left.was h))
