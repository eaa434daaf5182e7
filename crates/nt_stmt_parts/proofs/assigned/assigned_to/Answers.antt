use Rattle.std.proofs.Common.{Err, ap, ◌∙◌}
use Rattle.std.proofs.lemmas.Result.{err_from_is_err_and}
use Rattle.nt_stmt_parts.proofs.Telling.{assigned_left_told, assigned_right_told}
use Rattle.nt_stmt_parts.proofs.assigned.assigned_to.Goals as goal

pub returns-in_err-kind : goal.returns-in_err-kind
returns-in_err-kind c = λ x h.
    let p = err_from_is_err_and c.from_residual.result c.from_residual.ensures.1 in
    assigned_left_told c.args.scope.now x c.args.right.now c.from_residual.result c.args.left c.in_err-kind.field-0.0 (p.1 ∙ ap (λ f. Err f) p.2) c.in_err-kind.was h

pub returns-in_err-right : goal.returns-in_err-right
returns-in_err-right c = λ x h.
    let p = err_from_is_err_and c.from_residual-in_err-right.result c.from_residual-in_err-right.ensures.1 in
    assigned_right_told c.args.scope.now x c.args.right.now c.from_residual-in_err-right.result c.args.left _ c.in_ok-kind.field-0 _ c.in_err-right.field-0.0
    (p.1 ∙ ap (λ f. Err f) p.2) c.in_ok-kind.was c.in_err-right.was c.get.ensures c.bind_to.ensures h
