use Rattle.std.proofs.Common.{Err, ap, subst, ◌∙◌}
use Rattle.std.proofs.lemmas.Result.{err_from_is_err_and}
use Rattle.nt_ast.specs.declared.expr.Expr.TheViews.{out-Expr}
use Rattle.nt_forms.specs.Walks.{Bases}
use Rattle.nt_things.proofs.Using.{stands_is}
use Rattle.nt_stmt_parts.proofs.Telling.{base_told}
use Rattle.nt_stmt_parts.proofs.lefts.left_side.Goals as goal

pub returns-in_err-thing-clause-left : goal.returns-in_err-thing-clause-left
returns-in_err-thing-clause-left c =
    let p = err_from_is_err_and c.from_residual.result c.from_residual.ensures.1 in
    base_told c.args.scope.now (out-Expr c.args.expr.now) c.from_residual.result c.in_err-thing.field-0.0 (p.1 ∙ ap (λ f. Err f) p.2)
    (subst (λ r. Bases c.args.scope.now (out-Expr c.args.expr.now) r) c.in_err-thing.was c.bind_base.ensures)

pub left_of-requires : goal.left_of-requires
left_of-requires c = record { usable = stands_is c.requires.scope (subst (λ r. Bases c.args.scope.now (out-Expr c.args.expr.now) r) c.in_ok-thing.was c.bind_base.ensures) }
