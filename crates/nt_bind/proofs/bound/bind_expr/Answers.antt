use Rattle.std.proofs.Common.{Some, None, Err, ap, ◌∙◌}
use Rattle.std.proofs.lemmas.Result.{err_from_is_err_and}
use Rattle.nt_ast.specs.declared.expr.Expr.TheViews.{out-Expr}
use Rattle.nt_bind.proofs.Finding.{alone_err, sent_binds, at_target}
use Rattle.nt_bind.proofs.bound.bind_expr.Goals as goal

pub returns-in_err-draft-in-None : goal.returns-in_err-draft-in-None
returns-in_err-draft-in-None c =
    let p = err_from_is_err_and c.from_residual.result c.from_residual.ensures.1 in
    at_target (λ k. k.now) c.args.scope.now (out-Expr c.args.expr.now) c.args.to None c.from_residual.result c.in-None.is
    (alone_err c.args.scope.now (out-Expr c.args.expr.now) c.from_residual.result c.in_err-draft-in-None.field-0.0 (p.1 ∙ ap (λ f. Err f) p.2) c.in_err-draft-in-None.ensures)

pub returns-in-Some : goal.returns-in-Some
returns-in-Some c =
    at_target (λ k. k.now) c.args.scope.now (out-Expr c.args.expr.now) c.args.to (Some c.in-Some.kind) c.sent_to.result c.in-Some.is
    (sent_binds c.args.scope.now (out-Expr c.args.expr.now) c.in-Some.kind.now c.sent_to.result c.sent_to.ensures)
