use Rattle.std.proofs.Common.{Err, ap, sym, ◌∙◌, subst}
use Rattle.std.proofs.lemmas.Result.{err_from_is_err_and}
use Rattle.nt_ast.specs.declared.expr.Expr.TheOpen.{Expr-F}
use Rattle.nt_forms.specs.Walks.{SomeSent}
use Rattle.nt_typing.specs.Typing.{Goes, pattern}
use Rattle.nt_bind.proofs.Rising.{pattern_err}
use Rattle.nt_bind.proofs.gather.pattern_arm.Goals as goal

pub returns-in_err-parts : goal.returns-in_err-parts
returns-in_err-parts c = λ s k at items plan e h.
    let p = err_from_is_err_and c.from_residual.result c.from_residual.ensures.1 in
    pattern_err s k at items plan c.from_residual.result c.in_err-parts.field-0.0 e (p.1 ∙ ap (λ f. Err f) p.2) (subst (λ r. SomeSent s plan r) c.in_err-parts.was h)

pub returns : goal.returns
returns c = λ s k at items plan e h.
    subst (Goes s (Expr-F.Pattern at items) k) (sym c.in_ok-new.ensures) (pattern at items e (subst (λ r. SomeSent s plan r) c.in_ok-parts.was h))
