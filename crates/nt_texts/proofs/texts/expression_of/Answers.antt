use Rattle.std.proofs.Common.{◌≡◌, Err, ap, sym, ◌∙◌, refl, arith, subst, inr}
use Rattle.std.proofs.lemmas.Result.{err_from_is_err_and}
use Rattle.nt_texts.specs.Texts.{ExpressionOf}
use Rattle.nt_texts.proofs.Whole.{some_token, refused_expression, more_than_expression}
use Rattle.nt_texts.proofs.texts.expression_of.Goals as goal

pub expression-requires : goal.expression-requires
expression-requires c = some_token c.in_ok-list.ensures.cut

pub returns-in_err-x : goal.returns-in_err-x
returns-in_err-x c =
    let p = err_from_is_err_and c.from_residual-in_err-x.result c.from_residual-in_err-x.ensures.1 in
    subst (λ r. ExpressionOf c.args.text.now r) (sym (p.1 ∙ ap (λ f. Err f) p.2))
    (refused_expression c.args.text.now _ _ c.tokens.new.head c.in_err-x.field-0.0 c.in_ok-list.ensures.cut refl c.in_err-x.ensures.reads)

pub returns-then-len-cursor-ne1 : goal.returns-then-len-cursor-ne1
returns-then-len-cursor-ne1 c =
    inr (more_than_expression c.args.text.now _ _ c.tokens.new.head c.in_ok-x.x c.in_ok-list.ensures.cut refl c.in_ok-x.ensures.reads (λ e. absurd (omega (arith, e, c.if-len-cursor-ne1.true))))
