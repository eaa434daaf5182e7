use Rattle.std.proofs.Common.{◌≡◌, Err, ap, sym, ◌∙◌, refl, arith, subst, inr}
use Rattle.std.proofs.lemmas.Result.{err_from_is_err_and}
use Rattle.nt_texts.specs.Texts.{StatementOf}
use Rattle.nt_texts.proofs.Whole.{some_token, refused_statement, more_than_statement}
use Rattle.nt_texts.proofs.texts.statement_of.Goals as goal

pub statement-requires : goal.statement-requires
statement-requires c = some_token c.in_ok-list.ensures.cut

pub returns-in_err-x : goal.returns-in_err-x
returns-in_err-x c =
    let p = err_from_is_err_and c.from_residual-in_err-x.result c.from_residual-in_err-x.ensures.1 in
    subst (λ r. StatementOf c.args.text.now r) (sym (p.1 ∙ ap (λ f. Err f) p.2))
    (refused_statement c.args.text.now _ _ c.tokens.new.head c.in_err-x.field-0.0 c.in_ok-list.ensures.cut refl c.in_err-x.ensures.reads)

pub returns-then-len-cursor-ne1 : goal.returns-then-len-cursor-ne1
returns-then-len-cursor-ne1 c =
    inr (more_than_statement c.args.text.now _ _ c.tokens.new.head c.in_ok-x.x c.in_ok-list.ensures.cut refl c.in_ok-x.ensures.reads (λ e. absurd (omega (arith, e, c.if-len-cursor-ne1.true))))
