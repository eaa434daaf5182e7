use Rattle.std.proofs.Common.{Err, ap, sym, ◌∙◌, subst}
use Rattle.std.proofs.lemmas.Result.{err_from_is_err_and}
use Rattle.nt_const.specs.Tables.{names_in}
use Rattle.nt_texts.specs.Constants.{ConstantOf}
use Rattle.nt_texts.proofs.Values.{constant_told, no_constant}
use Rattle.nt_texts.proofs.constants.constant_of.Goals as goal

pub returns-in_err-x : goal.returns-in_err-x
returns-in_err-x c =
    let p = err_from_is_err_and c.from_residual.result c.from_residual.ensures.1 in
    subst (λ r. ConstantOf c.args.text.now (names_in c.args.known.now) c.args.to r) (sym (p.1 ∙ ap (λ f. Err f) p.2))
    (no_constant c.args.text.now (names_in c.args.known.now) c.args.to c.in_err-x.field-0.0 c.in_err-x.ensures)

pub returns : goal.returns
returns c = constant_told c.args.text.now (names_in c.args.known.now) c.args.to _ c.constant.result c.in_ok-x.ensures c.constant.ensures.answer
