use Rattle.std.proofs.Common.{Err, ap, ◌∙◌, subst}
use Rattle.std.proofs.lemmas.Result.{err_from_is_err_and}
use Rattle.nt_forms.specs.Walks.{Drafts}
use Rattle.nt_bind.proofs.Rising.{sends_err}
use Rattle.nt_bind.proofs.gather.plain_sent.Goals as goal

pub returns-in_err-draft : goal.returns-in_err-draft
returns-in_err-draft c = λ s x n e h.
    let p = err_from_is_err_and c.from_residual.result c.from_residual.ensures.1 in
    sends_err s x c.args.kind.now c.from_residual.result c.in_err-draft.field-0.0 n (p.1 ∙ ap (λ f. Err f) p.2) (subst (λ r. Drafts s x r) c.in_err-draft.was h)
