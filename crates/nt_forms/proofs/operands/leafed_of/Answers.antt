use Rattle.std.proofs.Common.{sym, ap, ◌∙◌}
use Rattle.nt_diag.specs.declared.rule.Rule.TheVariants as rule
use Rattle.nt_typing.specs.Faults.{leaf}
use Rattle.nt_drafts.specs.Drafts.{draft_leaf}
use Rattle.nt_drafts.specs.declared.drafts.Draft.TheViews.{out-Draft}
use Rattle.nt_forms.proofs.Asking.{lacks_at, missing}
use Rattle.nt_forms.proofs.operands.leafed_of.Goals as goal

pub returns-in-None : goal.returns-in-None
returns-in-None c = λ s x e h. lacks_at leaf s x rule.T8 c.args.at c.refused.result c.refused.ensures e (missing c.args.draft h (ap (λ d. draft_leaf (out-Draft d)) (sym c.get.ensures) ∙ sym c.in-None.ensures))
