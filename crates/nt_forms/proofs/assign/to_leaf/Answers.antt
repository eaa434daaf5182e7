use Rattle.std.proofs.Common.{sym, ap, ◌∙◌}
use Rattle.nt_drafts.specs.Drafts.{draft_leaf}
use Rattle.nt_drafts.specs.declared.drafts.Draft.TheViews.{out-Draft}
use Rattle.nt_forms.proofs.Assigning.{sends_at, no_value_drawn, leaf_goes}
use Rattle.nt_forms.proofs.assign.to_leaf.Goals as goal

pub returns-in-None : goal.returns-in-None
returns-in-None c = λ s x k w p e h. sends_at s x k c.args.at c.refused.result c.refused.ensures e (no_value_drawn k c.args.to c.args.draft w h (ap (λ d. draft_leaf (out-Draft d)) (sym c.get.ensures) ∙ sym c.in-None.ensures))

pub returns-in_ok-fitted-in-Some : goal.returns-in_ok-fitted-in-Some
returns-in_ok-fitted-in-Some c = λ s x k w p e h.
    leaf_goes k c.args.to c.in-Some.size _ c.args.draft _ _ w h (ap (λ d. draft_leaf (out-Draft d)) (sym c.get.ensures) ∙ sym c.in-Some.ensures) c.wider_of-context.ensures c.in_ok-tree-in-Some.ensures c.in_ok-fitted-in-Some.ensures
