use Rattle.std.proofs.Common.{ap, sym, ◌∙◌}
use Rattle.nt_value.specs.declared.operator.Binary.TheVariants.{Sub}
use Rattle.nt_design.specs.declared.tree.Tree.TheVariants as t
use Rattle.nt_typing.specs.Tables.{number_tree, widened}
use Rattle.nt_drafts.proofs.Closed.{same_answer}
use Rattle.nt_drafts.proofs.Low.{chosen, minus_guarded, minus_plain}
use Rattle.nt_drafts.proofs.digits.minus.Goals as goal

pub returns-in_ok-low : goal.returns-in_ok-low
returns-in_ok-low c =
    same_answer c.guard.result _ _ (ap (chosen c.args.size c.args.index) (c.in_ok-low.ensures ∙ ap (λ i. t.Binary Sub (widened c.args.size i) (number_tree c.args.size.four c.args.down)) c.in_ok-copy.ensures) ∙ minus_guarded c.args.wraps c.args.size c.args.index c.args.down c.if-down-eq0.false (sym c.is_guarded.ensures ∙ c.if-is_guarded.true)) c.guard.ensures

pub returns-else-is_guarded : goal.returns-else-is_guarded
returns-else-is_guarded c =
    same_answer c.below-else-is_guarded.result _ _ (minus_plain c.args.wraps c.args.size c.args.index c.args.down c.if-down-eq0.false (sym c.is_guarded.ensures ∙ c.if-is_guarded.false)) c.below-else-is_guarded.ensures
