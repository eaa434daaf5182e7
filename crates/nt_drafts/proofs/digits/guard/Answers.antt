use Rattle.std.proofs.Common.{◌^◌, ap, ◌∙◌}
use Rattle.nt_value.specs.declared.leaf.Leaf.{Leaf}
use Rattle.nt_design.specs.declared.tree.Tree.TheVariants as t
use Rattle.nt_typing.specs.Tables.{number_tree}
use Rattle.nt_drafts.proofs.Closed.{same_answer, two}
use Rattle.nt_drafts.proofs.digits.guard.Goals as goal

pub returns : goal.returns
returns c =
    same_answer c.choose_tree.result _ _ (two (λ a b. t.Choose a b c.args.low) (c.in_ok-test.ensures ∙ ap (λ h. t.Part c.args.index h 1) (c.in_ok-highest.ensures ∙ ap (λ (l : Leaf). number_tree l.four 63) c.leaf-four.ensures.value)) (c.in_ok-outside.ensures ∙ ap (λ (l : Leaf). number_tree l.four (2 ^ 62)) c.leaf-four.ensures.value)) c.choose_tree.ensures
