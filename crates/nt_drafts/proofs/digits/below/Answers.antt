use Rattle.std.proofs.Common.{ap, ◌∙◌}
use Rattle.nt_value.specs.declared.leaf.Leaf.{Leaf}
use Rattle.nt_value.specs.declared.operator.Binary.TheVariants.{Sub}
use Rattle.nt_design.specs.declared.tree.Tree.TheVariants as t
use Rattle.nt_typing.specs.Tables.{number_tree}
use Rattle.nt_drafts.proofs.Closed.{same_answer, two}
use Rattle.nt_drafts.proofs.digits.below.Goals as goal

pub returns : goal.returns
returns c =
    same_answer c.binary_tree.result _ _ (two (t.Binary Sub) c.in_ok-wide.ensures (c.in_ok-number.ensures ∙ ap (λ (l : Leaf). number_tree l.four c.args.down) c.leaf.ensures.value)) c.binary_tree.ensures
