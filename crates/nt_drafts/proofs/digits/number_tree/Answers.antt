use Rattle.std.proofs.Common.{ap, ◌∙◌}
use Rattle.nt_value.specs.Values.{binary}
use Rattle.nt_value.specs.declared.leaf.Leaf.{Leaf}
use Rattle.nt_typing.specs.Tables.{constant_tree}
use Rattle.nt_drafts.proofs.Closed.{same_answer}
use Rattle.nt_drafts.proofs.digits.number_tree.Goals as goal

pub returns : goal.returns
returns c =
    same_answer c.constant_tree.result _ _ (ap constant_tree (c.number.ensures.value ∙ ap (λ (l : Leaf). record { leaf = l; digits = binary l.width c.args.number }) (c.leaf.ensures.value ∙ c.wide.ensures))) c.constant_tree.ensures
