use Rattle.std.proofs.Common.{sym, ap, ◌∙◌}
use Rattle.nt_forms.proofs.Finishing.{if_ok}
use Rattle.nt_typing.specs.Kinds.{leaf_of}
use Rattle.nt_forms.proofs.Operating.{closed_drawn, whole_drawn}
use Rattle.nt_forms.proofs.finish.value_draft.Goals as goal

pub returns-in-Some : goal.returns-in-Some
returns-in-Some c = if_ok c.new.result (λ d h. closed_drawn d c.in-Some.size c.args.kind c.args.tree (ap leaf_of (sym c.get.ensures) ∙ sym c.leaf_of.ensures ∙ c.in-Some.is) h) c.new.ensures

pub returns-in-None : goal.returns-in-None
returns-in-None c = if_ok c.new-in-None.result (λ d h. whole_drawn d c.args.kind c.args.tree (ap leaf_of (sym c.get.ensures) ∙ sym c.leaf_of.ensures ∙ c.in-None.is) h) c.new-in-None.ensures
