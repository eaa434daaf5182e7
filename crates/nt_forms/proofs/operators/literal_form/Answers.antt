use Rattle.std.proofs.Common.{◌∙◌}
use Rattle.nt_forms.proofs.Finishing.{if_ok}
use Rattle.std.proofs.Common.{subst}
use Rattle.nt_value.specs.Digits.{IsLeaf}
use Rattle.nt_forms.proofs.Operating.{literal_drawn}
use Rattle.nt_forms.proofs.operators.literal_form.Goals as goal

pub returns : goal.returns
returns c = if_ok c.new.result (λ d h. literal_drawn d c.args.value c.new-size.result (c.new-size.ensures ∙ c.leaf.ensures.value) (subst IsLeaf c.leaf.ensures.value c.leaf.ensures.valid) h) c.new.ensures
