use Rattle.nt_forms.proofs.Finishing.{if_ok}
use Rattle.nt_forms.proofs.Operating.{choose_drawn}
use Rattle.nt_forms.proofs.operators.choose_form.Goals as goal

pub returns : goal.returns
returns c = if_ok c.new.result (λ d h. choose_drawn d c.args.test.size c.args.test.tree c.args.one c.args.other c.choice_size-size.result c.choice_size-size.ensures h) c.new.ensures
