use Rattle.nt_forms.proofs.Finishing.{if_ok}
use Rattle.nt_forms.proofs.Operating.{unary_drawn}
use Rattle.nt_forms.proofs.operators.unary_form.Goals as goal

pub returns : goal.returns
returns c = if_ok c.new.result (λ d h. unary_drawn d c.args.op c.args.one c.unary_size-size.result c.unary_size-size.ensures h) c.new.ensures
