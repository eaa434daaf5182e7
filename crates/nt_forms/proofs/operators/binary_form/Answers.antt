use Rattle.nt_forms.proofs.Finishing.{if_ok}
use Rattle.nt_forms.proofs.Operating.{binary_drawn}
use Rattle.nt_forms.proofs.operators.binary_form.Goals as goal

pub returns : goal.returns
returns c = if_ok c.new.result (λ d h. binary_drawn d c.args.op c.args.one c.args.other c.binary_size-size.result c.binary_size-size.ensures h) c.new.ensures
