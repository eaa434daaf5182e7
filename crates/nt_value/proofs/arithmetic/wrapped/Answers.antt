use Rattle.nt_value.proofs.Modular.{wrapped_value}
use Rattle.nt_value.proofs.arithmetic.wrapped.Goals as goal

pub returns : goal.returns
returns c = wrapped_value c.args.leaf c.args.word _ c.low_ones.ensures
