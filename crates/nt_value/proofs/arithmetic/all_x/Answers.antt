use Rattle.std.proofs.Common.{◌∙◌}
use Rattle.nt_value.proofs.Modular.{all_x_value}
use Rattle.nt_value.proofs.arithmetic.all_x.Goals as goal

pub returns : goal.returns
returns c = c.default.ensures ∙ all_x_value c.args.leaf
