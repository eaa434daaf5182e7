use Rattle.nt_design.proofs.Shaped.{shaped}
use Rattle.nt_design.proofs.laws.values_fit.Goals as goal

pub returns : goal.returns
returns c scope calls world tree shape locals left fits is ok = shaped scope calls world fits tree shape is locals ok left
