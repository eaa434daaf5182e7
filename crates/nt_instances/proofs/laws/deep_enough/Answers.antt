use Rattle.nt_instances.proofs.Depth.{deep}
use Rattle.nt_instances.proofs.laws.deep_enough.Goals as goal

pub returns : goal.returns
returns c = λ ms top more lt. deep ms top more lt
