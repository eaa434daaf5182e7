use Rattle.nt_type_trees.proofs.One.{one_type_holds}
use Rattle.nt_type_trees.proofs.laws.one_type.Goals as goal

pub returns : goal.returns
returns c = one_type_holds
