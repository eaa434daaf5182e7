use Rattle.nt_value.proofs.Returns.{xnor_holds}
use Rattle.nt_value.proofs.laws.xnor_is_not_xor.Goals as goal

pub returns : goal.returns
returns c = xnor_holds
