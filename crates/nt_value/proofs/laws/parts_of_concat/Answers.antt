use Rattle.nt_value.proofs.Returns.{concat_holds}
use Rattle.nt_value.proofs.laws.parts_of_concat.Goals as goal

pub returns : goal.returns
returns c = concat_holds
