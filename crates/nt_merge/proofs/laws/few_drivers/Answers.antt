use Rattle.nt_merge.proofs.Few.{few}
use Rattle.nt_merge.proofs.laws.few_drivers.Goals as goal

pub returns : goal.returns
returns c = few
