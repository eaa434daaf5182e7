use Rattle.nt_merge.proofs.Few.{one}
use Rattle.nt_merge.proofs.laws.one_fault.Goals as goal

pub returns : goal.returns
returns c = one
