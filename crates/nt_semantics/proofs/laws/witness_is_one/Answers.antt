use Rattle.nt_semantics.proofs.Witnesses.{one_list}
use Rattle.nt_semantics.proofs.laws.witness_is_one.Goals as goal

pub returns : goal.returns
returns c = one_list
