use Rattle.nt_semantics.proofs.RoundFitting.{rounds_start}
use Rattle.nt_semantics.proofs.laws.rounds_start_fit.Goals as goal

pub returns : goal.returns
returns c = rounds_start
