use Rattle.nt_semantics.proofs.RegionGoing.{rounds_start_tied}
use Rattle.nt_semantics.proofs.laws.rounds_start_tied.Goals as goal

pub returns : goal.returns
returns c = rounds_start_tied
