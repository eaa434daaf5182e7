use Rattle.nt_semantics.proofs.RegionGoing.{region_goes}
use Rattle.nt_semantics.proofs.laws.region_goes.Goals as goal

pub returns : goal.returns
returns c = region_goes
