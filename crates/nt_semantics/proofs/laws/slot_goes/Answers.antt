use Rattle.nt_semantics.proofs.RegionGoing.{slot_goes}
use Rattle.nt_semantics.proofs.laws.slot_goes.Goals as goal

pub returns : goal.returns
returns c = slot_goes
