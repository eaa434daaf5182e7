use Rattle.nt_semantics.proofs.RegionFitting.{slot_round_fits}
use Rattle.nt_semantics.proofs.laws.slot_keeps_fits.Goals as goal

pub returns : goal.returns
returns c = slot_round_fits
