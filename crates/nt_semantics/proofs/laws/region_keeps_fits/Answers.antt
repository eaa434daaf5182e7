use Rattle.nt_semantics.proofs.RegionFitting.{region_round_fits}
use Rattle.nt_semantics.proofs.laws.region_keeps_fits.Goals as goal

pub returns : goal.returns
returns c = region_round_fits
