use Rattle.nt_semantics.proofs.StartFitting.{start_fits}
use Rattle.nt_semantics.proofs.laws.start_fits.Goals as goal

pub returns : goal.returns
returns c = start_fits
