use Rattle.nt_semantics.proofs.RoundFitting.{round_fits}
use Rattle.nt_semantics.proofs.laws.round_keeps_fits.Goals as goal

pub returns : goal.returns
returns c = round_fits
