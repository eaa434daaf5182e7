use Rattle.nt_semantics.proofs.RoundFitting.{round_goes}
use Rattle.nt_semantics.proofs.laws.round_goes.Goals as goal

pub returns : goal.returns
returns c = round_goes
