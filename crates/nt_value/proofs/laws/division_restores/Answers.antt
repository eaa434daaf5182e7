use Rattle.nt_value.proofs.Congruence.{division}
use Rattle.nt_value.proofs.laws.division_restores.Goals as goal

pub returns : goal.returns
returns c = division
