use Rattle.nt_value.proofs.Congruence.{multiplication}
use Rattle.nt_value.proofs.laws.multiplication_is_modular.Goals as goal

pub returns : goal.returns
returns c = multiplication
