use Rattle.nt_value.proofs.Congruence.{subtraction}
use Rattle.nt_value.proofs.laws.subtraction_is_modular.Goals as goal

pub returns : goal.returns
returns c = subtraction
