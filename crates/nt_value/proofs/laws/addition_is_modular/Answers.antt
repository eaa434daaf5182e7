use Rattle.nt_value.proofs.Congruence.{addition}
use Rattle.nt_value.proofs.laws.addition_is_modular.Goals as goal

pub returns : goal.returns
returns c = addition
