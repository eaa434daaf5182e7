use Rattle.nt_design.proofs.Results.{meaning_has}
use Rattle.nt_design.proofs.laws.meanings_fit.Goals as goal

pub returns : goal.returns
returns c d env tree shape value design fits is gives = meaning_has d design env tree fits shape is value gives
