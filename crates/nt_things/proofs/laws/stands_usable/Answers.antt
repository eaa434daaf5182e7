use Rattle.nt_things.proofs.Using.{stands_usable}
use Rattle.nt_things.proofs.laws.stands_usable.Goals as goal

pub returns : goal.returns
returns c = stands_usable
