use Rattle.nt_scopes.proofs.Looking.{one_meaning_holds}
use Rattle.nt_scopes.proofs.laws.one_meaning.Goals as goal

pub returns : goal.returns
returns c = one_meaning_holds
