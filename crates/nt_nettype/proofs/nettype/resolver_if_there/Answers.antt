use Rattle.nt_nettype.specs.Nettypes.{unresolved, resolved}
use Rattle.nt_nettype.proofs.nettype.resolver_if_there.Goals as goal

pub returns-in-None : goal.returns-in-None
returns-in-None c = rw c.in-None.is unresolved

pub returns-in_ok-number-in-Some : goal.returns-in_ok-number-in-Some
returns-in_ok-number-in-Some c = rw c.in-Some.is (resolved _ _ c.in_ok-number-in-Some.ensures)
