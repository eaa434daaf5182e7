use Rattle.nt_own_names.proofs.Naming.{SoFar}
use Rattle.nt_own_names.proofs.named.twice.Given as goal

abbrev pub invariant-loop-name : goal.invariant-loop-name
invariant-loop-name l = SoFar l.names l.name-index l.scope.names l.least
