use Rattle.std.proofs.Common.{◌≡◌, drop, []}
use Rattle.nt_bodies.specs.Bodies.{own_from}
use Rattle.nt_bodies.proofs.body.scope_of.Given as goal

abbrev pub invariant-loop-k : goal.invariant-loop-k
invariant-loop-k l = own_from [] 0 l.names ≡ own_from l.scope.names l.k (drop l.k l.names)
