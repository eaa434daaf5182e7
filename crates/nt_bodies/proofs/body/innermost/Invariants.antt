use Rattle.std.proofs.Common.{◌≡◌, drop}
use Rattle.nt_bodies.specs.Bodies.{innermost, innermost_from}
use Rattle.nt_bodies.proofs.body.innermost.Given as goal

abbrev pub invariant-loop-k : goal.invariant-loop-k
invariant-loop-k l = innermost l.loops l.name ≡ innermost_from (drop l.k l.loops) l.name l.k l.found
