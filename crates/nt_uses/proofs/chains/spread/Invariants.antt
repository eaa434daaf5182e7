use Rattle.std.proofs.Common.{◌≡◌}
use Rattle.nt_uses.specs.Functions.{rounds}
use Rattle.nt_uses.proofs.chains.spread.Given as goal

abbrev pub invariant-loop-k : goal.invariant-loop-k
invariant-loop-k l = l.flags ≡ rounds l._k l.nodes l.fn.first
