use Rattle.std.proofs.Common.{◌≡◌, map, take}
use Rattle.nt_uses.proofs.chains.foreign.Given as goal

abbrev pub invariant-loop-node : goal.invariant-loop-node
invariant-loop-node l = l.all ≡ map (λ n. n.foreign) (take l.node-index l.nodes)
