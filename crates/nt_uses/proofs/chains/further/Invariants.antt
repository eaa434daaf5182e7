use Rattle.std.proofs.Common.{◌≡◌, map, take}
use Rattle.nt_uses.specs.Functions.{is_flagged}
use Rattle.nt_uses.proofs.chains.further.Given as goal

abbrev pub invariant-loop-node : goal.invariant-loop-node
invariant-loop-node l = l.all ≡ map (is_flagged l.flags) (take l.node-index l.nodes)
