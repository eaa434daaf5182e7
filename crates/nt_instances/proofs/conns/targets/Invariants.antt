use Rattle.std.proofs.Common.{◌≡◌, ◌++◌, map, drop}
use Rattle.nt_instances.specs.Faults.{targets, targets_from}
use Rattle.nt_instances.proofs.conns.targets.Given as goal

abbrev pub invariant-loop-number : goal.invariant-loop-number
invariant-loop-number l = targets (map (λ n. n.now) l.names) l.conns ≡ l.all ++ targets_from (map (λ n. n.now) l.names) l.number (drop l.number l.conns)
