use Rattle.std.proofs.Common.{◌≡◌, suc, map, drop, []}
use Rattle.nt_types.specs.Units.{packages_from}
use Rattle.nt_types.proofs.units.packages.Given as goal

abbrev pub invariant-loop-k : goal.invariant-loop-k
invariant-loop-k l = packages_from [] 1 (map (λ x. x.now) l.unit) ≡ packages_from l.all.names (suc l.k) (map (λ x. x.now) (drop l.k l.unit))
