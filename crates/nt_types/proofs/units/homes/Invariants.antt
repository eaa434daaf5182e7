use Rattle.std.proofs.Common.{◌≡◌, ◌++◌, suc, map, drop}
use Rattle.nt_types.specs.Units.{homes_from}
use Rattle.nt_types.proofs.units.homes.Given as goal

abbrev pub invariant-loop-k : goal.invariant-loop-k
invariant-loop-k l = homes_from 1 (map (λ x. x.now) l.unit) ≡ l.all ++ homes_from (suc l.k) (map (λ x. x.now) (drop l.k l.unit))
