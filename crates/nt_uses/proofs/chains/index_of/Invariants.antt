use Rattle.std.proofs.Common.{◌≡◌, map, drop}
use Rattle.nt_uses.specs.Functions.{index_from}
use Rattle.nt_uses.proofs.chains.index_of.Given as goal

abbrev pub invariant-loop-k : goal.invariant-loop-k
invariant-loop-k l = index_from (map (λ f. f.now) l.functions) l.at 0 ≡ index_from (map (λ f. f.now) (drop l.k l.functions)) l.at l.k
