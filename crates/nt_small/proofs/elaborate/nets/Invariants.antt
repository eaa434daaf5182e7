use Rattle.std.proofs.Common.{◌≡◌, List, ℕ, map, take}
use Rattle.nt_small.specs.Elaboration.{net_of_name}
use Rattle.nt_small.specs.Tables.{drivers_of}
use Rattle.nt_small.proofs.elaborate.nets.Given as goal

abbrev pub invariant-loop-at : goal.invariant-loop-at
invariant-loop-at l = (driven : List (List ℕ)) → l.table.drivers ≡ drivers_of driven l.table.names → l.nets ≡ map (net_of_name l.top driven) (take l.at l.table.names)
