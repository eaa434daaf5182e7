use Rattle.std.proofs.Common.{◌≡◌, ◌++◌, drop, map, take}
use Rattle.nt_semantics.specs.Execution.{standing_in_slot}
use Rattle.nt_state.proofs.moves.begin_all.Given as goal

abbrev pub invariant-loop-at : goal.invariant-loop-at
invariant-loop-at l = l.standings ≡ map (standing_in_slot l.moment) (take l.at l.initial.standings) ++ drop l.at l.initial.standings
