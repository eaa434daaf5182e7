use Rattle.std.proofs.Common.{◌≡◌, ◌++◌, drop, map, take}
use Rattle.nt_semantics.specs.Execution.{active_standing}
use Rattle.nt_state.proofs.moves.activate_all.Given as goal

abbrev pub invariant-loop-at : goal.invariant-loop-at
invariant-loop-at l = l.standings ≡ map active_standing (take l.at l.initial.standings) ++ drop l.at l.initial.standings
