use Rattle.std.proofs.Common.{◌≡◌, drop}
use Rattle.nt_semantics.specs.Execution.{next_moment}
use Rattle.nt_state.proofs.moves.next_moment.Given as goal

abbrev pub invariant-loop-at : goal.invariant-loop-at
invariant-loop-at l = l.next ≡ next_moment (drop l.at l.standings)
