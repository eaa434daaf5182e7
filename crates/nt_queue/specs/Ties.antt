-- What the procedures that were put away tell of a state (IEEE 1800-2017, 4.5).
use Rattle.std.specs.Prelude.{◌≡◌, ◌<◌, ℕ, true, false, [], length, Some}
use Rattle.nt_semantics.specs.Execution.{has_inactive, next_moment}
use Rattle.nt_semantics.specs.ReadyLists.{Tied}
use Rattle.nt_semantics.specs.Rounds.{Away, procs_at}
use Rattle.nt_semantics.specs.State.{MachineState}

-- the moves that the lists tell are those of the state
pub record TellMoves (s : MachineState) (away : Away) : Type 0 where
  pub none_inactive : away.inactive ≡ [] → has_inactive s ≡ false
  pub some_inactive : 0 < length away.inactive → has_inactive s ≡ true
  pub next : (m : ℕ) → 0 < length (procs_at m away.later) → ((k : ℕ) → k < m → procs_at k away.later ≡ []) → next_moment s.standings ≡ Some m

abbrev pub TiesTellMoves : Type 0
TiesTellMoves = (s : MachineState) (away : Away) → Tied s away → TellMoves s away
