-- What each call of rounds leaves.
use Rattle.std.specs.Prelude.{◌≡◌, ◌⊎◌, ℕ, ◌<◌, ◌≤◌, true, false, List, [], length, Option, Some, None, IsSome}
use Rattle.nt_semantics.specs.Execution.{is_active, is_over, move}
use Rattle.nt_semantics.specs.Rounds.{RoundState}
use Rattle.nt_semantics.specs.declared.event.Entry.{Entry}
use Rattle.nt_semantics.specs.declared.event.Event.{Event}
use Rattle.nt_semantics.specs.Slots.{Few, Went}
use Rattle.nt_slot.specs.Calls.{Setting}
use Rattle.nt_slot.specs.declared.rounds.RoundEnd.{RoundEnd}

-- a call has an entry or an event that is too long, or fills an empty Active
abbrev pub MakesProgress : RoundState → RoundEnd → RoundState → Type 0
MakesProgress g e h = (0 < length e.entries) ⊎ (IsSome e.too_long ⊎ ((is_active g.state ≡ false) × (is_active h.state ≡ true)))

pub record RoundLeaves (made : RoundState → List Entry → Option Event → RoundState → Type 0) (s : Setting) (g h : RoundState) (e : RoundEnd) : Type 0 where
  pub is_made : made g e.entries e.too_long h
  pub went : Went s.design g.state e.entries e.too_long h.state
  pub begun : h.begun ≡ true
  pub progress : is_active g.state ≡ true → g.begun ≡ true → MakesProgress g e h

pub record RegionMade (made : RoundState → List Entry → Option Event → RoundState → Type 0) (s : Setting) (g h : RoundState) (e : RoundEnd) : Type 0 where
  pub left : is_over g.state ≡ false
  pub is_made : made g e.entries e.too_long h
  pub went : Went s.design g.state e.entries e.too_long h.state
  pub begun : h.begun ≡ g.begun
  pub progress : MakesProgress g e h

abbrev pub RegionLeaves : (RoundState → List Entry → Option Event → RoundState → Type 0) → Setting → RoundState → RoundState → Option RoundEnd → Type 0
RegionLeaves made s g h None = (is_over g.state ≡ true) × (h ≡ g)
RegionLeaves made s g h (Some e) = RegionMade made s g h e

pub record SlotBegins (made : RoundState → List Entry → Option Event → RoundState → Type 0) (until : ℕ) (g h : RoundState) (moment : ℕ) : Type 0 where
  pub is_made : made g [] None h
  pub moves : move until g.state ≡ Some h.state
  pub moment_is : h.state.moment ≡ moment
  pub later : g.state.moment < h.state.moment
  pub within : h.state.moment ≤ until
  pub few : Few 1 h.state
  pub begun : h.begun ≡ g.begun

abbrev pub TimeLeaves : (RoundState → List Entry → Option Event → RoundState → Type 0) → ℕ → RoundState → RoundState → Option ℕ → Type 0
TimeLeaves made until g h None = (move until g.state ≡ None) × (h ≡ g)
TimeLeaves made until g h (Some moment) = SlotBegins made until g h moment

-- a round or a region of a slot that has begun
pub record WentOn (made : RoundState → List Entry → Option Event → RoundState → Type 0) (s : Setting) (g h : RoundState) (e : RoundEnd) : Type 0 where
  pub is_made : made g e.entries e.too_long h
  pub went : Went s.design g.state e.entries e.too_long h.state
  pub begun : h.begun ≡ true
  pub progress : MakesProgress g e h

abbrev pub GoesOn : (RoundState → List Entry → Option Event → RoundState → Type 0) → Setting → RoundState → RoundState → Option RoundEnd → Type 0
GoesOn made s g h None = (is_over g.state ≡ true) × (h ≡ g)
GoesOn made s g h (Some e) = WentOn made s g h e
