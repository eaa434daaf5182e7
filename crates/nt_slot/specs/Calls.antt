-- Calls of rounds, one after another.
use Rattle.std.specs.Prelude.{◌≡◌, ⊤, ℕ, Bool, List, [], ◌∷◌, Option, None, All}
use Rattle.std.specs.List.{flat_map}
use Rattle.nt_design.specs.declared.design.Design.{Design}
use Rattle.nt_semantics.specs.Rounds.{RoundState}
use Rattle.nt_semantics.specs.Texts.{entry_lines}
use Rattle.nt_semantics.specs.declared.event.Entry.{Entry}
use Rattle.nt_semantics.specs.declared.event.Event.{Event}

-- what no call changes: the design, and whether resolutions take slots in ascending order
pub record Setting : Type 0 where
  pub design : Design
  pub ascending : Bool

-- one call: its entries, the event that was too long, and the meaning after it
pub record Call : Type 0 where
  pub entries : List Entry
  pub too_long : Option Event
  pub after : RoundState

-- each call is made from the meaning that the one before it left
abbrev pub AreMade : (RoundState → List Entry → Option Event → RoundState → Type 0) → RoundState → List Call → Type 0
AreMade made g [] = ⊤
AreMade made g (c ∷ calls) = made g c.entries c.too_long c.after × AreMade made c.after calls

-- the meaning after calls
abbrev pub after_calls : RoundState → List Call → RoundState
after_calls g [] = g
after_calls g (c ∷ calls) = after_calls c.after calls

abbrev pub entries_of : List Call → List Entry
entries_of calls = flat_map (λ (c : Call). c.entries) calls

-- no call met an event that is too long
abbrev pub AreQuiet : List Call → Type 0
AreQuiet calls = All (λ (c : Call). c.too_long ≡ None) calls

abbrev pub lines_of : List Call → List ℕ
lines_of calls = entry_lines (entries_of calls)
