-- What a procedure waits with has the shapes that its places ask for.
use Rattle.std.specs.Prelude.{⊤, List, ◌∷◌, Option, false}
use Rattle.nt_design.specs.Expressions.{Calls, World}
use Rattle.nt_design.specs.Parts.{Value}
use Rattle.nt_design.specs.Reads.{event_trees}
use Rattle.nt_design.specs.Shapes.{Signature}
use Rattle.nt_design.specs.declared.act.Act.{Act, out-Act}
use Rattle.nt_design.specs.declared.act.Act.TheOpen.{Act-F}
use Rattle.nt_semantics.specs.declared.work.Work.{Work}
use Rattle.nt_semantics.specs.declared.work.Work.TheVariants.{Do}
use Rattle.nt_values.specs.Typed.{AllTyped}

-- the expressions of an event control
abbrev pub EventsTyped : List (Option Signature) → Calls → World → List Value → Act-F Act → Type 0
EventsTyped signatures calls world locals (Act-F.Event false on body at) = AllTyped signatures calls world locals (event_trees on)
EventsTyped signatures calls world locals _ = ⊤

-- those of the statement that is first
abbrev pub HeadTyped : List (Option Signature) → Calls → World → List Value → List Work → Type 0
HeadTyped signatures calls world locals (Do act ∷ rest) = EventsTyped signatures calls world locals (out-Act act)
HeadTyped signatures calls world locals _ = ⊤
