-- The steps of a path, as the code holds them.
use Rattle.std.specs.Prelude.{◌≤◌, ◌<◌, ⊤, All, List, map, IfSome}
use Rattle.nt_value.specs.Values.{IsValueOf}
use Rattle.nt_value.specs.declared.leaf.Leaf.{Leaf}
use Rattle.nt_design.specs.Fitting.{Leads}
use Rattle.nt_design.specs.Parts.{Value, IntoItem, IntoLeaves, IntoPart, Step as Into}
use Rattle.nt_parts.specs.Indices.{number_at}
use Rattle.nt_parts.specs.declared.step.Step.{Step}
use Rattle.nt_parts.specs.declared.step.Step.TheVariants.{Leaves, Item, Part}

-- a step into a part of a value
abbrev pub step_at : Step → Into
step_at (Leaves first count) = IntoLeaves first count
step_at (Item position size) = IntoItem position size
step_at (Part low width) = IntoPart (number_at low) width

abbrev pub steps_at : List Step → List Into
steps_at steps = map step_at steps

-- a step that may be taken: an array has elements, a position is inside it, and a part has 1 to 64 digits
abbrev pub IsStep : Step → Type 0
IsStep (Leaves first count) = ⊤
IsStep (Item position size) = (1 ≤ size) × IfSome position (λ p. p < size)
IsStep (Part low width) = (1 ≤ width) × (width ≤ 64)

-- a value may be written at the end of a path: the path leads from the old value's shape to the new one's
pub record IsWrite (steps : List Step) (new old : Value) : Type 0 where
  pub whole : List Leaf
  pub part : List Leaf
  pub leads : Leads (steps_at steps) whole part
  pub before : IsValueOf whole old
  pub after : IsValueOf part new
  pub may : All IsStep steps
