-- Which arm of a `case` is taken (IEEE 1800-2017, 12.5).
use Rattle.std.specs.Prelude.{◌≡◌, ℕ, suc, if◌then◌else◌, List, [], ◌∷◌, map, Option, Some, None, slice_get}
use Rattle.nt_value.specs.Values.{shape_of}
use Rattle.nt_design.specs.Expressions.{Calls, World, value_of}
use Rattle.nt_design.specs.Parts.{Value}
use Rattle.nt_design.specs.Shapes.{Scope, Signature, tree_shape}
use Rattle.nt_design.specs.Statements.{is_among}
use Rattle.nt_design.specs.Turns.{Timing, and_then}
use Rattle.nt_design.specs.declared.act.Act.{Act}
use Rattle.nt_design.specs.declared.tree.Tree.{Tree}
use Rattle.nt_values.specs.Typed.{Stands}

-- the number of the first arm with an item that is the same as the test, the first one counted as this number
unfoldable pub arm_at : Calls → World → Value → List (List Tree × Act) → ℕ → Timing (Option ℕ)
arm_at calls world test [] at locals left = Some (None, left)
arm_at calls world test (arm ∷ arms) at locals left =
    and_then (is_among test (map (value_of calls world) arm.0) locals left) (λ is l.
    if is then Some (Some at, l) else arm_at calls world test arms (suc at) locals l)

-- items with the shape of the test's value
pub record AllAlike (signatures : List (Option Signature)) (calls : Calls) (world : World) (locals : List Value) (test : Value) (items : List Tree) : Type 0 where
  pub scope : Scope
  pub stands : Stands signatures calls world locals scope
  pub same : (i : ℕ) (item : Tree) → slice_get items i ≡ Some item → tree_shape scope item ≡ Some (shape_of test)

-- arms with such items
pub record ArmsAlike (signatures : List (Option Signature)) (calls : Calls) (world : World) (locals : List Value) (test : Value) (arms : List (List Tree × Act)) : Type 0 where
  pub scope : Scope
  pub stands : Stands signatures calls world locals scope
  pub same : (i : ℕ) (arm : List Tree × Act) → slice_get arms i ≡ Some arm → (j : ℕ) (item : Tree) → slice_get arm.0 j ≡ Some item → tree_shape scope item ≡ Some (shape_of test)
