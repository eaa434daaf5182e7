-- What an evaluation rests on: names stand for what there is, and each part of an expression has the shape that its place
-- asks for.
use Rattle.std.specs.Prelude.{◌≡◌, ◌≤◌, ℕ, List, Option, Some, None, get_or, length, slice_get}
use Rattle.nt_value.specs.Values.{AreValuesOf}
use Rattle.nt_value.specs.declared.leaf.Leaf.{Leaf}
use Rattle.nt_design.specs.Expressions.{Calls, World}
use Rattle.nt_design.specs.Fitting.{HasShapes}
use Rattle.nt_design.specs.Parts.{Value}
use Rattle.nt_design.specs.Shapes.{Scope, Signature, pick_shape, tree_shape}
use Rattle.nt_design.specs.declared.target.Pick.{Pick}
use Rattle.nt_design.specs.declared.tree.Tree.{Tree}
use Rattle.nt_values.specs.declared.world.World.{World as HeldWorld}

-- a world, as the code holds it
abbrev pub world_in : HeldWorld → World
world_in w =
    record { time = w.time; nets = w.nets.now; vars = w.vars.now; many = w.many.now; element = w.element.now }

-- a function may be called with these values
abbrev pub IsCall : List (Option Signature) → ℕ → List Value → Type 0
IsCall signatures f args =
    (signature : Signature) × (get_or signatures f None ≡ Some signature) × AreValuesOf signature.args args

-- a scope's names stand for what there is
pub record Stands (signatures : List (Option Signature)) (calls : Calls) (world : World) (locals : List Value) (scope : Scope) : Type 0 where
  pub shapes : HasShapes scope calls world
  pub kept : AreValuesOf scope.locals locals
  pub functions : scope.functions ≡ signatures
  pub few : length world.many ≤ 1024

-- an expression whose parts have the shapes that their places ask for, in a scope that stands
pub record Typed (signatures : List (Option Signature)) (calls : Calls) (world : World) (locals : List Value) (tree : Tree) : Type 0 where
  pub scope : Scope
  pub stands : Stands signatures calls world locals scope
  pub shape : List Leaf
  pub is : tree_shape scope tree ≡ Some shape

-- several such expressions
pub record AllTyped (signatures : List (Option Signature)) (calls : Calls) (world : World) (locals : List Value) (trees : List Tree) : Type 0 where
  pub scope : Scope
  pub stands : Stands signatures calls world locals scope
  pub each : (i : ℕ) (tree : Tree) → slice_get trees i ≡ Some tree → (shape : List Leaf) × (tree_shape scope tree ≡ Some shape)

-- a step of a path that leads from one shape to another
pub record Picked (signatures : List (Option Signature)) (calls : Calls) (world : World) (locals : List Value) (pick : Pick) : Type 0 where
  pub scope : Scope
  pub stands : Stands signatures calls world locals scope
  pub whole : List Leaf
  pub part : List Leaf
  pub is : pick_shape scope pick whole ≡ Some part

-- several such steps
pub record AllPicked (signatures : List (Option Signature)) (calls : Calls) (world : World) (locals : List Value) (path : List Pick) : Type 0 where
  pub scope : Scope
  pub stands : Stands signatures calls world locals scope
  pub each : (i : ℕ) (pick : Pick) → slice_get path i ≡ Some pick → (whole part : List Leaf) × (pick_shape scope pick whole ≡ Some part)
