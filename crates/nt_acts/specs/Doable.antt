-- What the doing of statements rests on.
use Rattle.std.specs.Prelude.{◌≡◌, ◌∷◌, ℕ, true, List, All, [], map, is_some, option_to_list, Option, Some, Result, slice_get}
use Rattle.nt_value.specs.declared.leaf.Leaf.{Leaf}
use Rattle.nt_design.specs.Expressions.{Calls, World}
use Rattle.nt_design.specs.Parts.{Value, int_leaf}
use Rattle.nt_design.specs.Rules.{act_fits}
use Rattle.nt_design.specs.Shapes.{Scope, Shaped, Signature, call_shape, is_both, signature_at, target_shape, tree_shape}
use Rattle.nt_design.specs.declared.target.Target.{Target}
use Rattle.nt_design.specs.declared.act.Act.{Act}
use Rattle.nt_design.specs.declared.env.Stop.{Stop}
use Rattle.nt_design.specs.declared.tree.Tree.{Tree}
use Rattle.nt_values.specs.Tells.{seen}
use Rattle.nt_values.specs.Typed.{Stands}

-- an answer, with the locals that are left
abbrev pub with_locals : {A : Type 0} → List Value → Result (A × ℕ) Stop → Result ((List Value × A) × ℕ) Stop
with_locals locals result = seen (λ x. (locals, x)) result

-- a function's name has the leaves of its result
abbrev pub Named : Scope → Shaped → ℕ → Type 0
Named scope result name =
    (leaf : Leaf) (leaves s : List Leaf) → result ≡ Some (leaf ∷ leaves) → slice_get scope.locals name ≡ Some s → leaf ∷ leaves ≡ s

-- an expression has a shape
abbrev pub HasShape : Scope → Tree → Type 0
HasShape scope tree = (shape : List Leaf) × (tree_shape scope tree ≡ Some shape)

-- a statement's parts have the shapes that their places ask for
abbrev pub Fits : Scope → Shaped → Act → Type 0
Fits scope result act = act_fits scope result act ≡ true

-- expressions and statements whose parts have the shapes that their places ask for, in a scope that stands
pub record Doable (signatures : List (Option Signature)) (calls : Calls) (world : World) (name : ℕ) (locals : List Value) (trees : List Tree) (acts : List Act) : Type 0 where
  pub scope : Scope
  pub result : Shaped
  pub stands : Stands signatures calls world locals scope
  pub named : Named scope result name
  pub typed : All (HasShape scope) trees
  pub fit : All (Fits scope result) acts

-- a `case` whose items have the shape of its test (12.5)
pub record CaseDoable (signatures : List (Option Signature)) (calls : Calls) (world : World) (name : ℕ) (locals : List Value) (test : Tree) (arms : List (List Tree × Act)) (other : Option Act) : Type 0 where
  pub scope : Scope
  pub result : Shaped
  pub stands : Stands signatures calls world locals scope
  pub named : Named scope result name
  pub shape : List Leaf
  pub typed : tree_shape scope test ≡ Some shape
  pub items : All (λ arm. All (λ item. tree_shape scope item ≡ Some shape) arm.0) arms
  pub arms_fit : All (λ arm. Fits scope result arm.1) arms
  pub other_fits : All (Fits scope result) (option_to_list other)

-- the body of a `foreach`, whose local that counts is an `int` (12.7.3)
pub record EachDoable (signatures : List (Option Signature)) (calls : Calls) (world : World) (name : ℕ) (locals : List Value) (at : ℕ) (body : Act) : Type 0 where
  pub doable : Doable signatures calls world name locals [] (body ∷ [])
  pub counts : slice_get doable.scope.locals at ≡ Some (int_leaf ∷ [])

-- an assignment whose two sides have one shape
pub record Assigned (signatures : List (Option Signature)) (calls : Calls) (world : World) (locals : List Value) (target : Target) (right : Tree) : Type 0 where
  pub scope : Scope
  pub stands : Stands signatures calls world locals scope
  pub same : is_both (target_shape scope target) (tree_shape scope right) ≡ true

-- a value that may be returned, if there is one
pub record Returned (signatures : List (Option Signature)) (calls : Calls) (world : World) (locals : List Value) (value : Option Tree) : Type 0 where
  pub scope : Scope
  pub stands : Stands signatures calls world locals scope
  pub typed : (tree : Tree) → value ≡ Some tree → (shape : List Leaf) × (tree_shape scope tree ≡ Some shape)

-- a call whose arguments have the shapes of the function's
pub record Called (signatures : List (Option Signature)) (calls : Calls) (world : World) (locals : List Value) (function : ℕ) (args : List Tree) : Type 0 where
  pub scope : Scope
  pub stands : Stands signatures calls world locals scope
  pub fits : is_some (call_shape (signature_at scope function) (map (tree_shape scope) args)) ≡ true
