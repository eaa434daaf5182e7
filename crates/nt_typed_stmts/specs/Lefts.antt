-- What an assignment writes: its left side as an expression, whose tree is one of a variable or a local, of which it is the path
-- (IEEE 1800-2017, 10.4, 11.5.1). A procedure or function writes no net (6.5).
use Rattle.std.specs.Prelude.{ℕ, Bool, List, [], ◌∷◌, ◌++◌}
use Rattle.nt_value.specs.Digits.{LeafValue}
use Rattle.nt_value.specs.declared.leaf.Leaf.{Leaf}
use Rattle.nt_value.specs.declared.place.Place.{Place}
use Rattle.nt_value.specs.declared.operator.Unary.{Unary}
use Rattle.nt_value.specs.declared.operator.Binary.{Binary}
use Rattle.nt_diag.specs.declared.rule.Rule.{Rule}
use Rattle.nt_diag.specs.declared.rule.Rule.TheVariants as rule
use Rattle.nt_ast.specs.Places.{Node, place_of}
use Rattle.nt_design.specs.declared.object.Object.TheVariants as object
use Rattle.nt_design.specs.declared.target.Pick.{Pick}
use Rattle.nt_design.specs.declared.target.Pick.TheVariants as pick
use Rattle.nt_design.specs.declared.target.Target.{Target}
use Rattle.nt_design.specs.declared.target.Target.TheVariants as target
use Rattle.nt_design.specs.declared.tree.Tree.{Tree}
use Rattle.nt_design.specs.declared.tree.Tree.TheOpen.{Tree-F}
use Rattle.nt_design.specs.declared.tree.Tree.TheViews.{out-Tree}
use Rattle.nt_kinds.specs.declared.kind.Kind.{Kind}
use Rattle.nt_typing.specs.declared.scope.Scope.{Scope}
use Rattle.nt_typing.specs.declared.thing.Thing.TheVariants.{Value as value, Many as many}
use Rattle.nt_typing.specs.Typing.{Stands}
use Rattle.nt_typing.specs.Faults.{base, Misses}

-- one step further into what is written
abbrev pub into : Target → Pick → Target
into (target.Var v path) p = target.Var v (path ++ p ∷ [])
into (target.Slot net slot low width) p = target.Slot net slot low width
into (target.Local i path) p = target.Local i (path ++ p ∷ [])

-- the target to which a tree leads
pub data Reaches : Tree-F Tree → Target → Type 0 where
  variable : (v : ℕ) → Reaches (Tree-F.Read (object.Var v)) (target.Var v [])
  own : (i : ℕ) → Reaches (Tree-F.Local i) (target.Local i [])
  leaves_in : {to : Target} (a : Tree) (first count : ℕ) → Reaches (out-Tree a) to → Reaches (Tree-F.Leaves a first count) (into to (pick.Leaves first count))
  item_in : {to : Target} (a i : Tree) (low size : ℕ) (up : Bool) → Reaches (out-Tree a) to
      → Reaches (Tree-F.Item a i low size up) (into to (pick.Item i low size up))
  part_in : {to : Target} (a low : Tree) (width : ℕ) → Reaches (out-Tree a) to → Reaches (Tree-F.Part a low width) (into to (pick.Part low width))

-- a tree that leads to none: to a net (T10), or to what is no variable (T8)
pub data Misled : Tree-F Tree → Rule → Type 0 where
  net : (n : ℕ) → Misled (Tree-F.Read (object.Net n)) rule.T10
  leaves_of : {r : Rule} (a : Tree) (first count : ℕ) → Misled (out-Tree a) r → Misled (Tree-F.Leaves a first count) r
  item_of : {r : Rule} (a i : Tree) (low size : ℕ) (up : Bool) → Misled (out-Tree a) r → Misled (Tree-F.Item a i low size up) r
  part_of : {r : Rule} (a low : Tree) (width : ℕ) → Misled (out-Tree a) r → Misled (Tree-F.Part a low width) r
  constant : (v : List LeafValue) → Misled (Tree-F.Const v) rule.T8
  element : (i : Tree) → Misled (Tree-F.Element i) rule.T8
  unary : (op : Unary) (a : Tree) → Misled (Tree-F.Unary op a) rule.T8
  binary : (op : Binary) (a b : Tree) → Misled (Tree-F.Binary op a b) rule.T8
  choice : (test a b : Tree) → Misled (Tree-F.Choose test a b) rule.T8
  concat : (parts : List Tree) → Misled (Tree-F.Concat parts) rule.T8
  gather : (parts : List Tree) → Misled (Tree-F.Gather parts) rule.T8
  resize : (a : Tree) (to : Leaf) → Misled (Tree-F.Resize a to) rule.T8
  call : (f : ℕ) (args : List Tree) → Misled (Tree-F.Call f args) rule.T8
  size : Misled Tree-F.Size rule.T8
  time : Misled Tree-F.Time rule.T8

-- a left side: the type of what it writes, and where that is
pub data Left : Scope → Node → Kind → Target → Type 0 where
  left : {s : Scope} {x : Node} {k : Kind} {a : Tree} {to : Target} → Stands s x (value k a) → Reaches (out-Tree a) to → Left s x k to

-- a fault of a left side. That it writes a net or no variable rests on the expression
pub data LeftFault : Scope → Node → Rule → Place → Type 0 where
  faulty : {s : Scope} {x : Node} {r : Rule} {p : Place} → Misses s base x r p → LeftFault s x r p
  array : {s : Scope} {x : Node} {k : Kind} → Stands s x (many k) → LeftFault s x rule.T8 (place_of x)
  misled : {s : Scope} {x : Node} {k : Kind} {a : Tree} {r : Rule} → Stands s x (value k a) → Misled (out-Tree a) r → LeftFault s x r (place_of x)
