-- What holds of typed trees.
use Rattle.std.specs.Prelude.{◌≡◌, Bool, true, false, List, [], ◌∷◌, Option, Some, None}
use Rattle.nt_value.specs.declared.place.Place.{Place}
use Rattle.nt_diag.specs.declared.rule.Rule.{Rule}
use Rattle.nt_diag.specs.declared.refusal.Refusal.{Refusal}
use Rattle.nt_diag.specs.declared.rule.Rule.TheVariants as rule
use Rattle.nt_const.specs.Tells.{RefusesWhole, refusal}
use Rattle.nt_typing.specs.Faults.{Need, Asked, all_go, asked, base, goes, is_constant, is_pattern, leaf, Flowing, GoesTo, Meets, Wrong, Fault, FaultTo}
use Rattle.nt_typing.specs.Places.{Refuses, RefusesOne, RefusesOperand, RefusesSome, RefusesTo}
use Rattle.nt_value.specs.Digits.{IsLeaf, LeafValue}
use Rattle.nt_value.specs.declared.leaf.Leaf.{Leaf}
use Rattle.nt_ast.specs.Places.{Node, place_of}
use Rattle.nt_ast.specs.declared.expr.Key.{Key}
use Rattle.nt_design.specs.declared.tree.Tree.{Tree}
use Rattle.nt_kinds.specs.declared.kind.Kind.{Kind}
use Rattle.nt_typing.specs.declared.scope.Scope.{Scope}
use Rattle.nt_design.specs.Shapes.{Scope as Design, tree_shape}
use Rattle.nt_value.specs.declared.operator.Binary.TheVariants as o
use Rattle.nt_ast.specs.declared.expr.Expr.{Expr}
use Rattle.nt_ast.specs.declared.expr.Expr.TheOpen.{Expr-F}
use Rattle.nt_ast.specs.declared.expr.Expr.TheViews.{out-Expr}
use Rattle.nt_design.specs.declared.tree.Tree.TheVariants as t
use Rattle.nt_kinds.specs.Kinds.{leaves}
use Rattle.nt_typing.specs.Kinds.{leaf_of}
use Rattle.nt_typing.specs.Names.{constants}
use Rattle.nt_typing.specs.Constants.{Constant}
use Rattle.nt_typing.specs.Tables.{planned, thing_leaf}
use Rattle.nt_typing.specs.Covers.{IsKind, Covers}
use Rattle.nt_typing.specs.declared.thing.Thing.{Thing}
use Rattle.nt_typing.specs.declared.thing.Thing.TheVariants.{Value as value}
use Rattle.nt_typing.specs.Typing.{Stands, Alone, Typed, Goes}

-- an expression stands for one thing, has one leaf by itself, one tree in a context, and one as an assignment to a type
pub record OneTree : Type 0 where
  pub thing : (s : Scope) (x : Node) (g h : Thing) → Stands s x g → Stands s x h → g ≡ h
  pub leaf : (s : Scope) (x : Node) (l m : Leaf) → Alone s x l → Alone s x m → l ≡ m
  pub tree : (s : Scope) (x : Node) (c : Leaf) (a b : Tree) → Typed s x c a → Typed s x c b → a ≡ b
  pub goes : (s : Scope) (x : Node) (k : Kind) (a b : Tree) → Goes s x k a → Goes s x k b → a ≡ b

-- and what has one has no fault
pub record NoFault : Type 0 where
  pub thing : (s : Scope) (x : Node) (h : Thing) (r : Rule) (p : Place) → Stands s x h → Fault s x r p → ⊥
  pub leaf : (s : Scope) (x : Node) (l : Leaf) (r : Rule) (p : Place) → Alone s x l → Fault s x r p → ⊥
  pub goes : (s : Scope) (x : Node) (k : Kind) (a : Tree) (r : Rule) (p : Place) → Goes s x k a → FaultTo s x k r p → ⊥

-- a typed tree has the shape of its type, in a design whose numbers stand for what the names mean
pub record ShapesRight : Type 0 where
  pub thing : (s : Scope) (d : Design) (x : Node) (k : Kind) (a : Tree) → Covers s d → Stands s x (value k a) → tree_shape d a ≡ Some (leaves k)
  pub leaf : (s : Scope) (d : Design) (x : Node) (c : Leaf) (a : Tree) → Covers s d → Typed s x c a → IsLeaf c → tree_shape d a ≡ Some (c ∷ [])
  pub goes : (s : Scope) (d : Design) (x : Node) (k : Kind) (a : Tree) → Covers s d → Goes s x k a → IsKind k → tree_shape d a ≡ Some (leaves k)

-- what has the left side's leaf is assigned bare, and so is a sum of two such
pub record BareCopies : Type 0 where
  pub copied : (s : Scope) (x : Node) (j k : Kind) (a : Tree) (l : Leaf) → Stands s x (value j a) → leaf_of j ≡ Some l → leaf_of k ≡ Some l → Goes s x k a
  pub summed : (s : Scope) (at : Place) (x y : Expr) (i j k : Kind) (a b : Tree) (l : Leaf) → Stands s (out-Expr x) (value i a) → Stands s (out-Expr y) (value j b)
      → leaf_of i ≡ Some l → leaf_of j ≡ Some l → leaf_of k ≡ Some l → Goes s (Expr-F.Binary at o.Add x y) k (t.Binary o.Add a b)

-- a fault that the first faulty operand gives, or the node itself where no operand is faulty, is the least
pub record LeastFirst : Type 0 where
  pub own : (s : Scope) (x : Node) (r : Rule) (p : Place) → Wrong s x r p → Refuses s x (refusal r p)
  pub operand : (s : Scope) (x : Node) (r : Refusal) → RefusesOne s (asked s x) r → Refuses s x r
  pub first : (s : Scope) (n : Need) (x : Expr) (rest : Asked) (r : Refusal) → RefusesOperand s n (out-Expr x) r → RefusesOne s ((n, x) ∷ rest) r
  pub leaf : (s : Scope) (x : Node) (r : Refusal) → Refuses s x r → RefusesOperand s leaf x r

-- of an operand: what is asked of it decides what its least fault is
pub record LeastOperand : Type 0 where
  pub missing : (s : Scope) (x : Node) (h : Thing) → Stands s x h → thing_leaf h ≡ None → RefusesOperand s leaf x (refusal rule.T8 (place_of x))
  pub base_faulty : (s : Scope) (x : Node) (r : Refusal) → Refuses s x r → RefusesOperand s base x r
  pub base_missing : (s : Scope) (x : Node) (l : Leaf) → Flowing x → Alone s x l → RefusesOperand s base x (refusal rule.T8 (place_of x))
  pub inconstant : (s : Scope) (n : Need) (x : Node) (r : Refusal) → is_constant n ≡ true → RefusesWhole (constants s) x r → RefusesOperand s n x r
  pub unmet : (s : Scope) (n : Need) (x : Node) (v : LeafValue) → is_constant n ≡ true → Constant s x v → (Meets n v → ⊥) → RefusesOperand s n x (refusal rule.T3 (place_of x))
  pub going : (s : Scope) (k : Kind) (x : Node) (r : Refusal) → RefusesTo s x k r → RefusesOperand s (goes k) x r

-- and of what is assigned to a type
pub record LeastTo : Type 0 where
  pub faulty : (s : Scope) (x : Node) (k : Kind) (r : Refusal) → is_pattern x ≡ false → Refuses s x r → RefusesTo s x k r
  pub no_leaf : (s : Scope) (x : Node) (k : Kind) (l : Leaf) → leaf_of k ≡ None → Alone s x l → RefusesTo s x k (refusal rule.T8 (place_of x))
  pub unlike : (s : Scope) (x : Node) (k : Kind) (h : Thing) → Stands s x h → thing_leaf h ≡ None → leaf_of k ≡ None → (GoesTo h k → ⊥) → RefusesTo s x k (refusal rule.T8 (place_of x))
  pub no_value : (s : Scope) (x : Node) (k : Kind) (h : Thing) (to : Leaf) → Stands s x h → thing_leaf h ≡ None → leaf_of k ≡ Some to → RefusesTo s x k (refusal rule.T8 (place_of x))
  pub unplanned : (s : Scope) (k : Kind) (at : Place) (items : List (Option Key × Expr)) → planned k items ≡ None → RefusesTo s (Expr-F.Pattern at items) k (refusal rule.T8 at)
  pub item : (s : Scope) (k : Kind) (at : Place) (items : List (Option Key × Expr)) (plan : List (Expr × Kind)) (r : Refusal)
      → planned k items ≡ Some plan → RefusesSome s (all_go plan) r → RefusesTo s (Expr-F.Pattern at items) k r
