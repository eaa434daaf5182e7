-- What the calls answer.
use Rattle.std.specs.Prelude.{◌≡◌, ℕ, Option, List}
use Rattle.nt_value.specs.Digits.{LeafValue}
use Rattle.nt_value.specs.Operators.{resize_of}
use Rattle.nt_value.specs.declared.leaf.Leaf.{Leaf}
use Rattle.nt_value.specs.declared.place.Place.{Place}
use Rattle.nt_diag.specs.declared.rule.Rule.{Rule}
use Rattle.nt_diag.specs.declared.refusal.Refusal.{Refusal}
use Rattle.nt_diag.specs.Order.{NoLater}
use Rattle.nt_ast.specs.declared.expr.Expr.{Expr}
use Rattle.nt_const.specs.Tables.{context, target}
use Rattle.nt_ast.specs.Places.{Node, Placed, AllPlaced}
use Rattle.nt_const.specs.Rules.{Names, Alone, Within, Own, Fault, Among, Faulty, Need}

abbrev pub refusal : Rule → Place → Refusal
refusal r p = record { rule = r; place = p }

-- a fault, the least where places stand in order
pub record Refuses (k : Names) (x : Node) (r : Refusal) : Type 0 where
  pub is : Fault k x r.rule r.place
  pub least : (f i j : ℕ) → Placed f i j x → (s : Rule) (q : Place) → Fault k x s q → NoLater r (refusal s q)

pub record RefusesOne (k : Names) (ns : List Need) (xs : List Expr) (r : Refusal) : Type 0 where
  pub is : Among k ns xs r.rule r.place
  pub least : (f i j : ℕ) → AllPlaced f i j xs → (s : Rule) (q : Place) → Among k ns xs s q → NoLater r (refusal s q)

-- of an expression that must be constant
pub record RefusesWhole (k : Names) (x : Node) (r : Refusal) : Type 0 where
  pub is : Faulty k x r.rule r.place
  pub least : (f i j : ℕ) → Placed f i j x → (s : Rule) (q : Place) → Faulty k x s q → NoLater r (refusal s q)

-- the value of a constant expression that goes to a leaf
pub record Means (k : Names) (x : Node) (to : Option Leaf) (v : LeafValue) : Type 0 where
  pub leaf : Leaf
  pub value : LeafValue
  pub alone : Alone k x leaf
  pub value_within : Within k x (context to leaf) value
  pub is : v ≡ resize_of value (target to leaf)

-- the laws: an expression has one leaf, one value in a context, and a fault only where it has no leaf
pub record OneAnswer : Type 0 where
  pub leaf : (k : Names) (x : Node) (l m : Leaf) → Alone k x l → Alone k x m → l ≡ m
  pub value : (k : Names) (x : Node) (c : Leaf) (v w : LeafValue) → Within k x c v → Within k x c w → v ≡ w
  pub own : (k : Names) (x : Node) (v w : LeafValue) → Own k x v → Own k x w → v ≡ w
  pub fault : (k : Names) (x : Node) (l : Leaf) (r : Rule) (p : Place) → Alone k x l → Faulty k x r p → ⊥
