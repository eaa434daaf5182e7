-- What the least fault is, of an expression whose places stand in the order of the source.
use Rattle.std.specs.Prelude.{ℕ, List, [], ◌∷◌, map, Option}
use Rattle.nt_value.specs.declared.place.Place.{Place}
use Rattle.nt_diag.specs.declared.rule.Rule.{Rule}
use Rattle.nt_diag.specs.declared.refusal.Refusal.{Refusal}
use Rattle.nt_diag.specs.Order.{NoLater}
use Rattle.nt_ast.specs.declared.expr.Expr.{Expr}
use Rattle.nt_ast.specs.declared.expr.Expr.TheViews.{out-Expr}
use Rattle.nt_ast.specs.Places.{Node, Placed, AllPlaced}
use Rattle.nt_const.specs.Tells.{refusal}
use Rattle.nt_typing.specs.declared.scope.Scope.{Scope}
use Rattle.nt_kinds.specs.declared.kind.Kind.{Kind}
use Rattle.nt_typing.specs.Faults.{Need, Asked, Fault, Among, Misses, FaultTo, Unbound}

abbrev pub exprs : Asked → List Expr
exprs ns = map (λ n. n.1) ns

pub record Refuses (s : Scope) (x : Node) (r : Refusal) : Type 0 where
  pub is : Fault s x r.rule r.place
  pub least : (f i j : ℕ) → Placed f i j x → (t : Rule) (q : Place) → Fault s x t q → NoLater r (refusal t q)

pub record RefusesOne (s : Scope) (ns : Asked) (r : Refusal) : Type 0 where
  pub is : Among s ns r.rule r.place
  pub least : (f i j : ℕ) → AllPlaced f i j (exprs ns) → (t : Rule) (q : Place) → Among s ns t q → NoLater r (refusal t q)

pub record RefusesOperand (s : Scope) (n : Need) (x : Node) (r : Refusal) : Type 0 where
  pub is : Misses s n x r.rule r.place
  pub least : (f i j : ℕ) → Placed f i j x → (t : Rule) (q : Place) → Misses s n x t q → NoLater r (refusal t q)

-- of the right side of an assignment to a type
pub record RefusesTo (s : Scope) (x : Node) (k : Kind) (r : Refusal) : Type 0 where
  pub is : FaultTo s x k r.rule r.place
  pub least : (f i j : ℕ) → Placed f i j x → (t : Rule) (q : Place) → FaultTo s x k t q → NoLater r (refusal t q)

-- each stands somewhere in the file, in whatever order
pub data Scattered (f : ℕ) : List Expr → Type 0 where
  nowhere : Scattered f []
  somewhere : {i j : ℕ} (x : Expr) (xs : List Expr) → Placed f i j (out-Expr x) → Scattered f xs → Scattered f (x ∷ xs)

-- of several that are named in any order, as the items of a pattern
pub record RefusesSome (s : Scope) (ns : Asked) (r : Refusal) : Type 0 where
  pub is : Among s ns r.rule r.place
  pub least : (f : ℕ) → Scattered f (exprs ns) → (t : Rule) (q : Place) → Among s ns t q → NoLater r (refusal t q)

-- of what the call refuses
pub record RefusesBinding (s : Scope) (x : Node) (to : Option Kind) (r : Refusal) : Type 0 where
  pub is : Unbound s x to r.rule r.place
  pub least : (f i j : ℕ) → Placed f i j x → (t : Rule) (q : Place) → Unbound s x to t q → NoLater r (refusal t q)
