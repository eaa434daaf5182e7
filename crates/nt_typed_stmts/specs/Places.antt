-- What the least fault of a statement is, whose places stand in the order of the source.
use Rattle.std.specs.Prelude.{ℕ, List, [], ◌∷◌}
use Rattle.nt_value.specs.declared.place.Place.{Place}
use Rattle.nt_diag.specs.declared.rule.Rule.{Rule}
use Rattle.nt_diag.specs.declared.refusal.Refusal.{Refusal}
use Rattle.nt_diag.specs.Order.{NoLater}
use Rattle.nt_ast.specs.Places.{Node, Placed, AllPlaced, StatementPlaced}
use Rattle.nt_ast.specs.declared.expr.Expr.{Expr}
use Rattle.nt_ast.specs.declared.expr.Expr.TheViews.{out-Expr}
use Rattle.nt_ast.specs.declared.stmt.Stmt.{Stmt}
use Rattle.nt_ast.specs.declared.stmt.Stmt.TheOpen.{Stmt-F}
use Rattle.nt_ast.specs.declared.stmt.Stmt.TheViews.{out-Stmt}
use Rattle.nt_const.specs.Tells.{refusal}
use Rattle.nt_typing.specs.Faults.{Asked}
use Rattle.nt_typing.specs.Places.{exprs}
use Rattle.nt_typing.specs.declared.scope.Scope.{Scope}
use Rattle.nt_typed_stmts.specs.Around.{Around}
use Rattle.nt_typed_stmts.specs.Faults.{Ask, broken, operands, assigned, deferred, worthless, delay, event, inner, Unmet, StatementFault}

-- what is asked of stands somewhere in the file
pub data AskPlaced (f : ℕ) : Ask → Type 0 where
  broken_in : (r : Rule) (p : Place) → AskPlaced f (broken r p)
  operands_in : {i j : ℕ} (s : Scope) (xs : Asked) → AllPlaced f i j (exprs xs) → AskPlaced f (operands s xs)
  assigned_in : {g h i j : ℕ} (s : Scope) (x : Node) (y : Expr) → Placed f g h x → Placed f i j (out-Expr y) → AskPlaced f (assigned s x y)
  deferred_in : {g h i j : ℕ} (s : Scope) (n : ℕ) (x : Node) (y : Expr) → Placed f g h x → Placed f i j (out-Expr y) → AskPlaced f (deferred s n x y)
  worthless_in : {i j : ℕ} (s : Scope) (x : Expr) → Placed f i j (out-Expr x) → AskPlaced f (worthless s x)
  delay_in : {i j : ℕ} (s : Scope) (x : Expr) → Placed f i j (out-Expr x) → AskPlaced f (delay s x)
  event_in : {i j : ℕ} (s : Scope) (x : Expr) → Placed f i j (out-Expr x) → AskPlaced f (event s x)
  inner_in : {i j : ℕ} (w : Around) (x : Stmt) → StatementPlaced f i j (out-Stmt x) → AskPlaced f (inner w x)

pub data AsksPlaced (f : ℕ) : List Ask → Type 0 where
  no_asks : AsksPlaced f []
  more_asks : (a : Ask) (rest : List Ask) → AskPlaced f a → AsksPlaced f rest → AsksPlaced f (a ∷ rest)

-- the least of what some asks lack
pub record RefusesAsks (as' : List Ask) (r : Refusal) : Type 0 where
  pub is : Unmet as' r.rule r.place
  pub least : (f : ℕ) → AsksPlaced f as' → (t : Rule) (q : Place) → Unmet as' t q → NoLater r (refusal t q)

-- the least fault of a statement
pub record RefusesStatement (w : Around) (x : Stmt-F Stmt) (r : Refusal) : Type 0 where
  pub is : StatementFault w x r.rule r.place
  pub least : (f i j : ℕ) → StatementPlaced f i j x → (t : Rule) (q : Place) → StatementFault w x t q → NoLater r (refusal t q)
