-- A function value that reads expressions and operands one level deeper.
use Rattle.std.specs.Prelude.{ℕ, Bool, true, false, List, Result}
use Rattle.std.specs.declared.alloc.Global.{Global}
use denote.Ref.{Bor}
use Rattle.nt_ast.specs.declared.expr.Expr.{Expr}
use Rattle.nt_lexer.specs.declared.kinds.Token.{Token}
use Rattle.nt_read_expr.specs.declared.stop.Stop.{Stop}
use Rattle.nt_read_expr.specs.Gives.{Gives}
use Rattle.nt_read_expr.specs.Reader.{below}

pub record Nests (limit depth : ℕ) (pre : Global → ℕ → ℕ → Bool → Bor (List Token) → Type 0)
    (post : Global → ℕ → ℕ → Bool → Bor (List Token) → Result (Expr × Bor (List Token)) Stop → Type 0) : Type 0 where
  pub callable : (alloc : Global) (only : Bool) (ts : Bor (List Token)) → pre alloc limit depth only ts
  pub whole : (alloc : Global) (ts : Bor (List Token)) (r : Result (Expr × Bor (List Token)) Stop) → post alloc limit depth false ts r
      → Gives (λ x. (x.0, x.1.now)) r ((below limit depth).whole ts.now)
  pub operand : (alloc : Global) (ts : Bor (List Token)) (r : Result (Expr × Bor (List Token)) Stop) → post alloc limit depth true ts r
      → Gives (λ x. (x.0, x.1.now)) r ((below limit depth).operand ts.now)
