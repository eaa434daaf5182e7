-- A function value that reads structures one level deeper.
use Rattle.std.specs.Prelude.{ℕ, List, Result}
use Rattle.std.specs.declared.alloc.Global.{Global}
use denote.Ref.{Bor}
use Rattle.nt_ast.specs.declared.types.TypeTree.{TypeTree}
use Rattle.nt_lexer.specs.declared.kinds.Token.{Token}
use Rattle.nt_read_expr.specs.declared.stop.Stop.{Stop}
use Rattle.nt_read_expr.specs.Gives.{Gives}
use Rattle.nt_read_unit.specs.Reader.{inside}

pub record Nests (limit depth : ℕ) (pre : Global → ℕ → ℕ → Bor (List Token) → Type 0)
    (post : Global → ℕ → ℕ → Bor (List Token) → Result (TypeTree × Bor (List Token)) Stop → Type 0) : Type 0 where
  pub callable : (alloc : Global) (ts : Bor (List Token)) → pre alloc limit depth ts
  pub reads : (alloc : Global) (ts : Bor (List Token)) (r : Result (TypeTree × Bor (List Token)) Stop) → post alloc limit depth ts r
      → Gives (λ x. (x.0, x.1.now)) r (inside limit depth ts.now)
