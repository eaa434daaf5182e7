-- What is derived from tokens stands in the source as they do.
use Rattle.std.specs.Prelude.{ℕ}
use Rattle.nt_ast.specs.declared.expr.Expr.{Expr}
use Rattle.nt_ast.specs.declared.expr.Expr.TheViews.{out-Expr}
use Rattle.nt_ast.specs.Places.{Placed}
use Rattle.nt_lexer.specs.Laws.{Ascending}
use Rattle.nt_read_expr.specs.Tables.{Tokens}

-- The places of the tree lie within these tokens, and in their order, where these are in the order of their offsets.
abbrev pub PlacedIn : Tokens → Expr → Type 0
PlacedIn ts x = (file i j : ℕ) → Ascending file i j ts → Placed file i j (out-Expr x)
