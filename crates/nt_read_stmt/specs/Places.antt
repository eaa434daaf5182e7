-- What is derived as a statement from tokens stands in the source as they do.
use Rattle.std.specs.Prelude.{ℕ}
use Rattle.nt_ast.specs.declared.stmt.Stmt.{Stmt}
use Rattle.nt_ast.specs.declared.stmt.Stmt.TheViews.{out-Stmt}
use Rattle.nt_ast.specs.Places.{StatementPlaced}
use Rattle.nt_lexer.specs.Laws.{Ascending}
use Rattle.nt_read_expr.specs.Tables.{Tokens}

-- The places of the tree lie within these tokens, and in their order, where these are in the order of their offsets.
abbrev pub StatementPlacedIn : Tokens → Stmt → Type 0
StatementPlacedIn ts x = (file i j : ℕ) → Ascending file i j ts → StatementPlaced file i j (out-Stmt x)
