-- A left side as a function that reads tokens from the left: a name and its selects, where `.size` is a member (IEEE 1800-2017, A.8.5).
use Rattle.std.specs.Prelude.{ℕ, suc, true, drop, Some, None}
use Rattle.nt_value.specs.declared.place.Place.{Place}
use Rattle.nt_ast.specs.declared.expr.Expr.{Expr}
use Rattle.nt_ast.specs.declared.expr.Expr.TheVariants as e
use Rattle.nt_lexer.specs.declared.kinds.TokenKind.{TokenKind}
use Rattle.nt_lexer.specs.declared.kinds.TokenKind.TheVariants as k
use Rattle.nt_read_expr.specs.Tables.{Tokens, start}
use Rattle.nt_read_expr.specs.Reader.{Readers, Read, ◌>>=◌, first, reference, selects}

module _ (limit : ℕ) (r : Readers) where
  abbrev pub side_by : TokenKind → Place → Tokens → Read Expr
  side_by (k.Name name) at ts = do
    (path, us) ← reference at name ts
    selects limit r true (suc limit) at (e.Read at path) us
  side_by _ at ts = None

  unfoldable pub left_side : Tokens → Read Expr
  left_side ts = side_by (first ts) (start ts) (drop 1 ts)
