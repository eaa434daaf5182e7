-- The same types and names, as functions that read tokens from the left. The functions of src/ equal these.
use Rattle.std.specs.Prelude.{ℕ, zero, suc, ◌+◌, Bool, false, not, if◌then◌else◌, ◌&&◌, List, [], ◌∷◌, ◌++◌, length, drop, Option, Some, None}
use Rattle.nt_value.specs.declared.place.Place.{Place}
use Rattle.nt_ast.specs.declared.path.Declared.{Declared}
use Rattle.nt_ast.specs.declared.expr.Expr.{Expr}
use Rattle.nt_ast.specs.declared.types.IntWord.{IntWord}
use Rattle.nt_ast.specs.declared.types.IntWord.TheVariants as int
use Rattle.nt_ast.specs.declared.types.TypeTree.{TypeTree}
use Rattle.nt_ast.specs.declared.types.TypeTree.TheVariants as t
use Rattle.nt_lexer.specs.declared.kinds.Mark.TheVariants as m
use Rattle.nt_lexer.specs.declared.kinds.Word.TheVariants as w
use Rattle.nt_lexer.specs.declared.kinds.TokenKind.{TokenKind}
use Rattle.nt_lexer.specs.declared.kinds.TokenKind.TheVariants as k
use Rattle.nt_read_expr.specs.declared.list.Separator.TheVariants.{Comma}
use Rattle.nt_read_expr.specs.Tables.{Tokens, start}
use Rattle.nt_read_expr.specs.Reader.{Read, ◌>>=◌, either, first, is_at, expect, name_first, reference, below, whole, list_of, is_some}
use Rattle.nt_read_stmt.specs.Reader.{is_word, expect_word, take_name}
use Rattle.nt_read_unit.specs.Tables.{vector_of, atom_of, sign_of}

-- groups, while one begins, behind those that were found
unfoldable pub groups_of : {A : Type 0} → (Tokens → Bool) → (Tokens → Read (List A)) → ℕ → List A → Tokens → Read (List A)
groups_of goes group zero found ts = None
groups_of goes group (suc f) found ts =
    if goes ts then (do
      (xs, us) ← group ts
      groups_of goes group f (found ++ xs) us)
    else Some (found, ts)

-- a name stands first
unfoldable pub is_name : Tokens → Bool
is_name ts = is_some (name_first ts)

-- a name stands first that is no type
unfoldable pub is_bare : Tokens → Bool
is_bare ts = if is_name ts then not (is_name (drop 1 ts)) && not (is_at m.Scope (drop 1 ts)) else false

unfoldable pub sign : Tokens → Read (Option Bool)
sign ts = either (sign_of (first ts)) (Some (None, ts)) (λ s. Some (Some s, drop 1 ts))

-- a dimension begins, and not the brackets of a dynamic array
unfoldable pub dim_goes : Tokens → Bool
dim_goes ts = if is_at m.LeftBracket ts then not (is_at m.RightBracket (drop 1 ts)) else false

unfoldable pub atom : IntWord → Place → Tokens → Read TypeTree
atom word at ts = do
  (s, us) ← sign ts
  Some (t.Integral at word s None, us)

abbrev pub known_by : TokenKind → Place → Tokens → Read TypeTree
known_by (k.Name name) at ts = do
  (path, us) ← reference at name ts
  Some (t.Named at path, us)
known_by _ at ts = None

-- the type of a name
abbrev pub known : Tokens → Read TypeTree
known ts = known_by (first ts) (start ts) (drop 1 ts)

module _ (limit d : ℕ) where
  unfoldable pub range : Tokens → Read (Expr × Expr)
  range ts = do
    us ← expect m.LeftBracket ts
    (x, vs) ← whole limit (below limit d) us
    ws ← expect m.Colon vs
    (y, xs) ← whole limit (below limit d) ws
    zs ← expect m.RightBracket xs
    Some ((x, y), zs)

  unfoldable pub maybe_range : Tokens → Read (Option (Expr × Expr))
  maybe_range ts =
      if is_at m.LeftBracket ts then (do
        (r, us) ← range ts
        Some (Some r, us))
      else Some (None, ts)

  -- the second end of a dimension
  unfoldable pub dim_end : Expr → Tokens → Read (List (Expr × Option Expr))
  dim_end x ts = do
    us ← expect m.Colon ts
    (y, vs) ← whole limit (below limit d) us
    ws ← expect m.RightBracket vs
    Some ((x, Some y) ∷ [], ws)

  unfoldable pub dim : Tokens → Read (List (Expr × Option Expr))
  dim ts = do
    us ← expect m.LeftBracket ts
    (x, vs) ← whole limit (below limit d) us
    if is_at m.RightBracket vs then Some ((x, None) ∷ [], drop 1 vs) else dim_end x vs

  unfoldable pub named : Tokens → Read Declared
  named ts = do
    (name, us) ← take_name ts
    (xs, vs) ← groups_of dim_goes dim (length us + 1) [] us
    Some (record { at = start ts; name = name; dims = xs; start = None }, vs)

  unfoldable pub vector : IntWord → Place → Tokens → Read TypeTree
  vector word at ts = do
    (s, us) ← sign ts
    (r, vs) ← maybe_range us
    Some (t.Integral at word s r, vs)

  unfoldable pub plain : Tokens → Read TypeTree
  plain ts =
      either (vector_of (first ts))
      (either (atom_of (first ts)) (known ts) (λ word. atom word (start ts) (drop 1 ts)))
      (λ word. vector word (start ts) (drop 1 ts))

  unfoldable pub member_name : TypeTree → Tokens → Read (TypeTree × Declared)
  member_name of ts = do
    (x, us) ← named ts
    Some ((of, x), us)

  -- with what reads a structure one level deeper
  module _ (inner : Tokens → Read TypeTree) where
    unfoldable pub member_type : Tokens → Read TypeTree
    member_type ts = if is_word w.Struct ts then inner ts else plain ts

    unfoldable pub member : Tokens → Read (List (TypeTree × Declared))
    member ts = do
      (of, us) ← member_type ts
      (xs, vs) ← list_of Comma (member_name of) us
      ws ← expect m.Semicolon vs
      Some (xs, ws)

    -- members go on up to the brace
    unfoldable pub member_goes : Tokens → Bool
    member_goes ts = not (is_at m.RightBrace ts)

    unfoldable pub structure : Tokens → Read TypeTree
    structure ts = do
      us ← expect_word w.Struct ts
      vs ← expect m.LeftBrace us
      (xs, ws) ← groups_of member_goes member (length vs + 1) [] vs
      zs ← expect m.RightBrace ws
      Some (t.Struct (start ts) xs, zs)

-- a structure with fewer than so many open nodes over one another
unfoldable pub inside : ℕ → ℕ → Tokens → Read TypeTree
inside limit zero ts = None
inside limit (suc d) ts = structure limit d (inside limit d) ts

module _ (limit d : ℕ) where
  unfoldable pub type_in : Tokens → Read TypeTree
  type_in ts = if is_word w.Struct ts then structure limit d (inside limit d) ts else plain limit d ts

  unfoldable pub only_sign : Bool → Place → Tokens → Read (Option TypeTree)
  only_sign s at ts = do
    (r, us) ← maybe_range limit d ts
    Some (Some (t.Integral at int.Logic (Some s) r), us)

  unfoldable pub only_range : Tokens → Read (Option TypeTree)
  only_range ts = do
    (r, us) ← range limit d ts
    Some (Some (t.Integral (start ts) int.Logic None (Some r)), us)

  unfoldable pub some_type : Tokens → Read (Option TypeTree)
  some_type ts = do
    (x, us) ← type_in ts
    Some (Some x, us)

  unfoldable pub maybe_type : Tokens → Read (Option TypeTree)
  maybe_type ts =
      if is_bare ts then Some (None, ts)
      else (if is_at m.LeftBracket ts then only_range ts else either (sign_of (first ts)) (some_type ts) (λ s. only_sign s (start ts) (drop 1 ts)))
