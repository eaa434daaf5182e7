-- The same expressions, as a function that reads tokens from the left, with one token of look-ahead, and two for `.` and keys.
-- The functions of src/ equal these.
use Rattle.std.specs.Prelude.{ℕ, zero, suc, ◌+◌, Bool, true, false, ◌==◌, ◌&&◌, nat_lt, if◌then◌else◌, List, [], ◌∷◌, ◌++◌, length, drop, Option, Some, None}
use Rattle.nt_value.specs.declared.place.Place.{Place}
use Rattle.nt_value.specs.declared.operator.Unary.{Unary}
use Rattle.nt_value.specs.declared.operator.Binary.{Binary}
use Rattle.nt_ast.specs.declared.path.Path.{Path}
use Rattle.nt_ast.specs.declared.expr.Key.{Key}
use Rattle.nt_ast.specs.declared.expr.Expr.{Expr}
use Rattle.nt_ast.specs.declared.expr.Expr.TheVariants as e
use denote.Enum.Bare.{sameb}
use Rattle.nt_lexer.specs.contracts.kinds.Mark.{the_type}
use Rattle.nt_lexer.specs.declared.kinds.Mark.{Mark}
use Rattle.nt_lexer.specs.declared.kinds.Mark.TheVariants as m
use Rattle.nt_lexer.specs.declared.kinds.TokenKind.{TokenKind}
use Rattle.nt_lexer.specs.declared.kinds.TokenKind.TheVariants as k
use Rattle.nt_read_expr.specs.declared.list.Separator.{Separator}
use Rattle.nt_read_expr.specs.declared.list.Separator.TheVariants as sep
use Rattle.nt_read_expr.specs.declared.front.System.{System}
use Rattle.nt_read_expr.specs.declared.front.System.TheVariants.{Time, Sign}
use Rattle.nt_read_expr.specs.Tables.{Tokens, binary_of, level, unary_of, upward, system_of, is_size, is_member, key_of, separates, start}

abbrev pub Read : Type 0 → Type 0
Read A = Option (A × Tokens)

infixl 10 ◌>>=◌
abbrev pub ◌>>=◌ : {A B : Type 0} → Option A → (A → Option B) → Option B
(Some x) >>= f = f x
None >>= f = None

abbrev pub either : {A B : Type 0} → Option A → B → (A → B) → B
either None b f = b
either (Some a) b f = f a

-- the kind of the first token
abbrev pub first : Tokens → TokenKind
first [] = k.End
first (t ∷ ts) = t.kind

-- `==` on marks
abbrev pub same_mark : Mark → Mark → Bool
same_mark = sameb the_type

abbrev pub is_kind : Mark → TokenKind → Bool
is_kind m (k.Mark n) = same_mark n m
is_kind m _ = false

-- whether the first token is this mark
unfoldable pub is_at : Mark → Tokens → Bool
is_at m ts = is_kind m (first ts)

-- what follows this mark, where it stands first
unfoldable pub expect : Mark → Tokens → Option Tokens
expect m ts = if is_at m ts then Some (drop 1 ts) else None

abbrev pub name_kind : TokenKind → Option (List ℕ)
name_kind (k.Name name) = Some name
name_kind _ = None

-- the name that stands first
unfoldable pub name_first : Tokens → Option (List ℕ)
name_first ts = name_kind (first ts)

abbrev pub of_level : ℕ → Option Binary → Option Binary
of_level h None = None
of_level h (Some op) = if level op == h then Some op else None

abbrev pub binary_kind : ℕ → TokenKind → Option Binary
binary_kind h (k.Mark m) = of_level h (binary_of m)
binary_kind h _ = None

-- the operator of the level, where the first token is one
unfoldable pub binary_first : ℕ → Tokens → Option Binary
binary_first h ts = binary_kind h (first ts)

abbrev pub kept : (List ℕ → Bool) → Option (List ℕ) → Option (List ℕ)
kept test None = None
kept test (Some name) = if test name then Some name else None

-- the name after a dot, where both stand first and the name is such
unfoldable pub dotted : (List ℕ → Bool) → Tokens → Option (List ℕ)
dotted test ts = if is_at m.Dot ts then kept test (name_first (drop 1 ts)) else None

-- the key that stands first, with a colon
unfoldable pub key_first : Tokens → Option Key
key_first ts = if is_at m.Colon (drop 1 ts) then key_of (first ts) else None

abbrev pub is_some : {A : Type 0} → Option A → Bool
is_some None = false
is_some (Some a) = true

-- past empty parentheses
unfoldable pub past_parens : Tokens → Tokens
past_parens ts = if is_at m.LeftParen ts && is_at m.RightParen (drop 1 ts) then drop 2 ts else ts

-- a reference whose first name was taken
unfoldable pub reference : Place → List ℕ → Tokens → Read Path
reference at name ts =
    if is_at m.Scope ts then (do
      other ← name_first (drop 1 ts)
      Some (record { at = at; scope = Some name; name = other }, drop 2 ts))
    else Some (record { at = at; scope = None; name = name }, ts)

-- `.size` where it follows
unfoldable pub sized : Place → Expr → Tokens → Read Expr
sized at x ts = if is_some (dotted is_size ts) then Some (e.Size at x, past_parens (drop 2 ts)) else Some (x, ts)

-- more of a list, after these, by what reads an item
unfoldable pub more_of : {A : Type 0} → Separator → (Tokens → Read A) → ℕ → List A → Tokens → Read (List A)
more_of by item zero found ts = None
more_of by item (suc f) found ts =
    if separates by (first ts) then (do
      (x, us) ← item (drop 1 ts)
      more_of by item f (found ++ x ∷ []) us)
    else Some (found, ts)

-- a list
unfoldable pub list_of : {A : Type 0} → Separator → (Tokens → Read A) → Tokens → Read (List A)
list_of by item ts = do
  (x, us) ← item ts
  more_of by item (length us + 1) (x ∷ []) us

pub record Readers : Type 0 where
  pub whole : Tokens → Read Expr
  pub operand : Tokens → Read Expr

abbrev pub nothing : Readers
nothing = record { whole = λ ts. None; operand = λ ts. None }

-- an expression so far, its operators, and what follows
abbrev pub Part : Type 0
Part = Option (Expr × ℕ × Tokens)

-- with what reads one level deeper
module _ (limit : ℕ) (r : Readers) where
  -- a list of expressions
  abbrev pub several : Tokens → Read (List Expr)
  several ts = list_of sep.Comma r.whole ts

  -- an item of a pattern, with a key where the Bool holds
  unfoldable pub entry : Bool → Tokens → Read (Option Key × Expr)
  entry false ts = do
    (x, us) ← r.whole ts
    Some ((None, x), us)
  entry true ts = do
    key ← key_first ts
    (x, us) ← r.whole (drop 2 ts)
    Some ((Some key, x), us)

  -- the items of a pattern
  abbrev pub items : Bool → Tokens → Read (List (Option Key × Expr))
  items keyed ts = list_of sep.Comma (entry keyed) ts

  -- what stands after the colon of a part, or the mark of an indexed part
  unfoldable pub closing : (Expr → Expr) → Tokens → Read Expr
  closing tree ts = do
    (z, us) ← r.whole ts
    vs ← expect m.RightBracket us
    Some (tree z, vs)

  unfoldable pub direction : Place → Expr → Expr → Option Bool → Tokens → Read Expr
  direction at x y None ts = None
  direction at x y (Some up) ts = closing (λ z. e.Indexed at x y z up) ts

  abbrev pub index_by : TokenKind → Place → Expr → Expr → Tokens → Read Expr
  index_by (k.Mark m.RightBracket) at x y ts = Some (e.Item at x y, ts)
  index_by (k.Mark m.Colon) at x y ts = closing (λ z. e.Part at x y z) ts
  index_by (k.Mark m) at x y ts = direction at x y (upward m) ts
  index_by _ at x y ts = None

  -- a select after its opening bracket
  unfoldable pub index : Place → Expr → Tokens → Read Expr
  index at x ts = do
    (y, us) ← r.whole ts
    index_by (first us) at x y (drop 1 us)

  -- one select where one stands first, and whether it does
  unfoldable pub select : Bool → Place → Expr → Tokens → Option (Bool × Expr × Tokens)
  select free at x ts =
      if is_at m.LeftBracket ts then (do
        (y, us) ← index at x (drop 1 ts)
        Some (true, y, us))
      else either (dotted (is_member free) ts) (Some (false, x, ts)) (λ name. Some (true, e.Member at x (start (drop 1 ts)) name, drop 2 ts))

  unfoldable pub selects : Bool → ℕ → Place → Expr → Tokens → Read Expr
  selects free zero at x ts = None
  selects free (suc f) at x ts =
      if is_at m.LeftBracket ts then (do
        (y, us) ← index at x (drop 1 ts)
        selects free f at y us)
      else either (dotted (is_member free) ts) (Some (x, ts)) (λ name. selects free f at (e.Member at x (start (drop 1 ts)) name) (drop 2 ts))

  unfoldable pub bracketed : Tokens → Read Expr
  bracketed ts = do
    (x, us) ← r.whole ts
    vs ← expect m.RightParen us
    Some (x, vs)

  unfoldable pub call : Place → Path → Tokens → Read Expr
  call at path ts =
      if is_at m.RightParen ts then Some (e.Call at path [], drop 1 ts) else (do
        (xs, us) ← several ts
        vs ← expect m.RightParen us
        Some (e.Call at path xs, vs))

  -- a repetition after its count and its second brace
  unfoldable pub repetition : Place → Expr → Tokens → Read Expr
  repetition at x ts = do
    (xs, us) ← several ts
    vs ← expect m.RightBrace us
    ws ← expect m.RightBrace vs
    Some (e.Repeat at x xs, ws)

  unfoldable pub concat : Place → Expr → Tokens → Read Expr
  concat at x ts = do
    (xs, us) ← more_of sep.Comma r.whole (length ts + 1) (x ∷ []) ts
    vs ← expect m.RightBrace us
    Some (e.Concat at xs, vs)

  unfoldable pub braced : Place → Tokens → Read Expr
  braced at ts = do
    (x, us) ← r.whole ts
    if is_at m.LeftBrace us then repetition at x (drop 1 us) else concat at x us

  unfoldable pub pattern_of : Place → Tokens → Read Expr
  pattern_of at ts = do
    (xs, us) ← items (is_some (key_first ts)) ts
    vs ← expect m.RightBrace us
    Some (e.Pattern at xs, vs)

  unfoldable pub prefixed : Place → Option Unary → Tokens → Read Expr
  prefixed at None ts = None
  prefixed at (Some op) ts = do
    (x, us) ← r.operand ts
    Some (e.Unary at op x, us)

  unfoldable pub system : Place → Option System → Tokens → Read Expr
  system at None ts = None
  system at (Some Time) ts = Some (e.Time at, ts)
  system at (Some (Sign to)) ts = do
    us ← expect m.LeftParen ts
    (x, vs) ← r.whole us
    ws ← expect m.RightParen vs
    Some (e.Sign at to x, ws)

  -- a left side whose reference was taken
  unfoldable pub left : Place → Path → Tokens → Read Expr
  left at path ts = do
    (x, us) ← selects false (suc limit) at (e.Read at path) ts
    sized at x us

  unfoldable pub named : Place → List ℕ → Tokens → Read Expr
  named at name ts = do
    (path, us) ← reference at name ts
    if is_at m.LeftParen us then call at path (drop 1 us) else left at path us

  abbrev pub operand_by : TokenKind → Place → Tokens → Read Expr
  operand_by (k.Number v) at ts = Some (e.Literal at v, ts)
  operand_by (k.Name name) at ts = named at name ts
  operand_by (k.System name) at ts = system at (system_of name) ts
  operand_by (k.Mark m.LeftParen) at ts = bracketed ts
  operand_by (k.Mark m.LeftBrace) at ts = braced at ts
  operand_by (k.Mark m.TickBrace) at ts = pattern_of at ts
  operand_by (k.Mark m) at ts = prefixed at (unary_of m) ts
  operand_by _ at ts = None

  unfoldable pub operand : Tokens → Read Expr
  operand ts = operand_by (first ts) (start ts) (drop 1 ts)

  unfoldable pub more : (Tokens → Part) → ℕ → ℕ → Place → Expr → ℕ → Tokens → Part
  more next h zero at x n ts = None
  more next h (suc f) at x n ts =
      either (binary_first h ts) (Some (x, n, ts)) (λ op. do
        (y, o, us) ← next (drop 1 ts)
        if nat_lt (n + o) limit then more next h f at (e.Binary at op x y) (n + o + 1) us else None)

  unfoldable pub chain : ℕ → Tokens → Part
  chain zero ts = do
    (x, us) ← operand ts
    Some (x, 0, us)
  chain (suc h) ts = do
    (x, n, us) ← chain h ts
    more (chain h) (suc h) (suc limit) (start ts) x n us

  unfoldable pub choose : Place → Expr → Tokens → Read Expr
  choose at x ts = do
    (y, us) ← r.whole ts
    vs ← expect m.Colon us
    (z, ws) ← r.whole vs
    Some (e.Choose at x y z, ws)

  unfoldable pub whole : Tokens → Read Expr
  whole ts = do
    (x, n, us) ← chain 10 ts
    if is_at m.Question us then choose (start ts) x (drop 1 us) else Some (x, us)

-- with at most so many open nodes less one
unfoldable pub below : ℕ → ℕ → Readers
below limit zero = nothing
below limit (suc d) = record { whole = whole limit (below limit d); operand = operand limit (below limit d) }

-- an operand, or a whole expression, with fewer open nodes
abbrev pub inner : ℕ → ℕ → Bool → Tokens → Read Expr
inner limit d true ts = (below limit d).operand ts
inner limit d false ts = (below limit d).whole ts
