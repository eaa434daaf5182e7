-- The same statements, as a function that reads tokens from the left, with one token of look-ahead. The functions of src/ equal
-- these.
use Rattle.std.specs.Prelude.{ℕ, zero, suc, ◌+◌, Bool, true, false, ◌==◌, if◌then◌else◌, List, [], ◌∷◌, ◌++◌, length, drop, Option, Some, None}
use Rattle.nt_value.specs.declared.place.Place.{Place}
use Rattle.nt_value.specs.declared.operator.Binary.{Binary}
use Rattle.nt_value.specs.declared.kind.Edge.{Edge}
use Rattle.nt_value.specs.declared.kind.Edge.TheVariants.{Any}
use Rattle.nt_ast.specs.declared.path.Path.{Path}
use Rattle.nt_ast.specs.declared.expr.Expr.{Expr}
use Rattle.nt_ast.specs.declared.expr.Expr.TheVariants as e
use Rattle.nt_ast.specs.declared.stmt.Stmt.{Stmt}
use Rattle.nt_ast.specs.declared.stmt.Stmt.TheVariants as s
use denote.Enum.Bare.{sameb}
use Rattle.nt_lexer.specs.Numbers.{decimal_literal}
use Rattle.nt_lexer.specs.contracts.kinds.Word.{the_type}
use Rattle.nt_lexer.specs.declared.kinds.Mark.{Mark}
use Rattle.nt_lexer.specs.declared.kinds.Mark.TheVariants as m
use Rattle.nt_lexer.specs.declared.kinds.Word.{Word}
use Rattle.nt_lexer.specs.declared.kinds.Word.TheVariants as w
use Rattle.nt_lexer.specs.declared.kinds.TokenKind.{TokenKind}
use Rattle.nt_lexer.specs.declared.kinds.TokenKind.TheVariants as k
use Rattle.nt_read_stmt.specs.declared.lead.Lead.{Lead}
use Rattle.nt_read_stmt.specs.declared.lead.Lead.TheVariants as l
use Rattle.nt_read_stmt.specs.declared.front.Form.{Form}
use Rattle.nt_read_stmt.specs.declared.front.Form.TheVariants as form
use Rattle.nt_read_stmt.specs.declared.front.Task.{Task}
use Rattle.nt_read_stmt.specs.declared.front.Task.TheVariants.{Display, Finish}
use Rattle.nt_read_stmt.specs.declared.build.Link.{Link}
use Rattle.nt_read_stmt.specs.declared.statements.Piece.{Piece}
use Rattle.nt_read_stmt.specs.declared.statements.Piece.TheVariants as pieces
use Rattle.nt_read_expr.specs.declared.list.Separator.TheVariants.{Comma, CommaOrWord}
use Rattle.nt_read_expr.specs.Tables.{Tokens, start}
use Rattle.nt_read_stmt.specs.Tables.{compound_of, step_of, edge_of, task_of, form_of, with_body, plain_path}
use Rattle.nt_read_expr.specs.Reader.{Read, ◌>>=◌, either, first, is_at, expect, name_first, reference, below, whole, several, more_of, list_of, selects, is_some}

-- `==` on words
abbrev pub same_word : Word → Word → Bool
same_word = sameb the_type

abbrev pub is_word_kind : Word → TokenKind → Bool
is_word_kind w (k.Word v) = same_word v w
is_word_kind w _ = false

-- whether the first token is this word
unfoldable pub is_word : Word → Tokens → Bool
is_word w ts = is_word_kind w (first ts)

-- what follows this word, where it stands first
unfoldable pub expect_word : Word → Tokens → Option Tokens
expect_word w ts = if is_word w ts then Some (drop 1 ts) else None

-- the name that stands first, and what follows
unfoldable pub take_name : Tokens → Read (List ℕ)
take_name ts = do
  name ← name_first ts
  Some (name, drop 1 ts)

-- past a label
unfoldable pub past_label : Tokens → Option Tokens
past_label ts = if is_at m.Colon ts then (if is_some (name_first (drop 1 ts)) then Some (drop 2 ts) else None) else Some ts

abbrev pub text_kind : TokenKind → Option (List ℕ)
text_kind (k.Text text) = Some text
text_kind _ = None

abbrev pub is_number_kind : TokenKind → Bool
is_number_kind (k.Number v) = true
is_number_kind _ = false

-- past the brackets of `$finish` and a number in them
unfoldable pub past_number : Tokens → Tokens
past_number ts = if is_number_kind (first ts) then drop 1 ts else ts

-- a name as a tree
abbrev pub plain_read : Place → List ℕ → Expr
plain_read at name = e.Read at (plain_path at name)

-- what ends at a semicolon
unfoldable pub closed : Stmt → Tokens → Read Stmt
closed x ts = do
  us ← expect m.Semicolon ts
  Some (x, us)

-- `$display` with nothing to print
abbrev pub blank_line : Place → Stmt
blank_line at = s.Display at [] []

unfoldable pub finish : Place → Tokens → Read Stmt
finish at ts =
    if is_at m.LeftParen ts then (do
      us ← expect m.RightParen (past_number (drop 1 ts))
      closed (s.Finish at) us)
    else closed (s.Finish at) ts

unfoldable pub foreach : Tokens → Read Lead
foreach ts = do
  us ← expect m.LeftParen ts
  (array, vs) ← take_name us
  ws ← expect m.LeftBracket vs
  (index, xs) ← take_name ws
  ys ← expect m.RightBracket xs
  zs ← expect m.RightParen ys
  Some (l.Foreach (start us) array (start ws) index, zs)

-- past `int`
unfoldable pub past_int : Tokens → Tokens
past_int ts = if is_word w.Int ts then drop 1 ts else ts

-- whether an arm begins here
abbrev pub arm_first : Tokens → Bool
arm_first ts = if is_word w.Default ts then false else (if is_word w.EndCase ts then false else true)

-- past a colon
unfoldable pub past_colon : Tokens → Tokens
past_colon ts = if is_at m.Colon ts then drop 1 ts else ts

-- of a statement with at most so many open nodes
module _ (limit d : ℕ) where
  -- an expression in brackets
  unfoldable pub tested : Tokens → Read Expr
  tested ts = do
    us ← expect m.LeftParen ts
    (x, vs) ← whole limit (below limit d) us
    ws ← expect m.RightParen vs
    Some (x, ws)

  unfoldable pub compound : Place → Expr → Option Binary → Tokens → Read Expr
  compound at x None ts = None
  compound at x (Some op) ts = do
    us ← expect m.Assign ts
    (y, vs) ← whole limit (below limit d) us
    Some (e.Binary at op x y, vs)

  unfoldable pub stepped : Place → Expr → Mark → Place → Tokens → Read Expr
  stepped at x mark place ts =
      either (step_of mark) (compound at x (compound_of mark) ts) (λ op. Some (e.Binary at op x (e.Literal place (decimal_literal 1)), ts))

  abbrev pub value_by : TokenKind → Place → Expr → Place → Tokens → Read Expr
  value_by (k.Mark m.Assign) at x place ts = whole limit (below limit d) ts
  value_by (k.Mark mark) at x place ts = stepped at x mark place ts
  value_by _ at x place ts = None

  -- what the left side x, which stands at a place, gets
  unfoldable pub value : Place → Expr → Tokens → Read Expr
  value at x ts = value_by (first ts) at x (start ts) (drop 1 ts)

  -- ---- statements that have none inside

  unfoldable pub nonblocking : Place → Expr → Tokens → Read Stmt
  nonblocking at x ts = do
    (y, us) ← whole limit (below limit d) ts
    closed (s.Nonblocking at x y) us

  unfoldable pub blocking : Place → Expr → Tokens → Read Stmt
  blocking at x ts = do
    (y, us) ← value at x ts
    closed (s.Assign at x y) us

  unfoldable pub assignment : Place → Path → Tokens → Read Stmt
  assignment at path ts = do
    (x, us) ← selects limit (below limit d) true (suc limit) at (e.Read at path) ts
    if is_at m.LessEqual us then nonblocking at x (drop 1 us) else blocking at x us

  unfoldable pub call_of : Place → Path → Tokens → Read Stmt
  call_of at path ts = do
    (xs, us) ← several limit (below limit d) ts
    vs ← expect m.RightParen us
    closed (s.Call at path xs) vs

  unfoldable pub call : Place → Path → Tokens → Read Stmt
  call at path ts = if is_at m.RightParen ts then closed (s.Call at path []) (drop 1 ts) else call_of at path ts

  unfoldable pub named : Place → List ℕ → Tokens → Read Stmt
  named at name ts = do
    (path, us) ← reference at name ts
    if is_at m.LeftParen us then call at path (drop 1 us) else assignment at path us

  unfoldable pub returned : Place → Tokens → Read Stmt
  returned at ts =
      if is_at m.Semicolon ts then Some (s.Return at None, drop 1 ts) else (do
        (x, us) ← whole limit (below limit d) ts
        closed (s.Return at (Some x)) us)

  unfoldable pub display_of : Place → Tokens → Read Stmt
  display_of at ts =
      if d == 0 then None else (do
        text ← text_kind (first ts)
        (xs, us) ← more_of Comma (below limit d).whole (length (drop 1 ts) + 1) [] (drop 1 ts)
        vs ← expect m.RightParen us
        closed (s.Display at text xs) vs)

  unfoldable pub display_in : Place → Tokens → Read Stmt
  display_in at ts = if is_at m.RightParen ts then closed (blank_line at) (drop 1 ts) else display_of at ts

  unfoldable pub display : Place → Tokens → Read Stmt
  display at ts = if is_at m.LeftParen ts then display_in at (drop 1 ts) else closed (blank_line at) ts

  unfoldable pub task : Place → Option Task → Tokens → Read Stmt
  task at None ts = None
  task at (Some Display) ts = display at ts
  task at (Some Finish) ts = finish at ts

  abbrev pub simple_by : TokenKind → Place → Tokens → Read Stmt
  simple_by (k.Mark m.Semicolon) at ts = Some (s.Null at, ts)
  simple_by (k.Word w.Return) at ts = returned at ts
  simple_by (k.Word w.Break) at ts = closed (s.Break at) ts
  simple_by (k.Word w.Continue) at ts = closed (s.Continue at) ts
  simple_by (k.Name name) at ts = named at name ts
  simple_by (k.System name) at ts = task at (task_of name) ts
  simple_by _ at ts = None

  unfoldable pub simple : Tokens → Read Stmt
  simple ts = simple_by (first ts) (start ts) (drop 1 ts)

  -- ---- what stands before the one statement inside

  unfoldable pub entering : Tokens → Option (List ℕ × Expr × Tokens)
  entering ts = do
    (name, us) ← take_name ts
    vs ← expect m.Assign us
    (x, ws) ← whole limit (below limit d) vs
    zs ← expect m.Semicolon ws
    Some (name, x, zs)

  unfoldable pub step : Tokens → Read Stmt
  step ts = do
    (name, us) ← take_name ts
    (y, vs) ← value (start ts) (plain_read (start ts) name) us
    Some (s.Assign (start ts) (plain_read (start ts) name) y, vs)

  unfoldable pub stepping : Bool → Place → List ℕ → Expr → Tokens → Read Lead
  stepping fresh p name x ts = do
    (y, us) ← whole limit (below limit d) ts
    vs ← expect m.Semicolon us
    (z, ws) ← step vs
    zs ← expect m.RightParen ws
    Some (l.For fresh p name x y z, zs)

  unfoldable pub for_lead : Tokens → Read Lead
  for_lead ts = do
    us ← expect m.LeftParen ts
    (name, x, vs) ← entering (past_int us)
    stepping (is_word w.Int us) (start (past_int us)) name x vs

  abbrev pub delay_by : TokenKind → Place → Tokens → Tokens → Read Lead
  delay_by (k.Number v) at ts us = Some (l.Delay (e.Literal at v), us)
  delay_by (k.Name name) at ts us = do
    (path, vs) ← reference at name us
    Some (l.Delay (e.Read at path), vs)
  delay_by _ at ts us = do
    (x, vs) ← tested ts
    Some (l.Delay x, vs)

  unfoldable pub delay : Tokens → Read Lead
  delay ts = delay_by (first ts) (start ts) ts (drop 1 ts)

  unfoldable pub event : Tokens → Read (Edge × Expr)
  event ts =
      either (edge_of (first ts))
      (do
        (x, us) ← whole limit (below limit d) ts
        Some ((Any, x), us))
      (λ edge. do
        (x, us) ← whole limit (below limit d) (drop 1 ts)
        Some ((edge, x), us))

  unfoldable pub events : Tokens → Read Lead
  events ts = do
    (xs, us) ← list_of CommaOrWord event ts
    vs ← expect m.RightParen us
    Some (l.Event false xs, vs)

  unfoldable pub event_in : Tokens → Read Lead
  event_in ts =
      if is_at m.Star ts then (do
        us ← expect m.RightParen (drop 1 ts)
        Some (l.Event true [], us))
      else events ts

  abbrev pub control_by : TokenKind → Place → Tokens → Read Lead
  control_by (k.Name name) at ts = Some (l.Event false ((Any, plain_read at name) ∷ []), ts)
  control_by (k.Mark m.Star) at ts = Some (l.Event true [], ts)
  control_by (k.Mark m.LeftParen) at ts = event_in ts
  control_by _ at ts = None

  unfoldable pub control : Tokens → Read Lead
  control ts = control_by (first ts) (start ts) (drop 1 ts)

  abbrev pub lead_by : TokenKind → Tokens → Read Lead
  lead_by (k.Word w.While) ts = do
    (x, us) ← tested ts
    Some (l.While x, us)
  lead_by (k.Word w.Repeat) ts = do
    (x, us) ← tested ts
    Some (l.Repeat x, us)
  lead_by (k.Word w.Wait) ts = do
    (x, us) ← tested ts
    Some (l.Wait x, us)
  lead_by (k.Word w.Forever) ts = Some (l.Forever, ts)
  lead_by (k.Word w.Foreach) ts = foreach ts
  lead_by (k.Word w.For) ts = for_lead ts
  lead_by (k.Mark m.Hash) ts = delay ts
  lead_by (k.Mark m.At) ts = control ts
  lead_by _ ts = None

  unfoldable pub lead : Tokens → Read Lead
  lead ts = lead_by (first ts) (drop 1 ts)

  -- the values of an arm
  abbrev pub values : Tokens → Read (List Expr)
  values ts = list_of Comma (whole limit (below limit d)) ts

  -- with what reads a statement one level deeper
  module _ (inner : Tokens → Read Stmt) where
    unfoldable pub led : Tokens → Read Stmt
    led ts = do
      (lead, us) ← lead ts
      (x, vs) ← inner us
      Some (with_body (start ts) lead x, vs)

    -- the statements of a block, up to its `end`
    unfoldable pub statements : ℕ → List Stmt → Tokens → Read (List Stmt)
    statements zero found ts = None
    statements (suc f) found ts =
        if is_word w.End ts then Some (found, drop 1 ts) else (do
          (x, us) ← inner ts
          statements f (found ++ x ∷ []) us)

    unfoldable pub block : Place → Tokens → Read Stmt
    block at ts = do
      us ← past_label ts
      (xs, vs) ← statements (length us + 1) [] us
      ws ← past_label vs
      Some (s.Block at xs, ws)

    unfoldable pub arm : Tokens → Read (List Expr × Stmt)
    arm ts = do
      (xs, us) ← values ts
      vs ← expect m.Colon us
      (y, ws) ← inner vs
      Some ((xs, y), ws)

    unfoldable pub arms : ℕ → List (List Expr × Stmt) → Tokens → Read (List (List Expr × Stmt))
    arms zero found ts = None
    arms (suc f) found ts =
        if arm_first ts then (do
          (x, us) ← arm ts
          arms f (found ++ x ∷ []) us)
        else Some (found, ts)

    unfoldable pub default : Tokens → Read (Option Stmt)
    default ts =
        if is_word w.Default ts then (do
          (x, us) ← inner (past_colon (drop 1 ts))
          Some (Some x, us))
        else Some (None, ts)

    unfoldable pub case_of : Place → Tokens → Read Stmt
    case_of at ts = do
      (x, us) ← tested ts
      (ys, vs) ← arms (length us + 1) [] us
      (other, ws) ← default vs
      zs ← expect_word w.EndCase ws
      Some (s.Case at x ys other, zs)

    -- what may follow the statement of an `if`
    unfoldable pub otherwise : (Tokens → Read Stmt) → Place → Expr → Stmt → Tokens → Read Stmt
    otherwise next at x y ts =
        if is_word w.Else ts then (do
          (z, us) ← next (drop 1 ts)
          Some (s.If at x y (Some z), us))
        else Some (s.If at x y None, ts)

    unfoldable pub choice : (Tokens → Read Stmt) → Place → Tokens → Read Stmt
    choice next at ts = do
      (x, us) ← tested ts
      (y, vs) ← inner us
      otherwise next at x y vs

    abbrev pub by_form : (Tokens → Read Stmt) → Form → Tokens → Read Stmt
    by_form next form.Choice ts = choice next (start ts) (drop 1 ts)
    by_form next form.Block ts = block (start ts) (drop 1 ts)
    by_form next form.Case ts = case_of (start ts) (drop 1 ts)
    by_form next form.Led ts = led ts
    by_form next form.Simple ts = simple ts

    -- with at most so many `else` in its chain, less one
    unfoldable pub statement : ℕ → Tokens → Read Stmt
    statement zero ts = None
    statement (suc f) ts = by_form (statement f) (form_of (first ts)) ts

    -- an `if` up to an `else` that follows its statement, or whole
    unfoldable pub choice_turn : Place → Tokens → Read Piece
    choice_turn at ts = do
      (x, us) ← tested ts
      (y, vs) ← inner us
      if is_word w.Else vs then Some (pieces.Goes (record { at = at; test = x; yes = y }), drop 1 vs) else Some (pieces.Ends (s.If at x y None), vs)

    abbrev pub ending : Read Stmt → Read Piece
    ending read = do
      (x, us) ← read
      Some (pieces.Ends x, us)

    abbrev pub turn_by : Form → Tokens → Read Piece
    turn_by form.Choice ts = choice_turn (start ts) (drop 1 ts)
    turn_by form.Block ts = ending (block (start ts) (drop 1 ts))
    turn_by form.Case ts = ending (case_of (start ts) (drop 1 ts))
    turn_by form.Led ts = ending (led ts)
    turn_by form.Simple ts = ending (simple ts)

    -- a statement up to the first `else` of its chain, or whole
    unfoldable pub turn : Tokens → Read Piece
    turn ts = turn_by (form_of (first ts)) ts

-- the chain of `else` with these links and this end
abbrev pub linked : List Link → Stmt → Stmt
linked [] x = x
linked (link ∷ links) x = s.If link.at link.test link.yes (Some (linked links x))

-- a statement inside a statement that has at most so many open nodes
unfoldable pub inside : ℕ → ℕ → Tokens → Read Stmt
inside limit zero = λ ts. None
inside limit (suc d) = statement limit d (inside limit d) (suc limit)
