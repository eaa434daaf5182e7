-- The readers find an expression or a statement exactly where there is one, and its places.
use Rattle.std.proofs.Common.{◌≡◌, ℕ, suc, true, false, Bool, Some, [], ◌∷◌, refl, sym, ap, ◌∙◌, subst, arith}
use Rattle.nt_ast.specs.declared.expr.Expr.{Expr}
use Rattle.nt_ast.specs.declared.stmt.Stmt.{Stmt}
use Rattle.nt_lexer.specs.declared.kinds.Mark.TheVariants as m
use Rattle.nt_lexer.specs.declared.kinds.Word.TheVariants as w
use Rattle.nt_lexer.specs.declared.kinds.TokenKind.{TokenKind}
use Rattle.nt_read_expr.specs.Tables.{Tokens, stop_first}
use Rattle.nt_lexer.specs.Laws.{Ascending}
use Rattle.nt_read_expr.specs.Places.{PlacedIn}
use Rattle.nt_read_expr.specs.Reader.{below, whole, is_kind, is_at}
use Rattle.nt_read_expr.proofs.Basics.{bind_some, some_is, if_some}
use Rattle.nt_read_expr.proofs.Follows.{stop_follow, kind_is, false_of}
use Rattle.nt_read_expr.proofs.Complete.{expression_complete}
use Rattle.nt_read_expr.proofs.Sound.{expression_sound}
use Rattle.nt_read_expr.proofs.Places.{expression_placed, front_of}
use Rattle.nt_read_stmt.specs.Tables.{ends_statement, statement_stop}
use Rattle.nt_read_stmt.specs.Places.{StatementPlacedIn}
use Rattle.nt_read_stmt.specs.Reader as stmt
use Rattle.nt_read_stmt.specs.Reader.{is_word_kind, is_word, inside}
use Rattle.nt_read_stmt.proofs.Firsts.{word_is}
use Rattle.nt_read_stmt.proofs.Complete.{Fit, statement_complete}
use Rattle.nt_read_stmt.proofs.Whole.{whole_sound}
use Rattle.nt_read_stmt.proofs.Places.{statement_placed}
use Rattle.nt_parse_expr.specs.Readings.{Derives, read_expression, OneReading, EachPlace, StatementDerives, read_statement, OneStatement, EachStatementPlace}
use Rattle.nt_parse_expr.proofs.AtCursor.{Exact, one_at_most}

-- ---- expressions

read_complete : (limit : ℕ) (ts after : Tokens) (x : Expr) → Derives limit ts x after → read_expression limit ts ≡ Some (x, after)
unfolding read_expression
read_complete limit ts after x d =
    let e : whole limit (below limit limit) ts ≡ Some (x, after) = ap (whole limit (below limit limit)) d.split ∙ expression_complete limit d.derives after (stop_follow after d.stop) in
    rw (e, d.stop) refl

read_sound : (limit : ℕ) (ts after : Tokens) (x : Expr) → read_expression limit ts ≡ Some (x, after) → Derives limit ts x after
unfolding read_expression
read_sound limit ts after x e =
    let a = bind_some (whole limit (below limit limit) ts) _ _ e in
    let c = if_some (stop_first a.0.1) _ _ a.2 in
    let p : (a.0.0, a.0.1) ≡ (x, after) = some_is _ _ c.1 in
    let w = expression_sound limit limit ts a.0.1 a.0.0 a.1 in
    subst (λ (q : Expr × Tokens). Derives limit ts q.0 q.1) p (record { front = w.front; split = w.split; derives = w.derives; stop = c.0 })

pub expressions_exact : (limit : ℕ) → Exact (read_expression limit) (Derives limit)
expressions_exact limit = record { sound = read_sound limit; complete = read_complete limit; front = λ ts after x d. d.front; split = λ ts after x d. d.split }

pub one_only : OneReading
one_only limit = one_at_most (read_expression limit) (Derives limit) (expressions_exact limit)

pub each_place : EachPlace
each_place limit file i j ts after x d a = expression_placed file limit d.derives (front_of file d.front after (subst (Ascending file i j) d.split a))

pub placed_in : (limit : ℕ) (ts after : Tokens) (x : Expr) (d : Derives limit ts x after) → PlacedIn ((expressions_exact limit).front ts after x d) x
unfolding expressions_exact
placed_in limit ts after x d = λ file i j a. expression_placed file limit d.derives a

-- ---- statements

stop_kind : (kind : TokenKind) → ends_statement kind ≡ true → (is_word_kind w.Else kind ≡ false) × (is_kind m.Colon kind ≡ false)
stop_kind kind e = (
  false_of (is_word_kind w.Else kind) (λ f. let bad : true ≡ false = sym e ∙ ap ends_statement (word_is w.Else kind f) in absurd cc),
  false_of (is_kind m.Colon kind) (λ f. let bad : true ≡ false = sym e ∙ ap ends_statement (kind_is m.Colon kind f) in absurd cc),
)

stop_fit : (o : Bool) (ts : Tokens) → statement_stop ts ≡ true → Fit o ts
unfolding is_word is_at
stop_fit o [] e = absurd cc
stop_fit o (t ∷ ts) e = let p = stop_kind t.kind e in record { shut = λ _. p.0; colon = p.1 }

statement_read : (limit : ℕ) (ts after : Tokens) (x : Stmt) → StatementDerives limit ts x after → read_statement limit ts ≡ Some (x, after)
unfolding read_statement
statement_read limit ts after x d =
    let e : stmt.statement limit limit (inside limit limit) (suc limit) ts ≡ Some (x, after) =
    ap (stmt.statement limit limit (inside limit limit) (suc limit)) d.split ∙ statement_complete limit d.derives (suc limit) after (omega (arith, d.few)) (stop_fit d.open_end after d.stop) in
    rw (e, d.stop) refl

statement_found : (limit : ℕ) (ts after : Tokens) (x : Stmt) → read_statement limit ts ≡ Some (x, after) → StatementDerives limit ts x after
unfolding read_statement
statement_found limit ts after x e =
    let a = bind_some (stmt.statement limit limit (inside limit limit) (suc limit) ts) _ _ e in
    let c = if_some (statement_stop a.0.1) _ _ a.2 in
    let p : (a.0.0, a.0.1) ≡ (x, after) = some_is _ _ c.1 in
    let i = whole_sound limit limit ts a.0.1 a.0.0 a.1 in
    subst (λ (q : Stmt × Tokens). StatementDerives limit ts q.0 q.1) p
    (record { open_end = i.open_end; links = i.links; few = i.few; front = i.front; split = i.split; derives = i.derives; stop = c.0 })

pub statements_exact : (limit : ℕ) → Exact (read_statement limit) (StatementDerives limit)
statements_exact limit = record { sound = statement_found limit; complete = statement_read limit; front = λ ts after x d. d.front; split = λ ts after x d. d.split }

pub one_statement : OneStatement
one_statement limit = one_at_most (read_statement limit) (StatementDerives limit) (statements_exact limit)

pub each_statement_place : EachStatementPlace
each_statement_place limit file i j ts after x d a = statement_placed file limit d.derives (front_of file d.front after (subst (Ascending file i j) d.split a))

pub statement_placed_in : (limit : ℕ) (ts after : Tokens) (x : Stmt) (d : StatementDerives limit ts x after) → StatementPlacedIn ((statements_exact limit).front ts after x d) x
unfolding statements_exact
statement_placed_in limit ts after x d = λ file i j a. statement_placed file limit d.derives a
