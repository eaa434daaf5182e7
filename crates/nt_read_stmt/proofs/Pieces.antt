-- What the grammar derives is read: statements that have none inside, and what stands before the one inside.
use Rattle.std.proofs.Common.{◌≡◌, ℕ, zero, suc, ◌+◌, ◌<◌, ◌≤◌, Bool, true, false, List, [], ◌∷◌, ◌++◌, length, drop, Option, Some, None, refl, sym, ap, ◌∙◌, arith, append_assoc, append-nil, if◌then◌else◌}
use Rattle.std.proofs.lemmas.Bool.{ne_eqb}
use Rattle.nt_value.specs.declared.place.Place.{Place}
use Rattle.nt_value.specs.declared.literal.Literal.{Literal}
use Rattle.nt_value.specs.declared.operator.Binary.{Binary}
use Rattle.nt_value.specs.declared.kind.Edge.{Edge}
use Rattle.nt_ast.specs.declared.path.Path.{Path}
use Rattle.nt_ast.specs.declared.expr.Expr.{Expr}
use Rattle.nt_ast.specs.declared.expr.Expr.TheVariants as e
use Rattle.nt_ast.specs.declared.stmt.Stmt.{Stmt}
use Rattle.nt_ast.specs.declared.stmt.Stmt.TheVariants as s
use Rattle.nt_lexer.specs.Numbers.{decimal_literal}
use Rattle.nt_lexer.specs.declared.kinds.Mark.{Mark}
use Rattle.nt_lexer.specs.declared.kinds.Mark.TheVariants as m
use Rattle.nt_lexer.specs.declared.kinds.Word.TheVariants as w
use Rattle.nt_lexer.specs.declared.kinds.TokenKind.{TokenKind}
use Rattle.nt_lexer.specs.declared.kinds.TokenKind.TheVariants as k
use Rattle.nt_lexer.specs.declared.kinds.Token.{Token}
use Rattle.nt_read_stmt.specs.declared.lead.Lead.{Lead}
use Rattle.nt_read_stmt.specs.declared.lead.Lead.TheVariants as l
use Rattle.nt_read_stmt.specs.declared.front.Task.TheVariants.{Display, Finish}
use Rattle.nt_read_expr.specs.declared.list.Separator.TheVariants.{Comma, CommaOrWord}
use Rattle.nt_read_expr.specs.Tables.{Tokens, start, separates}
use Rattle.nt_read_expr.specs.Lists.{ListOf, listed}
use Rattle.nt_read_stmt.specs.Tables.{compound_of, step_of, edge_of, task_of}
use Rattle.nt_read_expr.specs.Derivation.{Reference, alone, scoped, Left}
use Rattle.nt_read_stmt.specs.Statements.{Label, unlabelled, labelled, Tested, tested, Value, given, compound, stepped, Simple, null, assign, nonblocking, called, called_none, return_none, return_of, break, continue, display_none, display_empty, display_of, finish_none, finish_empty, finish_of, Entering, standing, declared, Step, step, Event, any, edged, Leads, while_of, repeat_of, wait_of, forever_of, foreach_of, for_of, delay_number, delay_name, delay_of, event_name, event_of, event_any, event_any_in}
use Rattle.nt_read_expr.specs.Reader as x
use Rattle.nt_read_expr.specs.Reader.{Read, ◌>>=◌, Readers, below, first, is_kind, is_at, expect, name_first, is_some}
use Rattle.nt_read_stmt.specs.Reader as r
use Rattle.nt_read_stmt.specs.Reader.{is_word, expect_word, take_name, past_label, past_number, past_int, plain_read}
use Rattle.nt_read_expr.proofs.Follows.{Follow, reach, reach_kind, at_mark, at_other, not_at, expect_mark, follow_mark, name_some, same_marks, false_of, dotted_none}
use Rattle.nt_read_expr.proofs.Begins.{several_begins}
use Rattle.nt_read_expr.proofs.Lists.{Reads, list_complete}
use Rattle.nt_read_expr.proofs.Complete.{parted, regroup, regroup4, expression_complete, several_complete, others_complete, left_complete, selects_stop, selectable_follow, closes_paren, longer, shorter, no_close}
use Rattle.nt_read_stmt.proofs.Firsts.{at_word, name_no_word, word_no_mark, no_mark, no_edge, opens_expression, expression_opens}

pub regroup5 : (a b c d f : Tokens) → (((a ++ b) ++ c) ++ d) ++ f ≡ a ++ (b ++ (c ++ (d ++ f)))
regroup5 a b c d f = append_assoc ((a ++ b) ++ c) d f ∙ regroup4 a b c (d ++ f)

-- ---- labels and names

pub label_complete : {ts : Tokens} → Label ts → (rest : Tokens) → is_at m.Colon rest ≡ false → past_label (ts ++ rest) ≡ Some rest
unfolding past_label
label_complete unlabelled rest lacks = rw lacks refl
label_complete (labelled {name = name} c t is_c is_t) rest lacks = rw (at_mark m.Colon c (t ∷ rest) is_c, name_some t rest name is_t) refl

name_taken : (t : Token) (name : List ℕ) (rest : Tokens) → t.kind ≡ k.Name name → take_name (t ∷ rest) ≡ Some (name, rest)
unfolding take_name
name_taken t name rest e = rw (name_some t rest name e) refl

closed_at : (y : Stmt) (c : Token) (rest : Tokens) → c.kind ≡ k.Mark m.Semicolon → r.closed y (c ∷ rest) ≡ Some (y, rest)
unfolding r.closed
closed_at y c rest e = rw (expect_mark m.Semicolon c rest e) refl

-- a reference after its first name
reads_reference : {ts : Tokens} {path : Path} → Reference ts path → (rest : Tokens) → is_at m.Scope rest ≡ false
    → (t : Token) × (us : Tokens) × (name : List ℕ) × (ts ≡ t ∷ us) × (t.kind ≡ k.Name name) × (x.reference t.at name (us ++ rest) ≡ Some (path, rest))
unfolding x.reference
reads_reference (alone {name = name} t e) rest lacks = (t, [], name, refl, e, rw lacks refl)
reads_reference (scoped {scope = scope} {name = name} p q t ep eq et) rest lacks =
    (p, q ∷ t ∷ [], scope, refl, ep, rw (at_mark m.Scope q (t ∷ rest) eq, name_some t rest name et) refl)

-- ---- what an assignment gives

value_mark : (limit d : ℕ) (mark : Mark) (op : Binary) (at place : Place) (of : Expr) (ts : Tokens) → compound_of mark ≡ Some op
    → r.value_by limit d (k.Mark mark) at of place ts ≡ r.compound limit d at of (Some op) ts
unfolding r.stepped
value_mark limit d m.Assign op at place of ts e = absurd cc
value_mark limit d m.PlusPlus op at place of ts e = absurd cc
value_mark limit d m.MinusMinus op at place of ts e = absurd cc
value_mark limit d mark op at place of ts e = ap (λ o. r.compound limit d at of o ts) e

value_step : (limit d : ℕ) (mark : Mark) (op : Binary) (at place : Place) (of : Expr) (ts : Tokens) → step_of mark ≡ Some op
    → r.value_by limit d (k.Mark mark) at of place ts ≡ Some (e.Binary at op of (e.Literal place (decimal_literal 1)), ts)
unfolding r.stepped
value_step limit d m.PlusPlus op at place of ts f = cc
value_step limit d m.MinusMinus op at place of ts f = cc
value_step limit d m.Assign op at place of ts f = absurd cc
value_step limit d mark op at place of ts f = absurd cc

reads_compound : (limit d : ℕ) (at : Place) (of y : Expr) (op : Binary) (ts us rest : Tokens) → expect m.Assign ts ≡ Some us → x.whole limit (below limit d) us ≡ Some (y, rest)
    → r.compound limit d at of (Some op) ts ≡ Some (e.Binary at op of y, rest)
unfolding r.compound
reads_compound limit d at of y op ts us rest f g = rw (f, g) refl

module _ (limit : ℕ) where
  pub tested_complete : {d : ℕ} {ts : Tokens} {y : Expr} → Tested limit d ts y → (rest : Tokens) → r.tested limit d (ts ++ rest) ≡ Some (y, rest)
  unfolding r.tested
  tested_complete {d = d} (tested {ts = ts} {x = y} o c is_o inner is_c) rest =
      ap (r.tested limit d) (regroup (o ∷ ts) (c ∷ []) rest)
      ∙ rw (expect_mark m.LeftParen o (ts ++ (c ∷ rest)) is_o, expression_complete limit inner (c ∷ rest) (follow_mark m.RightParen 11 c rest is_c (omega arith)), expect_mark m.RightParen c rest is_c) refl

  value_complete : {d : ℕ} {at : Place} {of y : Expr} {ts : Tokens} → Value limit d at of ts y → (rest : Tokens) → Follow 11 rest → r.value limit d at of (ts ++ rest) ≡ Some (y, rest)
  unfolding r.value
  value_complete {d = d} {at = at} {of = of} (given {ts = ts} t is_t inner) rest fo =
      ap (λ (kind : TokenKind). r.value_by limit d kind at of t.at (ts ++ rest)) is_t ∙ expression_complete limit inner rest fo
  value_complete {d = d} {at = at} {of = of} (compound {y = y} {ts = ts} mark op t q is_t is_op is_q inner) rest fo =
      ap (λ (kind : TokenKind). r.value_by limit d kind at of t.at (q ∷ (ts ++ rest))) is_t ∙ value_mark limit d mark op at t.at of (q ∷ (ts ++ rest)) is_op
      ∙ reads_compound limit d at of y op (q ∷ (ts ++ rest)) (ts ++ rest) rest (expect_mark m.Assign q (ts ++ rest) is_q) (expression_complete limit inner rest fo)
  value_complete {d = d} {at = at} {of = of} (stepped mark op t is_t is_op) rest fo =
      ap (λ (kind : TokenKind). r.value_by limit d kind at of t.at rest) is_t ∙ value_step limit d mark op at t.at of rest is_op

  -- ---- assignments

  compound_far : (mark : Mark) (op : Binary) → compound_of mark ≡ Some op → 0 < reach mark
  compound_far m.Plus op e = omega arith
  compound_far m.Minus op e = omega arith
  compound_far m.Star op e = omega arith
  compound_far m.Slash op e = omega arith
  compound_far m.Percent op e = omega arith
  compound_far m.And op e = omega arith
  compound_far m.Or op e = omega arith
  compound_far m.Xor op e = omega arith
  compound_far m.ShiftLeft op e = omega arith
  compound_far m.ShiftRight op e = omega arith
  compound_far m.ArithmeticRight op e = omega arith
  compound_far _ op e = absurd cc

  step_far : (mark : Mark) (op : Binary) → step_of mark ≡ Some op → 0 < reach mark
  step_far m.PlusPlus op e = omega arith
  step_far m.MinusMinus op e = omega arith
  step_far _ op e = absurd cc

  value_follow : {d : ℕ} {at : Place} {of y : Expr} {ts : Tokens} → Value limit d at of ts y → (rest : Tokens) → Follow 0 (ts ++ rest)
  value_follow (given {ts = ts} t is_t inner) rest = follow_mark m.Assign 0 t (ts ++ rest) is_t (omega arith)
  value_follow (compound {ts = ts} mark op t q is_t is_op is_q inner) rest = follow_mark mark 0 t (q ∷ (ts ++ rest)) is_t (compound_far mark op is_op)
  value_follow (stepped mark op t is_t is_op) rest = follow_mark mark 0 t rest is_t (step_far mark op is_op)

  -- the mark of an assignment that blocks
  no_less : {A : Type 0} (f : Mark → Option A) (mark : Mark) (op : A) → f m.LessEqual ≡ None → f mark ≡ Some op → x.same_mark mark m.LessEqual ≡ false
  no_less f mark op none is_op = false_of (x.same_mark mark m.LessEqual) (λ g. let bad : f mark ≡ None = ap f (same_marks mark m.LessEqual g) ∙ none in let worse = sym is_op ∙ bad in absurd cc)

  value_blocks : {d : ℕ} {at : Place} {of y : Expr} {ts : Tokens} → Value limit d at of ts y → (rest : Tokens) → is_at m.LessEqual (ts ++ rest) ≡ false
  value_blocks (given {ts = ts} t is_t inner) rest = at_other m.LessEqual m.Assign t (ts ++ rest) is_t refl
  value_blocks (compound {ts = ts} mark op t q is_t is_op is_q inner) rest = at_other m.LessEqual mark t (q ∷ (ts ++ rest)) is_t (no_less compound_of mark op refl is_op)
  value_blocks (stepped mark op t is_t is_op) rest = at_other m.LessEqual mark t rest is_t (no_less step_of mark op refl is_op)

  module _ (d : ℕ) where
    -- what a reference goes on with
    after : Place → Path → Tokens → Read Stmt
    after at path zs = if is_at m.LeftParen zs then r.call limit d at path (drop 1 zs) else r.assignment limit d at path zs

    by_kind : (t : Token) (kind : TokenKind) (zs : Tokens) → t.kind ≡ kind → r.simple limit d (t ∷ zs) ≡ r.simple_by limit d kind t.at zs
    unfolding r.simple
    by_kind t kind zs g = ap (λ y. r.simple_by limit d y t.at zs) g

    named_reads : {ps : Tokens} {path : Path} → Reference ps path → (zs : Tokens) → is_at m.Scope zs ≡ false → r.simple limit d (ps ++ zs) ≡ after (start ps) path zs
    unfolding r.named x.reference after
    named_reads (alone {name = name} t g) zs lacks = by_kind t (k.Name name) zs g ∙ rw lacks refl
    named_reads (scoped {scope = scope} {name = name} p q t ep eq et) zs lacks =
        by_kind p (k.Name scope) (q ∷ t ∷ zs) ep ∙ rw (at_mark m.Scope q (t ∷ zs) eq, name_some t zs name et) refl

    after_paren : (at : Place) (path : Path) (zs : Tokens) → is_at m.LeftParen zs ≡ true → after at path zs ≡ r.call limit d at path (drop 1 zs)
    unfolding after
    after_paren at path zs g = rw g refl

    after_other : (at : Place) (path : Path) (zs : Tokens) → is_at m.LeftParen zs ≡ false → after at path zs ≡ r.assignment limit d at path zs
    unfolding after
    after_other at path zs g = rw g refl

    assigns : Place → Expr → Tokens → Read Stmt
    assigns at y us = if is_at m.LessEqual us then r.nonblocking limit d at y (drop 1 us) else r.blocking limit d at y us

    reads_assignment : (at : Place) (path : Path) (y : Expr) (zs us : Tokens) → x.selects limit (below limit d) true (suc limit) at (e.Read at path) zs ≡ Some (y, us)
        → r.assignment limit d at path zs ≡ assigns at y us
    unfolding r.assignment assigns
    reads_assignment at path y zs us g = rw g refl

    left_reads : {n : ℕ} {ts : Tokens} {y : Expr} → Left limit d true n ts y → n ≤ limit → (rest : Tokens) → Follow 0 rest → r.simple limit d (ts ++ rest) ≡ assigns (start ts) y rest
    left_reads {ts = ts} {y = y} left le rest fo =
        let sel = left_complete limit left rest le (selectable_follow rest fo) in
        ap (r.simple limit d) (ap (λ l. l ++ rest) sel.is ∙ regroup sel.begin sel.others rest)
        ∙ named_reads sel.reference (sel.others ++ rest) sel.goes_on.scope
        ∙ after_other (start sel.begin) sel.path (sel.others ++ rest) sel.goes_on.paren
        ∙ reads_assignment (start sel.begin) sel.path y (sel.others ++ rest) rest
        (sel.eq ∙ selects_stop limit (below limit d) true sel.turns (start ts) y rest (not_at m.LeftBracket 0 rest (omega arith) fo) (dotted_none _ rest fo))
        ∙ ap (λ at. assigns at y rest) sel.starts

    reads_blocking : (at : Place) (y z : Expr) (us vs rest : Tokens) → is_at m.LessEqual us ≡ false → r.value limit d at y us ≡ Some (z, vs) → expect m.Semicolon vs ≡ Some rest
        → assigns at y us ≡ Some (s.Assign at y z, rest)
    unfolding assigns r.blocking r.closed
    reads_blocking at y z us vs rest lacks g h = rw (lacks, g, h) refl

    reads_nonblocking : (at : Place) (y z : Expr) (us vs rest : Tokens) → is_at m.LessEqual us ≡ true → x.whole limit (below limit d) (drop 1 us) ≡ Some (z, vs) → expect m.Semicolon vs ≡ Some rest
        → assigns at y us ≡ Some (s.Nonblocking at y z, rest)
    unfolding assigns r.nonblocking r.closed
    reads_nonblocking at y z us vs rest is g h = rw (is, g, h) refl

    -- ---- the other statements that have none inside

    reads_return : (at : Place) (y : Expr) (ts us rest : Tokens) → is_at m.Semicolon ts ≡ false → x.whole limit (below limit d) ts ≡ Some (y, us) → expect m.Semicolon us ≡ Some rest
        → r.returned limit d at ts ≡ Some (s.Return at (Some y), rest)
    unfolding r.returned r.closed
    reads_return at y ts us rest lacks g h = rw (lacks, g, h) refl

    reads_return_none : (at : Place) (c : Token) (rest : Tokens) → c.kind ≡ k.Mark m.Semicolon → r.returned limit d at (c ∷ rest) ≡ Some (s.Return at None, rest)
    unfolding r.returned
    reads_return_none at c rest e = rw (at_mark m.Semicolon c rest e) refl

    reads_call_none : (at : Place) (path : Path) (p : Token) (us rest : Tokens) → p.kind ≡ k.Mark m.RightParen → expect m.Semicolon us ≡ Some rest
        → r.call limit d at path (p ∷ us) ≡ Some (s.Call at path [], rest)
    unfolding r.call r.closed
    reads_call_none at path p us rest e g = rw (at_mark m.RightParen p us e, g) refl

    reads_call : (at : Place) (path : Path) (xs : List Expr) (ts us vs rest : Tokens) → is_at m.RightParen ts ≡ false → x.several limit (below limit d) ts ≡ Some (xs, us)
        → expect m.RightParen us ≡ Some vs → expect m.Semicolon vs ≡ Some rest → r.call limit d at path ts ≡ Some (s.Call at path xs, rest)
    unfolding r.call r.call_of r.closed
    reads_call at path xs ts us vs rest lacks g h i = rw (lacks, g, h, i) refl

    reads_display_none : (at : Place) (c : Token) (rest : Tokens) → c.kind ≡ k.Mark m.Semicolon → r.display limit d at (c ∷ rest) ≡ Some (s.Display at [] [], rest)
    unfolding r.display r.closed
    reads_display_none at c rest e = rw (at_other m.LeftParen m.Semicolon c rest e refl, expect_mark m.Semicolon c rest e) refl

    reads_display_empty : (at : Place) (o p c : Token) (rest : Tokens) → o.kind ≡ k.Mark m.LeftParen → p.kind ≡ k.Mark m.RightParen → c.kind ≡ k.Mark m.Semicolon
        → r.display limit d at (o ∷ p ∷ c ∷ rest) ≡ Some (s.Display at [] [], rest)
    unfolding r.display r.display_in r.closed
    reads_display_empty at o p c rest is_o is_p is_c = rw (at_mark m.LeftParen o (p ∷ c ∷ rest) is_o, at_mark m.RightParen p (c ∷ rest) is_p, expect_mark m.Semicolon c rest is_c) refl

    to_display : (at : Place) (name : List ℕ) (zs : Tokens) → task_of name ≡ Some Display → r.task limit d at (task_of name) zs ≡ r.display limit d at zs
    unfolding r.task
    to_display at name zs e = rw e refl

    to_finish : (at : Place) (name : List ℕ) (zs : Tokens) → task_of name ≡ Some Finish → r.task limit d at (task_of name) zs ≡ r.finish at zs
    unfolding r.task
    to_finish at name zs e = rw e refl

    text_no_paren : (t : Token) (text : List ℕ) (ts : Tokens) → t.kind ≡ k.Text text → is_at m.RightParen (t ∷ ts) ≡ false
    unfolding is_at
    text_no_paren t text ts e = ap (is_kind m.RightParen) e

    reads_finish_none : (at : Place) (c : Token) (rest : Tokens) → c.kind ≡ k.Mark m.Semicolon → r.finish at (c ∷ rest) ≡ Some (s.Finish at, rest)
    unfolding r.finish r.closed
    reads_finish_none at c rest e = rw (at_other m.LeftParen m.Semicolon c rest e refl, expect_mark m.Semicolon c rest e) refl

    reads_finish : (at : Place) (o : Token) (ts us rest : Tokens) → o.kind ≡ k.Mark m.LeftParen → expect m.RightParen (past_number ts) ≡ Some us → expect m.Semicolon us ≡ Some rest
        → r.finish at (o ∷ ts) ≡ Some (s.Finish at, rest)
    unfolding r.finish r.closed
    reads_finish at o ts us rest is_o g h = rw (at_mark m.LeftParen o ts is_o, g, h) refl

    mark_no_number : (t : Token) (mark : Mark) (ts : Tokens) → t.kind ≡ k.Mark mark → past_number (t ∷ ts) ≡ t ∷ ts
    unfolding past_number
    mark_no_number t mark ts e = rw (ap r.is_number_kind e) refl

    number_past : (t : Token) (v : Literal) (ts : Tokens) → t.kind ≡ k.Number v → past_number (t ∷ ts) ≡ ts
    unfolding past_number
    number_past t v ts e = rw (ap r.is_number_kind e) refl

  reads_display : (d : ℕ) (at : Place) (text : List ℕ) (xs : List Expr) (o t : Token) (ts us vs rest : Tokens) → o.kind ≡ k.Mark m.LeftParen → t.kind ≡ k.Text text
      → x.more_of Comma (below limit (suc d)).whole (length ts + 1) [] ts ≡ Some (xs, us) → expect m.RightParen us ≡ Some vs → expect m.Semicolon vs ≡ Some rest
      → r.display limit (suc d) at (o ∷ t ∷ ts) ≡ Some (s.Display at text xs, rest)
  unfolding r.display r.display_in r.display_of r.closed
  reads_display d at text xs o t ts us vs rest is_o is_t g h i =
      rw (at_mark m.LeftParen o (t ∷ ts) is_o, text_no_paren d t text ts is_t, ne_eqb (suc d) 0 (omega arith), ap r.text_kind is_t, g, h, i) refl

  pub simple_complete : {d : ℕ} {ts : Tokens} {y : Stmt} → Simple limit d ts y → (rest : Tokens) → r.simple limit d (ts ++ rest) ≡ Some (y, rest)
  simple_complete {d = d} (null t e) rest = by_kind d t (k.Mark m.Semicolon) rest e
  simple_complete {d = d} (assign {ts = ts} {us = us} {x = y} {y = z} c left le value is_c) rest =
      ap (r.simple limit d) (regroup4 ts us (c ∷ []) rest)
      ∙ left_reads d left le (us ++ (c ∷ rest)) (value_follow value (c ∷ rest))
      ∙ reads_blocking d (start ts) y z (us ++ (c ∷ rest)) (c ∷ rest) rest (value_blocks value (c ∷ rest))
      (value_complete value (c ∷ rest) (follow_mark m.Semicolon 11 c rest is_c (omega arith))) (expect_mark m.Semicolon c rest is_c)
  simple_complete {d = d} (nonblocking {ts = ts} {us = us} {x = y} {y = z} t c left le is_t inner is_c) rest =
      ap (r.simple limit d) (regroup4 ts (t ∷ us) (c ∷ []) rest)
      ∙ left_reads d left le (t ∷ (us ++ (c ∷ rest))) (follow_mark m.LessEqual 0 t (us ++ (c ∷ rest)) is_t (omega arith))
      ∙ reads_nonblocking d (start ts) y z (t ∷ (us ++ (c ∷ rest))) (c ∷ rest) rest (at_mark m.LessEqual t (us ++ (c ∷ rest)) is_t)
      (expression_complete limit inner (c ∷ rest) (follow_mark m.Semicolon 11 c rest is_c (omega arith))) (expect_mark m.Semicolon c rest is_c)
  simple_complete (called {d = d} {ts = ts} {us = us} {path = path} {xs = xs} o p c ref is_o inner is_p is_c) rest =
      let args : Tokens = us ++ (p ∷ c ∷ rest) in
      ap (r.simple limit (suc d)) (regroup4 ts (o ∷ us) (p ∷ c ∷ []) rest)
      ∙ named_reads (suc d) ref (o ∷ args) (at_other m.Scope m.LeftParen o args is_o refl)
      ∙ after_paren (suc d) (start ts) path (o ∷ args) (at_mark m.LeftParen o args is_o)
      ∙ reads_call (suc d) (start ts) path xs args (p ∷ c ∷ rest) (c ∷ rest) rest (no_close (several_begins limit inner) (p ∷ c ∷ rest))
      (several_complete limit inner (p ∷ c ∷ rest) (closes_paren p (c ∷ rest) is_p)) (expect_mark m.RightParen p (c ∷ rest) is_p) (expect_mark m.Semicolon c rest is_c)
  simple_complete {d = d} (called_none {ts = ts} {path = path} o p c ref is_o is_p is_c) rest =
      ap (r.simple limit d) (regroup ts (o ∷ p ∷ c ∷ []) rest)
      ∙ named_reads d ref (o ∷ p ∷ c ∷ rest) (at_other m.Scope m.LeftParen o (p ∷ c ∷ rest) is_o refl)
      ∙ after_paren d (start ts) path (o ∷ p ∷ c ∷ rest) (at_mark m.LeftParen o (p ∷ c ∷ rest) is_o)
      ∙ reads_call_none d (start ts) path p (c ∷ rest) rest is_p (expect_mark m.Semicolon c rest is_c)
  simple_complete {d = d} (return_none t c is_t is_c) rest = by_kind d t (k.Word w.Return) (c ∷ rest) is_t ∙ reads_return_none d t.at c rest is_c
  simple_complete {d = d} (return_of {ts = ts} {x = y} t c is_t inner is_c) rest =
      ap (r.simple limit d) (regroup (t ∷ ts) (c ∷ []) rest)
      ∙ by_kind d t (k.Word w.Return) (ts ++ (c ∷ rest)) is_t
      ∙ reads_return d t.at y (ts ++ (c ∷ rest)) (c ∷ rest) rest (no_mark opens_expression m.Semicolon refl (expression_opens limit inner) (c ∷ rest))
      (expression_complete limit inner (c ∷ rest) (follow_mark m.Semicolon 11 c rest is_c (omega arith))) (expect_mark m.Semicolon c rest is_c)
  simple_complete {d = d} (break t c is_t is_c) rest = by_kind d t (k.Word w.Break) (c ∷ rest) is_t ∙ closed_at (s.Break t.at) c rest is_c
  simple_complete {d = d} (continue t c is_t is_c) rest = by_kind d t (k.Word w.Continue) (c ∷ rest) is_t ∙ closed_at (s.Continue t.at) c rest is_c
  simple_complete {d = d} (display_none {name = name} t c is_t is_task is_c) rest =
      by_kind d t (k.System name) (c ∷ rest) is_t ∙ to_display d t.at name (c ∷ rest) is_task ∙ reads_display_none d t.at c rest is_c
  simple_complete {d = d} (display_empty {name = name} t o p c is_t is_task is_o is_p is_c) rest =
      by_kind d t (k.System name) (o ∷ p ∷ c ∷ rest) is_t ∙ to_display d t.at name (o ∷ p ∷ c ∷ rest) is_task ∙ reads_display_empty d t.at o p c rest is_o is_p is_c
  simple_complete (display_of {d = d} {name = name} {text = text} {us = us} {xs = xs} t o g p c is_t is_task is_o is_g more is_p is_c) rest =
      let args : Tokens = us ++ (p ∷ c ∷ rest) in
      ap (r.simple limit (suc d)) (regroup (t ∷ o ∷ g ∷ us) (p ∷ c ∷ []) rest)
      ∙ by_kind (suc d) t (k.System name) (o ∷ g ∷ args) is_t ∙ to_display (suc d) t.at name (o ∷ g ∷ args) is_task
      ∙ reads_display d t.at text xs o g args (p ∷ c ∷ rest) (c ∷ rest) rest is_o is_g
      (others_complete limit more [] (p ∷ c ∷ rest) (length args + 1) (longer limit us (p ∷ c ∷ rest)) (closes_paren p (c ∷ rest) is_p))
      (expect_mark m.RightParen p (c ∷ rest) is_p) (expect_mark m.Semicolon c rest is_c)
  simple_complete {d = d} (finish_none {name = name} t c is_t is_task is_c) rest =
      by_kind d t (k.System name) (c ∷ rest) is_t ∙ to_finish d t.at name (c ∷ rest) is_task ∙ reads_finish_none d t.at c rest is_c
  simple_complete {d = d} (finish_empty {name = name} t o p c is_t is_task is_o is_p is_c) rest =
      by_kind d t (k.System name) (o ∷ p ∷ c ∷ rest) is_t ∙ to_finish d t.at name (o ∷ p ∷ c ∷ rest) is_task
      ∙ reads_finish d t.at o (p ∷ c ∷ rest) (c ∷ rest) rest is_o (ap (expect m.RightParen) (mark_no_number d p m.RightParen (c ∷ rest) is_p) ∙ expect_mark m.RightParen p (c ∷ rest) is_p) (expect_mark m.Semicolon c rest is_c)
  simple_complete {d = d} (finish_of {name = name} {v = v} t o g p c is_t is_task is_o is_g is_p is_c) rest =
      by_kind d t (k.System name) (o ∷ g ∷ p ∷ c ∷ rest) is_t ∙ to_finish d t.at name (o ∷ g ∷ p ∷ c ∷ rest) is_task
      ∙ reads_finish d t.at o (g ∷ p ∷ c ∷ rest) (c ∷ rest) rest is_o (ap (expect m.RightParen) (number_past d g v (p ∷ c ∷ rest) is_g) ∙ expect_mark m.RightParen p (c ∷ rest) is_p) (expect_mark m.Semicolon c rest is_c)

  -- ---- what stands before the one statement inside

  event_complete : {d : ℕ} {ts : Tokens} {y : Edge × Expr} → Event limit d ts y → (rest : Tokens) → Follow 11 rest → r.event limit d (ts ++ rest) ≡ Some (y, rest)
  unfolding r.event
  event_complete (any inner) rest fo = rw (no_edge (expression_opens limit inner) rest, expression_complete limit inner rest fo) refl
  event_complete (edged edge t is_edge inner) rest fo = rw (is_edge, expression_complete limit inner rest fo) refl

  events_read : (d : ℕ) → Reads CommaOrWord (r.event limit d) (Event limit d) (Follow 11)
  events_read d = record { complete = event_complete; parted = parted CommaOrWord }

  reads_events : (d : ℕ) (ys : List (Edge × Expr)) (ts vs rest : Tokens) → x.list_of CommaOrWord (r.event limit d) ts ≡ Some (ys, vs)
      → expect m.RightParen vs ≡ Some rest → r.events limit d ts ≡ Some (l.Event false ys, rest)
  unfolding r.events
  reads_events d ys ts vs rest g h = rw (g, h) refl

  event_no_star : {d : ℕ} {ts : Tokens} {y : Edge × Expr} → Event limit d ts y → (rest : Tokens) → is_at m.Star (ts ++ rest) ≡ false
  event_no_star (any inner) rest = no_mark opens_expression m.Star refl (expression_opens limit inner) rest
  event_no_star (edged {ts = ts} edge t is_edge inner) rest = edge_no_star t edge t.kind refl is_edge (ts ++ rest)
    where
      edge_no_star : (t : Token) (edge : Edge) (kind : TokenKind) → t.kind ≡ kind → edge_of kind ≡ Some edge → (us : Tokens) → is_at m.Star (t ∷ us) ≡ false
      edge_no_star t edge (k.Word n) e f us = word_no_mark m.Star n t us e
      edge_no_star t edge _ e f us = absurd cc

  events_no_star : {d : ℕ} {ts : Tokens} {ys : List (Edge × Expr)} → ListOf CommaOrWord (Event limit d) ts ys → (rest : Tokens) → is_at m.Star (ts ++ rest) ≡ false
  events_no_star (listed {ts = ts} {us = us} one more) rest = ap (is_at m.Star) (regroup ts us rest) ∙ event_no_star one (us ++ rest)

  events_complete : {d : ℕ} {ts : Tokens} {ys : List (Edge × Expr)} → ListOf CommaOrWord (Event limit d) ts ys → (c : Token) (rest : Tokens) → c.kind ≡ k.Mark m.RightParen
      → r.event_in limit d (ts ++ (c ∷ rest)) ≡ Some (l.Event false ys, rest)
  unfolding r.event_in
  events_complete {d = d} {ts = ts} {ys = ys} inner c rest is_c =
      rw (events_no_star inner (c ∷ rest)) (reads_events d ys (ts ++ (c ∷ rest)) (c ∷ rest) rest
      (list_complete CommaOrWord (r.event limit d) (events_read d) inner (c ∷ rest) (follow_mark m.RightParen 11 c rest is_c (omega arith)) (ap (separates CommaOrWord) is_c))
      (expect_mark m.RightParen c rest is_c))

  entering_complete : {d : ℕ} {ts : Tokens} {fresh : Bool} {p : Place} {name : List ℕ} {y : Expr} → Entering limit d ts fresh p name y → (c : Token) (rest : Tokens) → c.kind ≡ k.Mark m.Semicolon
      → (r.entering limit d (past_int (ts ++ (c ∷ rest))) ≡ Some (name, y, rest)) × (is_word w.Int (ts ++ (c ∷ rest)) ≡ fresh) × (start (past_int (ts ++ (c ∷ rest))) ≡ p)
  unfolding r.entering past_int
  entering_complete (standing {name = name} {ts = ts} t q is_t is_q inner) c rest is_c = (
    rw (
      name_no_word w.Int name t (q ∷ (ts ++ (c ∷ rest))) is_t,
      name_taken t name (q ∷ (ts ++ (c ∷ rest))) is_t,
      expect_mark m.Assign q (ts ++ (c ∷ rest)) is_q,
      expression_complete limit inner (c ∷ rest) (follow_mark m.Semicolon 11 c rest is_c (omega arith)),
      expect_mark m.Semicolon c rest is_c,
    ) refl,
    name_no_word w.Int name t (q ∷ (ts ++ (c ∷ rest))) is_t,
    rw (name_no_word w.Int name t (q ∷ (ts ++ (c ∷ rest))) is_t) refl,
  )
  entering_complete (declared {name = name} {ts = ts} i t q is_i is_t is_q inner) c rest is_c = (
    rw (
      at_word w.Int i (t ∷ q ∷ (ts ++ (c ∷ rest))) is_i,
      name_taken t name (q ∷ (ts ++ (c ∷ rest))) is_t,
      expect_mark m.Assign q (ts ++ (c ∷ rest)) is_q,
      expression_complete limit inner (c ∷ rest) (follow_mark m.Semicolon 11 c rest is_c (omega arith)),
      expect_mark m.Semicolon c rest is_c,
    ) refl,
    at_word w.Int i (t ∷ q ∷ (ts ++ (c ∷ rest))) is_i,
    rw (at_word w.Int i (t ∷ q ∷ (ts ++ (c ∷ rest))) is_i) refl,
  )

  step_complete : {d : ℕ} {ts : Tokens} {y : Stmt} → Step limit d ts y → (r1 : Token) (rest : Tokens) → r1.kind ≡ k.Mark m.RightParen → r.step limit d (ts ++ (r1 ∷ rest)) ≡ Some (y, r1 ∷ rest)
  unfolding r.step
  step_complete (step {name = name} {ts = ts} t is_t value) c rest is_c =
      rw (name_taken t name (ts ++ (c ∷ rest)) is_t, value_complete value (c ∷ rest) (follow_mark m.RightParen 11 c rest is_c (omega arith))) refl

  reads_for : (d : ℕ) (fresh : Bool) (p : Place) (name : List ℕ) (y z : Expr) (v : Stmt) (o : Token) (ts us vs ws xs rest : Tokens) → o.kind ≡ k.Mark m.LeftParen
      → (r.entering limit d (past_int ts) ≡ Some (name, y, us)) × (is_word w.Int ts ≡ fresh) × (start (past_int ts) ≡ p)
      → x.whole limit (below limit d) us ≡ Some (z, vs) → expect m.Semicolon vs ≡ Some ws → r.step limit d ws ≡ Some (v, xs) → expect m.RightParen xs ≡ Some rest
      → r.for_lead limit d (o ∷ ts) ≡ Some (l.For fresh p name y z v, rest)
  unfolding r.for_lead r.stepping
  reads_for d fresh p name y z v o ts us vs ws xs rest is_o g h i j n = rw (expect_mark m.LeftParen o ts is_o, g.0, g.1, g.2, h, i, j, n) refl

  reads_foreach : (array index : List ℕ) (o a b i c p : Token) (rest : Tokens) → o.kind ≡ k.Mark m.LeftParen → a.kind ≡ k.Name array → b.kind ≡ k.Mark m.LeftBracket → i.kind ≡ k.Name index
      → c.kind ≡ k.Mark m.RightBracket → p.kind ≡ k.Mark m.RightParen → r.foreach (o ∷ a ∷ b ∷ i ∷ c ∷ p ∷ rest) ≡ Some (l.Foreach a.at array i.at index, rest)
  unfolding r.foreach
  reads_foreach array index o a b i c p rest is_o is_a is_b is_i is_c is_p =
      rw (
        expect_mark m.LeftParen o (a ∷ b ∷ i ∷ c ∷ p ∷ rest) is_o,
        name_taken a array (b ∷ i ∷ c ∷ p ∷ rest) is_a,
        expect_mark m.LeftBracket b (i ∷ c ∷ p ∷ rest) is_b,
        name_taken i index (c ∷ p ∷ rest) is_i,
        expect_mark m.RightBracket c (p ∷ rest) is_c,
        expect_mark m.RightParen p rest is_p,
      ) refl

  by_lead : (d : ℕ) (t : Token) (kind : TokenKind) (zs : Tokens) → t.kind ≡ kind → r.lead limit d (t ∷ zs) ≡ r.lead_by limit d kind zs
  unfolding r.lead
  by_lead d t kind zs g = ap (λ y. r.lead_by limit d y zs) g

  by_delay : (d : ℕ) (t : Token) (kind : TokenKind) (zs : Tokens) → t.kind ≡ kind → r.delay limit d (t ∷ zs) ≡ r.delay_by limit d kind t.at (t ∷ zs) zs
  unfolding r.delay
  by_delay d t kind zs g = ap (λ (y : TokenKind). r.delay_by limit d y t.at (t ∷ zs) zs) g

  by_control : (d : ℕ) (t : Token) (kind : TokenKind) (zs : Tokens) → t.kind ≡ kind → r.control limit d (t ∷ zs) ≡ r.control_by limit d kind t.at zs
  unfolding r.control
  by_control d t kind zs g = ap (λ (y : TokenKind). r.control_by limit d y t.at zs) g

  delay_reference : (d : ℕ) {ts : Tokens} {path : Path} → Reference ts path → (rest : Tokens) → is_at m.Scope rest ≡ false → r.delay limit d (ts ++ rest) ≡ Some (l.Delay (e.Read (start ts) path), rest)
  unfolding x.reference
  delay_reference d (alone {name = name} t g) rest lacks = by_delay d t (k.Name name) rest g ∙ rw lacks refl
  delay_reference d (scoped {scope = scope} {name = name} p q t ep eq et) rest lacks =
      by_delay d p (k.Name scope) (q ∷ t ∷ rest) ep ∙ rw (at_mark m.Scope q (t ∷ rest) eq, name_some t rest name et) refl

  with_test : (d : ℕ) (f : Expr → Lead) (y : Expr) (ts rest : Tokens) → r.tested limit d ts ≡ Some (y, rest) → (r.tested limit d ts >>= λ p. (let o : Read Lead = Some (f p.0, p.1) in o)) ≡ Some (f y, rest)
  with_test d f y ts rest g = rw g refl

  delay_tested : (d : ℕ) {ts : Tokens} {y : Expr} → Tested limit d ts y → (rest : Tokens) → r.delay limit d (ts ++ rest) ≡ Some (l.Delay y, rest)
  delay_tested d (tested {ts = ts} {x = y} o c is_o inner is_c) rest =
      by_delay d o (k.Mark m.LeftParen) ((ts ++ c ∷ []) ++ rest) is_o ∙ with_test d l.Delay y (o ∷ ((ts ++ c ∷ []) ++ rest)) rest (tested_complete (tested o c is_o inner is_c) rest)

  reads_any_in : (d : ℕ) (a c : Token) (rest : Tokens) → a.kind ≡ k.Mark m.Star → c.kind ≡ k.Mark m.RightParen → r.event_in limit d (a ∷ c ∷ rest) ≡ Some (l.Event true [], rest)
  unfolding r.event_in
  reads_any_in d a c rest is_a is_c = rw (at_mark m.Star a (c ∷ rest) is_a, expect_mark m.RightParen c rest is_c) refl

  pub leads_complete : {d : ℕ} {ts : Tokens} {y : Lead} → Leads limit d ts y → (rest : Tokens) → is_at m.Scope rest ≡ false → r.lead limit d (ts ++ rest) ≡ Some (y, rest)
  leads_complete {d = d} (while_of {ts = ts} {x = y} t is_t test) rest lacks = by_lead d t (k.Word w.While) (ts ++ rest) is_t ∙ with_test d l.While y (ts ++ rest) rest (tested_complete test rest)
  leads_complete {d = d} (repeat_of {ts = ts} {x = y} t is_t test) rest lacks = by_lead d t (k.Word w.Repeat) (ts ++ rest) is_t ∙ with_test d l.Repeat y (ts ++ rest) rest (tested_complete test rest)
  leads_complete {d = d} (wait_of {ts = ts} {x = y} t is_t test) rest lacks = by_lead d t (k.Word w.Wait) (ts ++ rest) is_t ∙ with_test d l.Wait y (ts ++ rest) rest (tested_complete test rest)
  leads_complete {d = d} (forever_of t is_t) rest lacks = by_lead d t (k.Word w.Forever) rest is_t
  leads_complete {d = d} (foreach_of {array = array} {index = index} t o a b i c p is_t is_o is_a is_b is_i is_c is_p) rest lacks =
      by_lead d t (k.Word w.Foreach) (o ∷ a ∷ b ∷ i ∷ c ∷ p ∷ rest) is_t ∙ reads_foreach array index o a b i c p rest is_o is_a is_b is_i is_c is_p
  leads_complete {d = d} (for_of {fresh = fresh} {name_at = name_at} {name = name} {ts = ts} {us = us} {vs = vs} {x = y} {y = z} {z = v} t o c p q is_t is_o enter is_c inner is_p one is_q) rest lacks =
      let last_part : Tokens = vs ++ (q ∷ rest) in
      let second : Tokens = us ++ (p ∷ last_part) in
      ap (r.lead limit d) (regroup5 (t ∷ o ∷ ts) (c ∷ us) (p ∷ vs) (q ∷ []) rest)
      ∙ by_lead d t (k.Word w.For) (o ∷ (ts ++ (c ∷ second))) is_t
      ∙ reads_for d fresh name_at name y z v o (ts ++ (c ∷ second)) second (p ∷ last_part) last_part (q ∷ rest) rest is_o (entering_complete enter c second is_c)
      (expression_complete limit inner (p ∷ last_part) (follow_mark m.Semicolon 11 p last_part is_p (omega arith))) (expect_mark m.Semicolon p last_part is_p)
      (step_complete one q rest is_q) (expect_mark m.RightParen q rest is_q)
  leads_complete {d = d} (delay_number {v = v} t n is_t is_n) rest lacks = by_lead d t (k.Mark m.Hash) (n ∷ rest) is_t ∙ by_delay d n (k.Number v) rest is_n
  leads_complete {d = d} (delay_name {ts = ts} t is_t ref) rest lacks = by_lead d t (k.Mark m.Hash) (ts ++ rest) is_t ∙ delay_reference d ref rest lacks
  leads_complete {d = d} (delay_of {ts = ts} t is_t test) rest lacks = by_lead d t (k.Mark m.Hash) (ts ++ rest) is_t ∙ delay_tested d test rest
  leads_complete {d = d} (event_name {name = name} t n is_t is_n) rest lacks = by_lead d t (k.Mark m.At) (n ∷ rest) is_t ∙ by_control d n (k.Name name) rest is_n
  leads_complete {d = d} (event_of {ts = ts} t o c is_t is_o inner is_c) rest lacks =
      ap (r.lead limit d) (regroup (t ∷ o ∷ ts) (c ∷ []) rest)
      ∙ by_lead d t (k.Mark m.At) (o ∷ (ts ++ (c ∷ rest))) is_t ∙ by_control d o (k.Mark m.LeftParen) (ts ++ (c ∷ rest)) is_o ∙ events_complete inner c rest is_c
  leads_complete {d = d} (event_any t a is_t is_a) rest lacks = by_lead d t (k.Mark m.At) (a ∷ rest) is_t ∙ by_control d a (k.Mark m.Star) rest is_a
  leads_complete {d = d} (event_any_in t o a c is_t is_o is_a is_c) rest lacks =
      by_lead d t (k.Mark m.At) (o ∷ a ∷ c ∷ rest) is_t ∙ by_control d o (k.Mark m.LeftParen) (a ∷ c ∷ rest) is_o ∙ reads_any_in d a c rest is_a is_c
