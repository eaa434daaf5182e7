-- What the grammar of statements derives is read, whatever follows that does not go on with it.
use Rattle.std.proofs.Common.{◌≡◌, ℕ, zero, suc, ◌+◌, ◌<◌, Bool, true, false, List, [], ◌∷◌, ◌++◌, length, drop, Option, Some, None, refl, sym, ap, ◌∙◌, subst, arith, append_assoc, length-append, append-nil}
use Rattle.nt_value.specs.declared.place.Place.{Place}
use Rattle.nt_ast.specs.declared.expr.Expr.{Expr}
use Rattle.nt_ast.specs.declared.stmt.Stmt.{Stmt}
use Rattle.nt_ast.specs.declared.stmt.Stmt.TheVariants as s
use Rattle.nt_lexer.specs.declared.kinds.Mark.TheVariants as m
use Rattle.nt_lexer.specs.declared.kinds.Word.TheVariants as w
use Rattle.nt_lexer.specs.declared.kinds.TokenKind.TheVariants as k
use Rattle.nt_lexer.specs.declared.kinds.Token.{Token}
use Rattle.nt_read_stmt.specs.declared.lead.Lead.{Lead}
use Rattle.nt_read_stmt.specs.declared.front.Form.{Form}
use Rattle.nt_read_stmt.specs.declared.front.Form.TheVariants as form
use Rattle.nt_read_expr.specs.declared.list.Separator.TheVariants.{Comma}
use Rattle.nt_read_expr.specs.Tables.{Tokens, start, separates}
use Rattle.nt_read_stmt.specs.Tables.{form_of, with_body}
use Rattle.nt_read_expr.specs.Derivation.{Several, several}
use Rattle.nt_read_stmt.specs.Statements.{Statement, simple, block, led, if_only, if_else, case_of, Statements, no_more, more, Arms, no_arms, arm, Default, no_default, default, default_colon}
use Rattle.nt_read_expr.specs.Reader as x
use Rattle.nt_read_expr.specs.Reader.{Read, below, first, is_at, expect}
use Rattle.nt_read_stmt.specs.Reader as r
use Rattle.nt_read_stmt.specs.Reader.{is_word, expect_word, past_label, past_colon, arm_first, inside}
use Rattle.nt_read_expr.proofs.Follows.{Follow, at_mark, at_other, expect_mark, follow_mark}
use Rattle.nt_read_expr.proofs.Lists.{list_complete}
use Rattle.nt_read_expr.proofs.Complete.{regroup, regroup4, longer, expressions, list_is}
use Rattle.nt_read_stmt.proofs.Firsts.{Opens, at_word, other_word, word_no_mark, expect_at, opens_first, opens_start, no_mark, no_word, opens_expression, opens_statement, several_opens, simple_form, leads_form, statement_opens}
use Rattle.nt_read_stmt.proofs.Pieces.{regroup5, label_complete, tested_complete, simple_complete, leads_complete}

-- what follows a statement: no colon, and no `else` where one would belong to it
pub record Fit (o : Bool) (rest : Tokens) : Type 0 where
  pub shut : o ≡ true → is_word w.Else rest ≡ false
  pub colon : is_at m.Colon rest ≡ false

fit_word : (o : Bool) (w' : _) (t : Token) (ts : Tokens) → t.kind ≡ k.Word w' → r.same_word w' w.Else ≡ false → Fit o (t ∷ ts)
fit_word o w' t ts e differs = record { shut = λ _. other_word w.Else w' t ts e differs; colon = word_no_mark m.Colon w' t ts e }

module _ (limit : ℕ) where
  fit_statement : {d n : ℕ} {o : Bool} {ts : Tokens} {y : Stmt} → Statement limit d o n ts y → (open_end : Bool) (rest : Tokens) → Fit open_end (ts ++ rest)
  fit_statement y open_end rest = record { shut = λ _. no_word opens_statement w.Else refl (statement_opens limit y) rest; colon = no_mark opens_statement m.Colon refl (statement_opens limit y) rest }

  fit_several : {d : ℕ} {ts : Tokens} {ys : List Expr} → Several limit d ts ys → (open_end : Bool) (rest : Tokens) → Fit open_end (ts ++ rest)
  fit_several ys open_end rest = record { shut = λ _. no_word opens_expression w.Else refl (several_opens limit ys) rest; colon = no_mark opens_expression m.Colon refl (several_opens limit ys) rest }

  statements_fit : {d : ℕ} {ts : Tokens} {ys : List Stmt} → Statements limit d ts ys → (o : Bool) (c : Token) (rest : Tokens) → c.kind ≡ k.Word w.End → Fit o (ts ++ (c ∷ rest))
  statements_fit no_more o c rest is = fit_word o w.End c rest is refl
  statements_fit (more {ts = ts} {us = us} y le ys) o c rest is = subst (Fit o) (sym (regroup ts us (c ∷ rest))) (fit_statement y o (us ++ (c ∷ rest)))

  default_fit : {d : ℕ} {ts : Tokens} {y : Option Stmt} → Default limit d ts y → (o : Bool) (c : Token) (rest : Tokens) → c.kind ≡ k.Word w.EndCase → Fit o (ts ++ (c ∷ rest))
  default_fit no_default o c rest is = fit_word o w.EndCase c rest is refl
  default_fit (default {ts = ts} t is_t y le) o c rest is = fit_word o w.Default t (ts ++ (c ∷ rest)) is_t refl
  default_fit (default_colon {ts = ts} t f is_t is_f y le) o c rest is = fit_word o w.Default t (f ∷ (ts ++ (c ∷ rest))) is_t refl

  arms_fit : {d g : ℕ} {ts us : Tokens} {ys : _} {other : Option Stmt} → Arms limit d ts ys → Default limit g us other → (o : Bool) (c : Token) (rest : Tokens) → c.kind ≡ k.Word w.EndCase
      → Fit o (ts ++ (us ++ (c ∷ rest)))
  arms_fit no_arms other o c rest is = default_fit other o c rest is
  arms_fit {us = vs} (arm {ts = ts} {us = us} {vs = zs} f values is_f y le arms) other o c rest is =
      subst (Fit o) (sym (regroup4 ts (f ∷ us) zs (vs ++ (c ∷ rest)))) (fit_several values o (f ∷ (us ++ (zs ++ (vs ++ (c ∷ rest))))))

  -- after the arms no arm begins
  default_no_arm : {d : ℕ} {ts : Tokens} {y : Option Stmt} → Default limit d ts y → (c : Token) (rest : Tokens) → c.kind ≡ k.Word w.EndCase → arm_first (ts ++ (c ∷ rest)) ≡ false
  default_no_arm no_default c rest is = rw (other_word w.Default w.EndCase c rest is refl, at_word w.EndCase c rest is) refl
  default_no_arm (default {ts = ts} t is_t y le) c rest is = rw (at_word w.Default t (ts ++ (c ∷ rest)) is_t) refl
  default_no_arm (default_colon {ts = ts} t f is_t is_f y le) c rest is = rw (at_word w.Default t (f ∷ (ts ++ (c ∷ rest))) is_t) refl

  several_arm : {d : ℕ} {ts : Tokens} {ys : List Expr} → Several limit d ts ys → (rest : Tokens) → arm_first (ts ++ rest) ≡ true
  several_arm ys rest = rw (no_word opens_expression w.Default refl (several_opens limit ys) rest, no_word opens_expression w.EndCase refl (several_opens limit ys) rest) refl

  -- ---- the values of an arm

  values_complete : {d : ℕ} {ts : Tokens} {ys : List Expr} → Several limit d ts ys → (c : Token) (rest : Tokens) → c.kind ≡ k.Mark m.Colon → r.values limit d (ts ++ (c ∷ rest)) ≡ Some (ys, c ∷ rest)
  values_complete {d = d} values c rest is_c =
      list_complete Comma (x.whole limit (below limit d)) (expressions limit d) (list_is limit values) (c ∷ rest) (follow_mark m.Colon 11 c rest is_c (omega arith)) (ap (separates Comma) is_c)

  -- ---- steps of the reader

  module _ (d : ℕ) (q : Tokens → Read Stmt) where
    by_form : (f : ℕ) (ts : Tokens) (g : Form) → form_of (first ts) ≡ g → r.statement limit d q (suc f) ts ≡ r.by_form limit d q (r.statement limit d q f) g ts
    unfolding r.statement
    by_form f ts g e = ap (λ h. r.by_form limit d q (r.statement limit d q f) h ts) e

    by_first : (f : ℕ) (t : Token) (w' : _) (ts : Tokens) → t.kind ≡ k.Word w' → r.statement limit d q (suc f) (t ∷ ts) ≡ r.by_form limit d q (r.statement limit d q f) (form_of (k.Word w')) (t ∷ ts)
    by_first f t w' ts e = by_form f (t ∷ ts) (form_of (k.Word w')) (ap form_of e)

    reads_led : (lead : Lead) (y : Stmt) (ts us rest : Tokens) → r.lead limit d ts ≡ Some (lead, us) → q us ≡ Some (y, rest) → r.led limit d q ts ≡ Some (with_body (start ts) lead y, rest)
    unfolding r.led
    reads_led lead y ts us rest g h = rw (g, h) refl

    statements_end : (f : ℕ) (found : List Stmt) (c : Token) (rest : Tokens) → c.kind ≡ k.Word w.End → r.statements limit d q (suc f) found (c ∷ rest) ≡ Some (found, rest)
    unfolding r.statements
    statements_end f found c rest is = rw (at_word w.End c rest is) refl

    statements_more : (f : ℕ) (found : List Stmt) (y : Stmt) (ts us : Tokens) → is_word w.End ts ≡ false → q ts ≡ Some (y, us)
        → r.statements limit d q (suc f) found ts ≡ r.statements limit d q f (found ++ y ∷ []) us
    unfolding r.statements
    statements_more f found y ts us lacks g = rw (lacks, g) refl

    reads_block : (at : Place) (ys : List Stmt) (ts us vs rest : Tokens) → past_label ts ≡ Some us → r.statements limit d q (length us + 1) [] us ≡ Some (ys, vs) → past_label vs ≡ Some rest
        → r.block limit d q at ts ≡ Some (s.Block at ys, rest)
    unfolding r.block
    reads_block at ys ts us vs rest g h i = rw (g, h, i) refl

    arms_stop : (f : ℕ) (found : List (List Expr × Stmt)) (ts : Tokens) → arm_first ts ≡ false → r.arms limit d q (suc f) found ts ≡ Some (found, ts)
    unfolding r.arms
    arms_stop f found ts g = rw g refl

    arms_more : (f : ℕ) (found : List (List Expr × Stmt)) (ys : List Expr) (y : Stmt) (ts us vs ws : Tokens) → arm_first ts ≡ true → r.values limit d ts ≡ Some (ys, us)
        → expect m.Colon us ≡ Some vs → q vs ≡ Some (y, ws) → r.arms limit d q (suc f) found ts ≡ r.arms limit d q f (found ++ (ys, y) ∷ []) ws
    unfolding r.arms r.arm
    arms_more f found ys y ts us vs ws is g h i = rw (is, g, h, i) refl

    reads_no_default : (c : Token) (rest : Tokens) → c.kind ≡ k.Word w.EndCase → r.default limit d q (c ∷ rest) ≡ Some (None, c ∷ rest)
    unfolding r.default
    reads_no_default c rest is = rw (other_word w.Default w.EndCase c rest is refl) refl

    reads_default : (y : Stmt) (t : Token) (ts us : Tokens) → t.kind ≡ k.Word w.Default → q (past_colon ts) ≡ Some (y, us) → r.default limit d q (t ∷ ts) ≡ Some (Some y, us)
    unfolding r.default
    reads_default y t ts us is g = rw (at_word w.Default t ts is, g) refl

    reads_case : (at : Place) (y : Expr) (ys : List (List Expr × Stmt)) (other : Option Stmt) (ts us vs ws rest : Tokens) → r.tested limit d ts ≡ Some (y, us)
        → r.arms limit d q (length us + 1) [] us ≡ Some (ys, vs) → r.default limit d q vs ≡ Some (other, ws) → expect_word w.EndCase ws ≡ Some rest
        → r.case_of limit d q at ts ≡ Some (s.Case at y ys other, rest)
    unfolding r.case_of
    reads_case at y ys other ts us vs ws rest g h i j = rw (g, h, i, j) refl

    reads_if : (next : Tokens → Read Stmt) (at : Place) (y : Expr) (z : Stmt) (ts us vs : Tokens) → r.tested limit d ts ≡ Some (y, us) → q us ≡ Some (z, vs) → is_word w.Else vs ≡ false
        → r.choice limit d q next at ts ≡ Some (s.If at y z None, vs)
    unfolding r.choice r.otherwise
    reads_if next at y z ts us vs g h i = rw (g, h, i) refl

    reads_else : (next : Tokens → Read Stmt) (at : Place) (y : Expr) (z v : Stmt) (ts us vs rest : Tokens) → r.tested limit d ts ≡ Some (y, us) → q us ≡ Some (z, vs) → is_word w.Else vs ≡ true
        → next (drop 1 vs) ≡ Some (v, rest) → r.choice limit d q next at ts ≡ Some (s.If at y z (Some v), rest)
    unfolding r.choice r.otherwise
    reads_else next at y z v ts us vs rest g h i j = rw (g, h, i, j) refl

  past_no_colon : (ts : Tokens) → is_at m.Colon ts ≡ false → past_colon ts ≡ ts
  unfolding past_colon
  past_no_colon ts g = rw g refl

  past_a_colon : (c : Token) (ts : Tokens) → c.kind ≡ k.Mark m.Colon → past_colon (c ∷ ts) ≡ ts
  unfolding past_colon
  past_a_colon c ts g = rw (at_mark m.Colon c ts g) refl

  fewer : {A : Type 0} {f : _ → A} {a : A} {ts : Tokens} → Opens f a ts → (us : Tokens) (n : ℕ) → length (ts ++ us) < suc n → length us < n
  fewer {ts = ts} o us n lt = omega (arith, lt, length-append ts us, ap length o.is)

  -- ---- the induction

  mutual
    unfolding inside

    pub statement_complete : {d n : ℕ} {o : Bool} {ts : Tokens} {y : Stmt} → Statement limit d o n ts y → (f : ℕ) (rest : Tokens) → n < f → Fit o rest
        → r.statement limit d (inside limit d) f (ts ++ rest) ≡ Some (y, rest)
    statement_complete a zero rest lt fit = absurd (omega arith)
    statement_complete {d = d} (simple {ts = ts} a) (suc f) rest lt fit =
        by_form d (inside limit d) f (ts ++ rest) form.Simple (opens_first (simple_form limit a) rest) ∙ simple_complete limit a rest
    statement_complete {d = d} (block {ls = ls} {ts = ts} {ms = ms} {xs = ys} b c is_b begins items is_c ends) (suc f) rest lt fit =
        let tail : Tokens = ts ++ (c ∷ (ms ++ rest)) in
        ap (r.statement limit d (inside limit d) (suc f)) (regroup4 (b ∷ ls) ts (c ∷ ms) rest)
        ∙ by_first d (inside limit d) f b w.Begin (ls ++ tail) is_b
        ∙ reads_block d (inside limit d) b.at ys (ls ++ tail) tail (ms ++ rest) rest
        (label_complete begins tail (statements_fit items true c (ms ++ rest) is_c).colon)
        (statements_complete items [] c (ms ++ rest) (length tail + 1) is_c (longer limit ts (c ∷ (ms ++ rest))))
        (label_complete ends rest fit.colon)
    statement_complete (led {d = d} {ts = ts} {us = us} {lead = lead} {x = y} leads body le) (suc f) rest lt fit =
        ap (r.statement limit (suc d) (inside limit (suc d)) (suc f)) (regroup ts us rest)
        ∙ by_form (suc d) (inside limit (suc d)) f (ts ++ (us ++ rest)) form.Led (opens_first (leads_form limit leads) (us ++ rest))
        ∙ reads_led (suc d) (inside limit (suc d)) lead y (ts ++ (us ++ rest)) (us ++ rest) rest
        (leads_complete limit leads (us ++ rest) (no_mark opens_statement m.Scope refl (statement_opens limit body) rest))
        (statement_complete body (suc limit) rest (omega arith) fit)
        ∙ ap (λ at. Some (with_body at lead y, rest)) (opens_start (leads_form limit leads) (us ++ rest))
    statement_complete (if_only {d = d} {ts = ts} {us = us} {x = y} {y = z} i is_i test body le) (suc f) rest lt fit =
        ap (r.statement limit (suc d) (inside limit (suc d)) (suc f)) (regroup (i ∷ ts) us rest)
        ∙ by_first (suc d) (inside limit (suc d)) f i w.If (ts ++ (us ++ rest)) is_i
        ∙ reads_if (suc d) (inside limit (suc d)) (r.statement limit (suc d) (inside limit (suc d)) f) i.at y z (ts ++ (us ++ rest)) (us ++ rest) rest
        (tested_complete limit test (us ++ rest))
        (statement_complete body (suc limit) rest (omega arith) (record { shut = λ _. fit.shut refl; colon = fit.colon })) (fit.shut refl)
    statement_complete (if_else {d = d} {ts = ts} {us = us} {vs = vs} {x = y} {y = z} {z = v} i c is_i test body le is_c other) (suc f) rest lt fit =
        let tail : Tokens = c ∷ (vs ++ rest) in
        ap (r.statement limit (suc d) (inside limit (suc d)) (suc f)) (regroup4 (i ∷ ts) us (c ∷ vs) rest)
        ∙ by_first (suc d) (inside limit (suc d)) f i w.If (ts ++ (us ++ tail)) is_i
        ∙ reads_else (suc d) (inside limit (suc d)) (r.statement limit (suc d) (inside limit (suc d)) f) i.at y z v (ts ++ (us ++ tail)) (us ++ tail) tail rest
        (tested_complete limit test (us ++ tail))
        (statement_complete body (suc limit) tail (omega arith) (record { shut = λ bad. absurd cc; colon = word_no_mark m.Colon w.Else c (vs ++ rest) is_c }))
        (at_word w.Else c (vs ++ rest) is_c) (statement_complete other f rest (omega arith) fit)
    statement_complete {d = d} (case_of {ts = ts} {us = us} {vs = vs} {x = y} {arms = ys} {other = z} c g is_c test arms other is_g) (suc f) rest lt fit =
        let tail : Tokens = vs ++ (g ∷ rest) in
        ap (r.statement limit d (inside limit d) (suc f)) (regroup5 (c ∷ ts) us vs (g ∷ []) rest)
        ∙ by_first d (inside limit d) f c w.Case (ts ++ (us ++ tail)) is_c
        ∙ reads_case d (inside limit d) c.at y ys z (ts ++ (us ++ tail)) (us ++ tail) tail (g ∷ rest) rest (tested_complete limit test (us ++ tail))
        (arms_complete arms other [] g rest (length (us ++ tail) + 1) is_g (longer limit us tail)) (default_complete other g rest is_g) (expect_at w.EndCase g rest is_g)

    statements_complete : {d : ℕ} {ts : Tokens} {ys : List Stmt} → Statements limit d ts ys → (found : List Stmt) (c : Token) (rest : Tokens) (f : ℕ) → c.kind ≡ k.Word w.End → length ts < f
        → r.statements limit d (inside limit d) f found (ts ++ (c ∷ rest)) ≡ Some (found ++ ys, rest)
    statements_complete a found c rest zero is lt = absurd (omega arith)
    statements_complete {d = d} no_more found c rest (suc f) is lt = statements_end d (inside limit d) f found c rest is ∙ ap (λ l. Some (l, rest)) (sym (append-nil found))
    statements_complete (more {d = d} {o = o} {ts = ts} {us = us} {x = y} {xs = ys} a le others) found c rest (suc f) is lt =
        ap (r.statements limit (suc d) (inside limit (suc d)) (suc f) found) (regroup ts us (c ∷ rest))
        ∙ statements_more (suc d) (inside limit (suc d)) f found y (ts ++ (us ++ (c ∷ rest))) (us ++ (c ∷ rest)) (no_word opens_statement w.End refl (statement_opens limit a) (us ++ (c ∷ rest)))
        (statement_complete a (suc limit) (us ++ (c ∷ rest)) (omega arith) (statements_fit others o c rest is))
        ∙ statements_complete others (found ++ y ∷ []) c rest f is (fewer (statement_opens limit a) us f lt)
        ∙ ap (λ l. Some (l, rest)) (append_assoc found (y ∷ []) ys)

    arms_complete : {d g : ℕ} {ts us : Tokens} {ys : List (List Expr × Stmt)} {other : Option Stmt} → Arms limit d ts ys → Default limit g us other → (found : List (List Expr × Stmt)) (c : Token) (rest : Tokens) (f : ℕ)
        → c.kind ≡ k.Word w.EndCase → length ts < f → r.arms limit d (inside limit d) f found (ts ++ (us ++ (c ∷ rest))) ≡ Some (found ++ ys, us ++ (c ∷ rest))
    arms_complete a other found c rest zero is lt = absurd (omega arith)
    arms_complete {d = d} {us = us} no_arms other found c rest (suc f) is lt =
        arms_stop d (inside limit d) f found (us ++ (c ∷ rest)) (default_no_arm other c rest is) ∙ ap (λ l. Some (l, us ++ (c ∷ rest))) (sym (append-nil found))
    arms_complete {us = ws} (arm {d = d} {o = o} {ts = ts} {us = us} {vs = vs} {xs = ys} {y = y} {arms = zs} b values is_b body le more_of) other found c rest (suc f) is lt =
        let tail : Tokens = ws ++ (c ∷ rest) in
        ap (r.arms limit (suc d) (inside limit (suc d)) (suc f) found) (regroup4 ts (b ∷ us) vs tail)
        ∙ arms_more (suc d) (inside limit (suc d)) f found ys y (ts ++ (b ∷ (us ++ (vs ++ tail)))) (b ∷ (us ++ (vs ++ tail))) (us ++ (vs ++ tail)) (vs ++ tail)
        (several_arm values (b ∷ (us ++ (vs ++ tail)))) (values_complete values b (us ++ (vs ++ tail)) is_b) (expect_mark m.Colon b (us ++ (vs ++ tail)) is_b)
        (statement_complete body (suc limit) (vs ++ tail) (omega arith) (arms_fit more_of other o c rest is))
        ∙ arms_complete more_of other (found ++ (ys, y) ∷ []) c rest f is (omega (arith, lt, length-append (ts ++ (b ∷ us)) vs, length-append ts (b ∷ us)))
        ∙ ap (λ l. Some (l, tail)) (append_assoc found ((ys, y) ∷ []) zs)

    default_complete : {d : ℕ} {ts : Tokens} {y : Option Stmt} → Default limit d ts y → (c : Token) (rest : Tokens) → c.kind ≡ k.Word w.EndCase
        → r.default limit d (inside limit d) (ts ++ (c ∷ rest)) ≡ Some (y, c ∷ rest)
    default_complete {d = d} no_default c rest is = reads_no_default d (inside limit d) c rest is
    default_complete (default {d = d} {o = o} {ts = ts} {x = y} t is_t body le) c rest is =
        reads_default (suc d) (inside limit (suc d)) y t (ts ++ (c ∷ rest)) (c ∷ rest) is_t
        (ap (inside limit (suc d)) (past_no_colon (ts ++ (c ∷ rest)) (fit_statement body o (c ∷ rest)).colon) ∙ statement_complete body (suc limit) (c ∷ rest) (omega arith) (fit_word o w.EndCase c rest is refl))
    default_complete (default_colon {d = d} {o = o} {ts = ts} {x = y} t b is_t is_b body le) c rest is =
        reads_default (suc d) (inside limit (suc d)) y t (b ∷ (ts ++ (c ∷ rest))) (c ∷ rest) is_t
        (ap (inside limit (suc d)) (past_a_colon b (ts ++ (c ∷ rest)) is_b) ∙ statement_complete body (suc limit) (c ∷ rest) (omega arith) (fit_word o w.EndCase c rest is refl))
