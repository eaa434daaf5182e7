-- What is read as a statement is derived by the grammar of statements.
use Rattle.std.proofs.Common.{inl, inr, subst, ◌≡◌, ℕ, zero, suc, ◌+◌, ◌<◌, ◌≤◌, Bool, true, false, List, [], ◌∷◌, ◌++◌, length, drop, Option, Some, None, refl, sym, ap, ◌∙◌, arith, append_assoc, append-nil}
use Rattle.nt_ast.specs.declared.expr.Expr.{Expr}
use Rattle.nt_ast.specs.declared.stmt.Stmt.{Stmt}
use Rattle.nt_ast.specs.declared.stmt.Stmt.TheVariants as st
use Rattle.nt_lexer.specs.declared.kinds.Mark.TheVariants as m
use Rattle.nt_lexer.specs.declared.kinds.Word.TheVariants as w
use Rattle.nt_lexer.specs.declared.kinds.TokenKind.{TokenKind}
use Rattle.nt_lexer.specs.declared.kinds.TokenKind.TheVariants as k
use Rattle.nt_lexer.specs.declared.kinds.Token.{Token}
use Rattle.nt_read_stmt.specs.declared.lead.Lead.{Lead}
use Rattle.nt_read_stmt.specs.declared.front.Form.{Form}
use Rattle.nt_read_stmt.specs.declared.front.Form.TheVariants as form
use Rattle.nt_read_expr.specs.declared.list.Separator.TheVariants.{Comma}
use Rattle.nt_read_expr.specs.Tables.{Tokens, start}
use Rattle.nt_read_stmt.specs.Tables.{form_of, with_body}
use Rattle.nt_read_expr.specs.Derivation.{Expression, Several}
use Rattle.nt_read_stmt.specs.Statements.{Tested, Leads, Statement, simple, block, led, if_only, if_else, case_of, Statements, no_more, more, Arms, no_arms, arm, Default, no_default, default, default_colon}
use Rattle.nt_read_expr.specs.Reader as x
use Rattle.nt_read_expr.specs.Reader.{Read, below, first, is_at, expect}
use Rattle.nt_read_stmt.specs.Reader as r
use Rattle.nt_read_stmt.specs.Reader.{is_word, expect_word, past_label, past_colon, inside}
use Rattle.nt_read_expr.proofs.Complete.{regroup4}
use Rattle.nt_read_expr.proofs.Basics.{bind_some, some_is, if_cases, Took, both, took_as}
use Rattle.nt_read_expr.proofs.Lists.{list_sound}
use Rattle.nt_read_expr.proofs.Sound.{front_of, expect_of, expression_sound, several_of}
use Rattle.nt_read_stmt.proofs.Firsts.{opens_start, leads_form}
use Rattle.nt_read_stmt.proofs.Pieces.{regroup5}
use Rattle.nt_read_stmt.proofs.Sound.{word_of, expect_word_of, label_sound, tested_sound, simple_sound, lead_sound}

-- what was read, and that no `else` follows which it would have taken
pub record TookStatement (limit d : ℕ) (s us : Tokens) (y : Stmt) : Type 0 where
  pub open_end : Bool
  pub links : ℕ
  pub few : links ≤ limit
  pub front : Tokens
  pub split : s ≡ front ++ us
  pub derives : Statement limit d open_end links front y
  pub shut : open_end ≡ true → is_word w.Else us ≡ false

not_open : (o : Bool) (us : Tokens) → (o ≡ true → is_word w.Else us ≡ false) → is_word w.Else us ≡ true → o ≡ false
not_open true us f e = let bad = sym (f refl) ∙ e in absurd cc
not_open false us f e = refl

-- the form of a first token that begins one
record Formed (w' : _) (s : Tokens) : Type 0 where
  token : Token
  others : Tokens
  is_word : token.kind ≡ k.Word w'
  is : s ≡ token ∷ others

choice_kind : (kind : TokenKind) → form_of kind ≡ form.Choice → kind ≡ k.Word w.If
choice_kind (k.Word w.If) e = refl
choice_kind (k.Mark m.Hash) e = absurd cc
choice_kind (k.Mark m.At) e = absurd cc
choice_kind (k.Mark _) e = absurd cc
choice_kind _ e = absurd cc

block_kind : (kind : TokenKind) → form_of kind ≡ form.Block → kind ≡ k.Word w.Begin
block_kind (k.Word w.Begin) e = refl
block_kind (k.Mark m.Hash) e = absurd cc
block_kind (k.Mark m.At) e = absurd cc
block_kind (k.Mark _) e = absurd cc
block_kind _ e = absurd cc

case_kind : (kind : TokenKind) → form_of kind ≡ form.Case → kind ≡ k.Word w.Case
case_kind (k.Word w.Case) e = refl
case_kind (k.Mark m.Hash) e = absurd cc
case_kind (k.Mark m.At) e = absurd cc
case_kind (k.Mark _) e = absurd cc
case_kind _ e = absurd cc

formed : (w' : _) (f : Form) → ((kind : TokenKind) → form_of kind ≡ f → kind ≡ k.Word w') → (form.Simple ≡ f → ⊥) → (s : Tokens) → form_of (first s) ≡ f → Formed w' s
formed w' f by never [] e = absurd (never e)
formed w' f by never (t ∷ ts) e = record { token = t; others = ts; is_word = by t.kind e; is = refl }

module _ (limit D : ℕ) where
  -- ---- the values of an arm

  values_sound : (s us : Tokens) (ys : List Expr) → r.values limit D s ≡ Some (ys, us) → Took (λ p. Several limit D p ys) s us
  values_sound s us ys e =
      let i = list_sound Comma (x.whole limit (below limit D)) (Expression limit D) (expression_sound limit D) s us ys e in
      record { front = i.front; split = i.split; derives = several_of limit i.derives }

  module _ (q : Tokens → Read Stmt) (d : ℕ) (S : (s us : Tokens) (y : Stmt) → q s ≡ Some (y, us) → (D ≡ suc d) × TookStatement limit d s us y) where
    abbrev Bounded : ℕ → Tokens → Tokens → Stmt → Type 0
    Bounded f s us y = (i : TookStatement limit D s us y) × (i.links < f)

    bounded_as : (f : ℕ) (s us vs : Tokens) (y z : Stmt) → (let a : Stmt × Tokens = (y, us) in let b : Stmt × Tokens = (z, vs) in a ≡ b) → Bounded f s us y → Bounded f s vs z
    bounded_as f s us vs y z e i = subst (λ (p : Stmt × Tokens). Bounded f s p.1 p.0) e i

    -- without links, and closed
    shut_off : (f : ℕ) (s us : Tokens) (y : Stmt) (front : Tokens) → s ≡ front ++ us → Statement limit D false 0 front y → Bounded (suc f) s us y
    shut_off f s us y front split i = (record { open_end = false; links = 0; few = omega arith; front = front; split = split; derives = i; shut = λ bad. absurd cc }, omega arith)

    simple_at : (f : ℕ) (s us : Tokens) (y : Stmt) → r.simple limit D s ≡ Some (y, us) → Bounded (suc f) s us y
    simple_at f s us y e = let i = simple_sound limit D s us y e in shut_off f s us y i.front i.split (simple i.derives)

    led_at : {n : ℕ} {o : Bool} {ts us : Tokens} {lead : Lead} {y : Stmt} → D ≡ suc d → Leads limit D ts lead → Statement limit d o n us y → n ≤ limit → Statement limit D o 0 (ts ++ us) (with_body (start ts) lead y)
    led_at {o = o} {ts = ts} {us = us} {lead = lead} {y = y} is i j le =
        subst (λ D'. Statement limit D' o 0 (ts ++ us) (with_body (start ts) lead y)) (sym is) (led (subst (λ D'. Leads limit D' ts lead) is i) j le)

    led_sound : (f : ℕ) (s us : Tokens) (y : Stmt) → r.led limit D q s ≡ Some (y, us) → Bounded (suc f) s us y
    unfolding r.led
    led_sound f s us y e =
        let a = bind_some (r.lead limit D s) _ _ e in
        let i = lead_sound limit D s a.0.1 a.0.0 a.1 in
        let b = bind_some (q a.0.1) _ _ a.2 in
        let j = S a.0.1 b.0.1 b.0.0 b.1 in
        let starts : start s ≡ start i.front = ap start i.split ∙ opens_start (leads_form limit i.derives) a.0.1 in
        bounded_as (suc f) s b.0.1 us (with_body (start i.front) a.0.0 b.0.0) y (ap (λ at. (with_body at a.0.0 b.0.0, b.0.1)) (sym starts) ∙ some_is _ _ b.2) (
          record {
            open_end = j.1.open_end;
            links = 0;
            few = omega arith;
            front = i.front ++ j.1.front;
            split = both i.front j.1.front s a.0.1 b.0.1 i.split j.1.split;
            derives = led_at j.0 i.derives j.1.derives j.1.few;
            shut = j.1.shut;
          },
          omega arith,
        )

    -- ---- blocks

    record Listed (found : List Stmt) (s us : Tokens) (ys : List Stmt) : Type 0 where
      others : List Stmt
      all : ys ≡ found ++ others
      front : Tokens
      close : Token
      is_close : close.kind ≡ k.Word w.End
      split : s ≡ front ++ (close ∷ us)
      derives : Statements limit D front others

    more_at : {n : ℕ} {o : Bool} {ts us : Tokens} {y : Stmt} {ys : List Stmt} → D ≡ suc d → Statement limit d o n ts y → n ≤ limit → Statements limit D us ys → Statements limit D (ts ++ us) (y ∷ ys)
    more_at {ts = ts} {us = us} {y = y} {ys = ys} is a le b = subst (λ D'. Statements limit D' (ts ++ us) (y ∷ ys)) (sym is) (more a le (subst (λ D'. Statements limit D' us ys) is b))

    statements_sound : (f : ℕ) (found : List Stmt) (s us : Tokens) (ys : List Stmt) → r.statements limit D q f found s ≡ Some (ys, us) → Listed found s us ys
    unfolding r.statements
    statements_sound zero found s us ys e = absurd cc
    statements_sound (suc f) found s us ys e =
        elim (if_cases (is_word w.End s) _ _ _ e) [
          | inl h ↦
              let c = word_of w.End s h.0 in
              let p : (found, drop 1 s) ≡ (ys, us) = some_is _ _ h.1 in
              record {
                others = [];
                all = sym (ap (λ z. z.0) p) ∙ sym (append-nil found);
                front = [];
                close = c.token;
                is_close = c.is_word;
                split = c.is ∙ ap (λ z. c.token ∷ z.1) p;
                derives = no_more;
              }
          | inr h ↦
              let a = bind_some (q s) _ _ h.1 in
              let i = S s a.0.1 a.0.0 a.1 in
              let j = statements_sound f (found ++ a.0.0 ∷ []) a.0.1 us ys a.2 in
              record {
                others = a.0.0 ∷ j.others;
                all = j.all ∙ append_assoc found (a.0.0 ∷ []) j.others;
                front = i.1.front ++ j.front;
                close = j.close;
                is_close = j.is_close;
                split = both i.1.front j.front s a.0.1 (j.close ∷ us) i.1.split j.split;
                derives = more_at i.0 i.1.derives i.1.few j.derives;
              }
        ]

    block_sound : (f : ℕ) (b : Token) (s us : Tokens) (y : Stmt) → b.kind ≡ k.Word w.Begin → r.block limit D q b.at s ≡ Some (y, us) → Bounded (suc f) (b ∷ s) us y
    unfolding r.block
    block_sound f b s us y is e =
        let a = bind_some (past_label s) _ _ e in
        let i = label_sound s a.0 a.1 in
        let c = bind_some (r.statements limit D q (length a.0 + 1) [] a.0) _ _ a.2 in
        let j = statements_sound (length a.0 + 1) [] a.0 c.0.1 c.0.0 c.1 in
        let g = bind_some (past_label c.0.1) _ _ c.2 in
        let n = label_sound c.0.1 g.0 g.1 in
        bounded_as (suc f) (b ∷ s) g.0 us (st.Block b.at j.others) y (ap (λ z. (st.Block b.at z, g.0)) (sym j.all) ∙ some_is _ _ g.2)
        (shut_off f (b ∷ s) g.0 (st.Block b.at j.others) ((b ∷ i.front ++ j.front) ++ j.close ∷ n.front)
        (ap (λ l. b ∷ l) (i.split ∙ ap (λ l. i.front ++ l) (j.split ∙ ap (λ l. j.front ++ (j.close ∷ l)) n.split)) ∙ sym (regroup4 (b ∷ i.front) j.front (j.close ∷ n.front) g.0))
        (block b j.close is i.derives j.derives j.is_close n.derives))

    -- ---- case statements

    arm_at : {n : ℕ} {o : Bool} {ts us vs : Tokens} {ys : List Expr} {y : Stmt} {arms : List (List Expr × Stmt)} (c : Token) → D ≡ suc d → Several limit D ts ys → c.kind ≡ k.Mark m.Colon
        → Statement limit d o n us y → n ≤ limit → Arms limit D vs arms → Arms limit D (ts ++ c ∷ us ++ vs) ((ys, y) ∷ arms)
    arm_at {ts = ts} {us = us} {vs = vs} {ys = ys} {y = y} {arms = arms} c is i is_c j le g =
        subst (λ D'. Arms limit D' (ts ++ c ∷ us ++ vs) ((ys, y) ∷ arms)) (sym is) (arm c (subst (λ D'. Several limit D' ts ys) is i) is_c j le (subst (λ D'. Arms limit D' vs arms) is g))

    arms_sound : (f : ℕ) (found : List (List Expr × Stmt)) (s us : Tokens) (ys : List (List Expr × Stmt)) → r.arms limit D q f found s ≡ Some (ys, us)
        → (zs : List (List Expr × Stmt)) × (ys ≡ found ++ zs) × Took (λ p. Arms limit D p zs) s us
    unfolding r.arms r.arm
    arms_sound zero found s us ys e = absurd cc
    arms_sound (suc f) found s us ys e =
        elim (if_cases (r.arm_first s) _ _ _ e) [
          | inl h ↦
              let o = bind_some (r.arm limit D q s) _ _ h.1 in
              let a = bind_some (r.values limit D s) _ _ o.1 in
              let i = values_sound s a.0.1 a.0.0 a.1 in
              let b = bind_some (expect m.Colon a.0.1) _ _ a.2 in
              let c = expect_of m.Colon a.0.1 b.0 b.1 in
              let g = bind_some (q b.0) _ _ b.2 in
              let j = S b.0 g.0.1 g.0.0 g.1 in
              let p : ((a.0.0, g.0.0), g.0.1) ≡ o.0 = some_is _ _ g.2 in
              let n = arms_sound f (found ++ o.0.0 ∷ []) o.0.1 us ys o.2 in
              let n' : (zs : List (List Expr × Stmt)) × (ys ≡ (found ++ (a.0.0, g.0.0) ∷ []) ++ zs) × Took (λ p. Arms limit D p zs) g.0.1 us =
              subst (λ (v : (List Expr × Stmt) × Tokens). (zs : List (List Expr × Stmt)) × (ys ≡ (found ++ v.0 ∷ []) ++ zs) × Took (λ p. Arms limit D p zs) v.1 us) (sym p) n in (
                (a.0.0, g.0.0) ∷ n'.0,
                n'.1 ∙ append_assoc found ((a.0.0, g.0.0) ∷ []) n'.0,
                record {
                  front = (i.front ++ c.token ∷ j.1.front) ++ n'.2.front;
                  split = i.split ∙ ap (λ l. i.front ++ l) (c.is ∙ ap (λ l. c.token ∷ l) (j.1.split ∙ ap (λ l. j.1.front ++ l) n'.2.split)) ∙ sym (regroup4 i.front (c.token ∷ j.1.front) n'.2.front us);
                  derives = arm_at c.token j.0 i.derives c.is_mark j.1.derives j.1.few n'.2.derives;
                },
              )
          | inr h ↦
              let p : (found, s) ≡ (ys, us) = some_is _ _ h.1 in
              ([], sym (ap (λ v. v.0) p) ∙ sym (append-nil found), record { front = []; split = ap (λ v. v.1) p; derives = no_arms })
        ]

    default_at : {ts : Tokens} {y : Option Stmt} → D ≡ suc d → Default limit (suc d) ts y → Default limit D ts y
    default_at {ts = ts} {y = y} is i = subst (λ D'. Default limit D' ts y) (sym is) i

    default_sound : (s us : Tokens) (y : Option Stmt) → r.default limit D q s ≡ Some (y, us) → Took (λ p. Default limit D p y) s us
    unfolding r.default past_colon
    default_sound s us y e =
        elim (if_cases (is_word w.Default s) _ _ _ e) [
          | inl h ↦
              let t = word_of w.Default s h.0 in
              let a = bind_some (q (past_colon (drop 1 s))) _ _ h.1 in
              let i = S (past_colon (drop 1 s)) a.0.1 a.0.0 a.1 in
              elim (if_cases (is_at m.Colon (drop 1 s)) (drop 1 (drop 1 s)) (drop 1 s) (past_colon (drop 1 s)) refl) [
                | inl g ↦
                    let c = front_of m.Colon (drop 1 s) g.0 in
                    took_as (λ v p. Default limit D p v) s a.0.1 us (Some a.0.0) y (some_is _ _ a.2)
                    (record { front = t.token ∷ c.token ∷ i.1.front; split = t.is ∙ ap (λ l. t.token ∷ l) (c.is ∙ ap (λ l. c.token ∷ l) (g.1 ∙ i.1.split)); derives = default_at i.0 (default_colon t.token c.token t.is_word c.is_mark i.1.derives i.1.few) })
                | inr g ↦
                    took_as (λ v p. Default limit D p v) s a.0.1 us (Some a.0.0) y (some_is _ _ a.2)
                    (record { front = t.token ∷ i.1.front; split = t.is ∙ ap (λ l. t.token ∷ l) (g.1 ∙ i.1.split); derives = default_at i.0 (default t.token t.is_word i.1.derives i.1.few) })
              ]
          | inr h ↦ took_as (λ v p. Default limit D p v) s s us None y (some_is _ _ h.1) (record { front = []; split = refl; derives = no_default })
        ]

    case_sound : (f : ℕ) (c : Token) (s us : Tokens) (y : Stmt) → c.kind ≡ k.Word w.Case → r.case_of limit D q c.at s ≡ Some (y, us) → Bounded (suc f) (c ∷ s) us y
    unfolding r.case_of
    case_sound f c s us y is e =
        let a = bind_some (r.tested limit D s) _ _ e in
        let i = tested_sound limit D s a.0.1 a.0.0 a.1 in
        let b = bind_some (r.arms limit D q (length a.0.1 + 1) [] a.0.1) _ _ a.2 in
        let j = arms_sound (length a.0.1 + 1) [] a.0.1 b.0.1 b.0.0 b.1 in
        let g = bind_some (r.default limit D q b.0.1) _ _ b.2 in
        let n = default_sound b.0.1 g.0.1 g.0.0 g.1 in
        let h = bind_some (expect_word w.EndCase g.0.1) _ _ g.2 in
        let z = expect_word_of w.EndCase g.0.1 h.0 h.1 in
        let arms_are : Arms limit D j.2.front b.0.0 = subst (λ l. Arms limit D j.2.front l) (sym j.1) j.2.derives in
        bounded_as (suc f) (c ∷ s) h.0 us (st.Case c.at a.0.0 b.0.0 g.0.0) y (some_is _ _ h.2)
        (shut_off f (c ∷ s) h.0 (st.Case c.at a.0.0 b.0.0 g.0.0) (((c ∷ i.front ++ j.2.front) ++ n.front) ++ z.token ∷ [])
        (ap (λ l. c ∷ l) (i.split ∙ ap (λ l. i.front ++ l) (j.2.split ∙ ap (λ l. j.2.front ++ l) (n.split ∙ ap (λ l. n.front ++ l) z.is))) ∙ sym (regroup5 (c ∷ i.front) j.2.front n.front (z.token ∷ []) h.0))
        (case_of c z.token is i.derives arms_are n.derives z.is_word))

    -- ---- choices

    if_at : {n : ℕ} {o : Bool} {ts us : Tokens} {x' : Expr} {y : Stmt} (i : Token) → D ≡ suc d → i.kind ≡ k.Word w.If → Tested limit D ts x' → Statement limit d o n us y → n ≤ limit
        → Statement limit D true 0 (i ∷ ts ++ us) (st.If i.at x' y None)
    if_at {ts = ts} {us = us} {x' = x'} {y = y} i is is_i g j le =
        subst (λ D'. Statement limit D' true 0 (i ∷ ts ++ us) (st.If i.at x' y None)) (sym is) (if_only i is_i (subst (λ D'. Tested limit D' ts x') is g) j le)

    else_at : {n h : ℕ} {o : Bool} {ts us vs : Tokens} {x' : Expr} {y z : Stmt} (i c : Token) → D ≡ suc d → i.kind ≡ k.Word w.If → Tested limit D ts x' → Statement limit d false n us y → n ≤ limit
        → c.kind ≡ k.Word w.Else → Statement limit D o h vs z → Statement limit D o (suc h) (i ∷ ts ++ us ++ c ∷ vs) (st.If i.at x' y (Some z))
    else_at {h = h} {o = o} {ts = ts} {us = us} {vs = vs} {x' = x'} {y = y} {z = z} i c is is_i g j le is_c v =
        subst (λ D'. Statement limit D' o (suc h) (i ∷ ts ++ us ++ c ∷ vs) (st.If i.at x' y (Some z))) (sym is)
        (if_else i c is_i (subst (λ D'. Tested limit D' ts x') is g) j le is_c (subst (λ D'. Statement limit D' o h vs z) is v))

    -- the number bounds the `else` that may follow
    choice_sound : (f : ℕ) (next : Tokens → Read Stmt) → ((s us : Tokens) (y : Stmt) → next s ≡ Some (y, us) → Bounded f s us y) → f ≤ limit
        → (t : Token) (s us : Tokens) (y : Stmt) → t.kind ≡ k.Word w.If → r.choice limit D q next t.at s ≡ Some (y, us) → Bounded (suc f) (t ∷ s) us y
    unfolding r.choice r.otherwise
    choice_sound f next N le t s us y is e =
        let a = bind_some (r.tested limit D s) _ _ e in
        let i = tested_sound limit D s a.0.1 a.0.0 a.1 in
        let b = bind_some (q a.0.1) _ _ a.2 in
        let j = S a.0.1 b.0.1 b.0.0 b.1 in
        elim (if_cases (is_word w.Else b.0.1) _ _ _ b.2) [
          | inl h ↦
              let l = word_of w.Else b.0.1 h.0 in
              let n = bind_some (next (drop 1 b.0.1)) _ _ h.1 in
              let v = N (drop 1 b.0.1) n.0.1 n.0.0 n.1 in
              let shut : j.1.open_end ≡ false = not_open j.1.open_end b.0.1 j.1.shut h.0 in
              let body : Statement limit d false j.1.links j.1.front b.0.0 = subst (λ o. Statement limit d o j.1.links j.1.front b.0.0) shut j.1.derives in
              bounded_as (suc f) (t ∷ s) n.0.1 us (st.If t.at a.0.0 b.0.0 (Some n.0.0)) y (some_is _ _ n.2) (
                record {
                  open_end = v.0.open_end;
                  links = suc v.0.links;
                  few = omega (arith, v.1);
                  front = (t ∷ i.front ++ j.1.front) ++ l.token ∷ v.0.front;
                  split = ap (λ z. t ∷ z) (i.split ∙ ap (λ z. i.front ++ z) (j.1.split ∙ ap (λ z. j.1.front ++ z) (l.is ∙ ap (λ z. l.token ∷ z) v.0.split))) ∙ sym (regroup4 (t ∷ i.front) j.1.front (l.token ∷ v.0.front) n.0.1);
                  derives = else_at t l.token j.0 is i.derives body j.1.few l.is_word v.0.derives;
                  shut = v.0.shut;
                },
                omega (arith, v.1),
              )
          | inr h ↦
              bounded_as (suc f) (t ∷ s) b.0.1 us (st.If t.at a.0.0 b.0.0 None) y (some_is _ _ h.1) (
                record {
                  open_end = true;
                  links = 0;
                  few = omega arith;
                  front = t ∷ i.front ++ j.1.front;
                  split = ap (λ z. t ∷ z) (both i.front j.1.front s a.0.1 b.0.1 i.split j.1.split);
                  derives = if_at t j.0 is i.derives j.1.derives j.1.few;
                  shut = λ _. h.0;
                },
                omega arith,
              )
        ]

    form_sound : (f : ℕ) → f ≤ limit → ((s us : Tokens) (y : Stmt) → r.statement limit D q f s ≡ Some (y, us) → Bounded f s us y)
        → (s us : Tokens) (y : Stmt) (g : Form) → form_of (first s) ≡ g → r.by_form limit D q (r.statement limit D q f) g s ≡ Some (y, us) → Bounded (suc f) s us y
    form_sound f le N s us y form.Choice is e =
        let t = formed w.If form.Choice choice_kind (λ bad. absurd cc) s is in
        subst (λ l. Bounded (suc f) l us y) (sym t.is) (choice_sound f (r.statement limit D q f) N le t.token t.others us y t.is_word (ap (λ l. r.choice limit D q (r.statement limit D q f) (start l) (drop 1 l)) (sym t.is) ∙ e))
    form_sound f le N s us y form.Block is e =
        let t = formed w.Begin form.Block block_kind (λ bad. absurd cc) s is in
        subst (λ l. Bounded (suc f) l us y) (sym t.is) (block_sound f t.token t.others us y t.is_word (ap (λ l. r.block limit D q (start l) (drop 1 l)) (sym t.is) ∙ e))
    form_sound f le N s us y form.Case is e =
        let t = formed w.Case form.Case case_kind (λ bad. absurd cc) s is in
        subst (λ l. Bounded (suc f) l us y) (sym t.is) (case_sound f t.token t.others us y t.is_word (ap (λ l. r.case_of limit D q (start l) (drop 1 l)) (sym t.is) ∙ e))
    form_sound f le N s us y form.Led is e = led_sound f s us y e
    form_sound f le N s us y form.Simple is e = simple_at f s us y e

    pub statement_sound : (f : ℕ) → f ≤ suc limit → (s us : Tokens) (y : Stmt) → r.statement limit D q f s ≡ Some (y, us) → Bounded f s us y
    unfolding r.statement
    statement_sound zero le s us y e = absurd cc
    statement_sound (suc f) le s us y e = form_sound f (omega arith) (λ s us y e. statement_sound f (omega arith) s us y e) s us y (form_of (first s)) refl e

module _ (limit : ℕ) where
  sound_inside : (D : ℕ) → (d : ℕ) × ((s us : Tokens) (y : Stmt) → inside limit D s ≡ Some (y, us) → (D ≡ suc d) × TookStatement limit d s us y)
  unfolding inside
  sound_inside zero = (0, λ s us y e. absurd cc)
  sound_inside (suc d) =
      let i = sound_inside d in
      (d, λ s us y e. (refl, (statement_sound limit d (inside limit d) i.0 i.1 (suc limit) (omega arith) s us y e).0))

  pub whole_sound : (d : ℕ) (s us : Tokens) (y : Stmt) → r.statement limit d (inside limit d) (suc limit) s ≡ Some (y, us) → TookStatement limit d s us y
  whole_sound d s us y e = (statement_sound limit d (inside limit d) (sound_inside d).0 (sound_inside d).1 (suc limit) (omega arith) s us y e).0
