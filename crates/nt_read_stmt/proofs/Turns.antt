-- The loops of statements, which count their turns up, and the readers of the next depth.
use Rattle.std.proofs.Common.{◌≡◌, ℕ, zero, suc, ◌+◌, ◌-◌, ◌<◌, ◌≤◌, Bool, true, false, if◌then◌else◌, List, [], ◌∷◌, ◌++◌, drop, Option, Some, None, refl, sym, ap, ◌∙◌, arith}
use Rattle.nt_ast.specs.declared.expr.Expr.{Expr}
use Rattle.nt_value.specs.declared.place.Place.{Place}
use Rattle.nt_ast.specs.declared.stmt.Stmt.{Stmt}
use Rattle.nt_ast.specs.declared.stmt.Stmt.TheVariants as s
use Rattle.nt_lexer.specs.declared.kinds.Mark.TheVariants as m
use Rattle.nt_lexer.specs.declared.kinds.Word.TheVariants as w
use Rattle.nt_read_expr.specs.Tables.{Tokens, start}
use Rattle.nt_read_stmt.specs.Tables.{form_of}
use Rattle.nt_read_expr.specs.Reader.{Read, ◌>>=◌, first, is_at, below, whole}
use Rattle.nt_read_stmt.specs.Reader as r
use Rattle.nt_read_stmt.specs.Reader.{is_word, expect_word, arm_first, inside, linked}
use Rattle.nt_read_stmt.specs.declared.build.Link.{Link}
use Rattle.nt_read_stmt.specs.declared.statements.Piece.{Piece}
use Rattle.nt_read_stmt.specs.declared.statements.Piece.TheVariants as pieces
use Rattle.nt_read_stmt.specs.declared.front.Form.{Form}
use Rattle.nt_read_stmt.specs.declared.front.Form.TheVariants as form
use Rattle.nt_read_expr.proofs.Basics.{one_turn, no_turn, one_and_more, no_and_one, is_suc, bind_none, if_same}

if_other : {A : Type 0} (b : Bool) (x y z : A) → x ≡ y → (if b then z else x) ≡ (if b then z else y)
if_other true x y z e = refl
if_other false x y z e = e

pub linked_more : (links : List Link) (link : Link) (x : Stmt) → linked (links ++ link ∷ []) x ≡ linked links (s.If link.at link.test link.yes (Some x))
linked_more [] link x = refl
linked_more (l ∷ ls) link x = ap (λ z. s.If l.at l.test l.yes (Some z)) (linked_more ls link x)

module _ (limit d : ℕ) where
  module _ (inner : Tokens → Read Stmt) where
    pub statements_turn : (end at : ℕ) (found : List Stmt) (ts : Tokens) → at < end
        → r.statements limit d inner (end - at + 1) found ts
        ≡ (if is_word w.End ts then Some (found, drop 1 ts) else (inner ts >>= λ p. r.statements limit d inner (end - (at + 1) + 1) (found ++ p.0 ∷ []) p.1))
    unfolding r.statements
    statements_turn end at found ts lt = ap (λ f. r.statements limit d inner f found ts) (one_and_more end at lt)

    end_only : (b : Bool) (found : List Stmt) (ts : Tokens)
        → (let z : Option (List Stmt × Tokens) = Some (found, ts) in if b then z else None) ≡ ((let o : Option Tokens = if b then Some ts else None in o) >>= λ us. Some (found, us))
    end_only true found ts = refl
    end_only false found ts = refl

    pub statements_end : (end at : ℕ) (found : List Stmt) (ts : Tokens) → end ≤ at
        → r.statements limit d inner (end - at + 1) found ts ≡ (expect_word w.End ts >>= λ us. Some (found, us))
    unfolding r.statements expect_word
    statements_end end at found ts le = ap (λ f. r.statements limit d inner f found ts) (no_and_one end at le)
        ∙ if_other (is_word w.End ts) _ None _ (bind_none (inner ts)) ∙ end_only (is_word w.End ts) found (drop 1 ts)

    pub arms_turn : (end at : ℕ) (found : List (List Expr × Stmt)) (ts : Tokens) → at < end
        → r.arms limit d inner (end - at + 1) found ts
        ≡ (if arm_first ts then (r.arm limit d inner ts >>= λ p. r.arms limit d inner (end - (at + 1) + 1) (found ++ p.0 ∷ []) p.1) else Some (found, ts))
    unfolding r.arms
    arms_turn end at found ts lt = ap (λ f. r.arms limit d inner f found ts) (one_and_more end at lt)

    pub arms_end : (end at : ℕ) (found : List (List Expr × Stmt)) (ts : Tokens) → end ≤ at
        → r.arms limit d inner (end - at + 1) found ts ≡ (if arm_first ts then None else Some (found, ts))
    unfolding r.arms
    arms_end end at found ts le = ap (λ f. r.arms limit d inner f found ts) (no_and_one end at le) ∙ if_same (arm_first ts) _ None _ (bind_none (r.arm limit d inner ts))

    -- ---- a chain of `else`, which src/ reads by a loop

    -- what was read behind these links, with them
    abbrev pub after : List Link → Read Stmt → Read Stmt
    after links read = read >>= λ p. Some (linked links p.0, p.1)

    -- one turn, and then what next reads
    abbrev pub going : List Link → (Tokens → Read Stmt) → Piece → Tokens → Read Stmt
    going links next (pieces.Goes link) ts = after (links ++ link ∷ []) (next ts)
    going links next (pieces.Ends x) ts = Some (linked links x, ts)

    ends_turn : (links : List Link) (next : Tokens → Read Stmt) (read : Read Stmt) → after links read ≡ (r.ending limit d inner read >>= λ p. going links next p.0 p.1)
    ends_turn links next None = refl
    ends_turn links next (Some p) = refl

    link_more : (links : List Link) (at : Place) (test : Expr) (body : Stmt) (read : Read Stmt)
        → after links (read >>= λ p. Some (s.If at test body (Some p.0), p.1)) ≡ after (links ++ record { at = at; test = test; yes = body } ∷ []) read
    link_more links at test body None = refl
    link_more links at test body (Some p) = ap (λ z. Some (z, p.1)) (sym (linked_more links (record { at = at; test = test; yes = body }) p.0))

    choice_goes : (links : List Link) (next : Tokens → Read Stmt) (at : Place) (ts : Tokens)
        → after links (r.choice limit d inner next at ts) ≡ (r.choice_turn limit d inner at ts >>= λ p. going links next p.0 p.1)
    unfolding r.choice r.otherwise r.choice_turn
    choice_goes links next at ts = by_test (r.tested limit d ts)
      where
        by_else : (b : Bool) (test : Expr) (body : Stmt) (vs : Tokens)
            → after links (if b then (next (drop 1 vs) >>= λ p. Some (s.If at test body (Some p.0), p.1)) else Some (s.If at test body None, vs))
            ≡ ((let t : Read Piece = if b then Some (pieces.Goes (record { at = at; test = test; yes = body }), drop 1 vs) else Some (pieces.Ends (s.If at test body None), vs) in t) >>= λ p. going links next p.0 p.1)
        by_else true test body vs = link_more links at test body (next (drop 1 vs))
        by_else false test body vs = refl

        by_yes : (test : Expr) (o : Read Stmt)
            → after links (o >>= λ q. if is_word w.Else q.1 then (next (drop 1 q.1) >>= λ p. Some (s.If at test q.0 (Some p.0), p.1)) else Some (s.If at test q.0 None, q.1))
            ≡ ((o >>= λ q. (let t : Read Piece = if is_word w.Else q.1 then Some (pieces.Goes (record { at = at; test = test; yes = q.0 }), drop 1 q.1) else Some (pieces.Ends (s.If at test q.0 None), q.1) in t)) >>= λ p. going links next p.0 p.1)
        by_yes test None = refl
        by_yes test (Some q) = by_else (is_word w.Else q.1) test q.0 q.1

        by_test : (o : Read Expr)
            → after links (o >>= λ e. inner e.1 >>= λ q. if is_word w.Else q.1 then (next (drop 1 q.1) >>= λ p. Some (s.If at e.0 q.0 (Some p.0), p.1)) else Some (s.If at e.0 q.0 None, q.1))
            ≡ ((o >>= λ e. inner e.1 >>= λ q. (let t : Read Piece = if is_word w.Else q.1 then Some (pieces.Goes (record { at = at; test = e.0; yes = q.0 }), drop 1 q.1) else Some (pieces.Ends (s.If at e.0 q.0 None), q.1) in t)) >>= λ p. going links next p.0 p.1)
        by_test None = refl
        by_test (Some e) = by_yes e.0 (inner e.1)

    form_goes : (links : List Link) (next : Tokens → Read Stmt) (form : Form) (ts : Tokens)
        → after links (r.by_form limit d inner next form ts) ≡ (r.turn_by limit d inner form ts >>= λ p. going links next p.0 p.1)
    form_goes links next form.Choice ts = choice_goes links next (start ts) (drop 1 ts)
    form_goes links next form.Block ts = ends_turn links next (r.block limit d inner (start ts) (drop 1 ts))
    form_goes links next form.Case ts = ends_turn links next (r.case_of limit d inner (start ts) (drop 1 ts))
    form_goes links next form.Led ts = ends_turn links next (r.led limit d inner ts)
    form_goes links next form.Simple ts = ends_turn links next (r.simple limit d ts)

    pub links_turn : (end at : ℕ) (links : List Link) (ts : Tokens) → at < end
        → after links (r.statement limit d inner (end - at) ts) ≡ (r.turn limit d inner ts >>= λ p. going links (r.statement limit d inner (end - (at + 1))) p.0 p.1)
    unfolding r.statement r.turn
    links_turn end at links ts lt =
        ap (λ f. after links (r.statement limit d inner f ts)) (one_turn end at lt) ∙ form_goes links (r.statement limit d inner (end - (at + 1))) (form_of (first ts)) ts

    pub links_end : (end at : ℕ) (links : List Link) (ts : Tokens) → end ≤ at → after links (r.statement limit d inner (end - at) ts) ≡ None
    unfolding r.statement
    links_end end at links ts le = ap (λ f. after links (r.statement limit d inner f ts)) (no_turn end at le)

    -- no statement begins where no tokens are
    pub turn_nothing : r.turn limit d inner [] ≡ None
    unfolding r.turn r.simple
    turn_nothing = refl

    -- before the first turn
    pub links_begin : (read : Read Stmt) → after [] read ≡ read
    links_begin None = refl
    links_begin (Some p) = refl

pub inside_zero : (limit d : ℕ) (ts : Tokens) → d ≡ 0 → inside limit d ts ≡ None
unfolding inside
inside_zero limit d ts e = rw e refl

after_one : (n : ℕ) → suc n ≡ n + 1
after_one n = omega arith

pub inside_suc : (limit d : ℕ) (ts : Tokens) → 0 < d → inside limit d ts ≡ r.statement limit (d - 1) (inside limit (d - 1)) (limit + 1) ts
unfolding inside
inside_suc limit d ts lt = ap (λ n. inside limit n ts) (is_suc d lt) ∙ ap (λ f. r.statement limit (d - 1) (inside limit (d - 1)) f ts) (after_one limit)
