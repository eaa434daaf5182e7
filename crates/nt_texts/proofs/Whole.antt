-- What is told of a text that is to be one expression or one statement.
use Rattle.std.proofs.Common.{◌≡◌, ℕ, ◌+◌, ◌-◌, ◌<◌, List, [], ◌∷◌, length, drop, length-append, refl, ap, sym, subst, ◌∙◌, arith, inl, inr}
use Rattle.std.specs.Prelude.{Ok, Err}
use Rattle.nt_ast.specs.declared.expr.Expr.{Expr}
use Rattle.nt_ast.specs.declared.stmt.Stmt.{Stmt}
use Rattle.nt_diag.specs.declared.refusal.Fault.{Fault}
use Rattle.nt_diag.specs.declared.refusal.Fault.TheVariants as fault
use Rattle.nt_diag.specs.declared.refusal.Refusal.{Refusal}
use Rattle.nt_lexer.specs.Bytes.{Bytes}
use Rattle.nt_lexer.specs.Cuts.{Lexes, done, on, Stuck}
use Rattle.nt_lexer.specs.declared.kinds.Head.{Head}
use Rattle.nt_lexer.specs.declared.kinds.Token.{Token}
use Rattle.nt_parse_expr.specs.Readings.{Derives, Reads, StatementDerives, ReadsStatement, rest}
use Rattle.nt_parse_expr.specs.declared.cursor.Cursor.{Cursor}
use Rattle.nt_parse_expr.proofs.Exact.{one_only, one_statement}
use Rattle.nt_texts.specs.Texts.{CutInto, ExpressionOf, StatementOf, IsExpression, IsStatement, fresh}

-- the end stands in each list
pub some_token : {file : ℕ} {bytes : Bytes} {at : ℕ} {head last : Head} {ts : List Token} → Lexes file bytes at head ts last → 0 < length ts
some_token (done e) = omega arith
some_token (on {one = one} {rest = more} low some is l) =
    let inner = some_token l in
    omega (arith, inner, length-append one more)

whole : (ts : List Token) → drop 0 ts ≡ ts
whole [] = refl
whole (t ∷ ts) = refl

-- ---- expressions
pub refused_expression : (text : Bytes) (old new : Cursor) (head : Head) (e : Fault) → Lexes 0 text 0 fresh old.tokens.items head → old.at ≡ 0 → Reads old (Err e) new → ExpressionOf text (Err e)
refused_expression text old new head (fault.Refused r) lexes start reads =
    inr (old.tokens.items, head, lexes, λ x h. reads.0 x h.0 (subst (λ ts. Derives 64 ts x h.0) (sym (ap (λ k. drop k old.tokens.items) start ∙ whole old.tokens.items)) h.1))
refused_expression text old new head (fault.OutOfMemory e) lexes start reads = tt

pub more_than_expression : (text : Bytes) (old new : Cursor) (head : Head) (x : Expr) → Lexes 0 text 0 fresh old.tokens.items head → old.at ≡ 0 → Reads old (Ok x) new → (length new.tokens.items - new.at ≡ 1 → ⊥) → CutInto text (λ tokens. (y : Expr) → IsExpression tokens y → ⊥)
more_than_expression text old new head x lexes start reads more = (old.tokens.items, head, lexes, λ y h. none y h)
  where
    there : rest old ≡ old.tokens.items
    there = ap (λ k. drop k old.tokens.items) start ∙ whole old.tokens.items

    none : (y : Expr) → IsExpression old.tokens.items y → ⊥
    none y h =
        let same = (one_only 64 old.tokens.items (rest new) h.0 x y (subst (λ ts. Derives 64 ts x (rest new)) there reads.0) h.1).1 in
        let long : length new.tokens.items ≡ length old.tokens.items = ap (λ v. length v.items) reads.1 in
        more (omega (arith, ap length same, h.2, reads.2, long))

-- ---- statements
pub refused_statement : (text : Bytes) (old new : Cursor) (head : Head) (e : Fault) → Lexes 0 text 0 fresh old.tokens.items head → old.at ≡ 0 → ReadsStatement old (Err e) new → StatementOf text (Err e)
refused_statement text old new head (fault.Refused r) lexes start reads =
    inr (old.tokens.items, head, lexes, λ x h. reads.0 x h.0 (subst (λ ts. StatementDerives 64 ts x h.0) (sym (ap (λ k. drop k old.tokens.items) start ∙ whole old.tokens.items)) h.1))
refused_statement text old new head (fault.OutOfMemory e) lexes start reads = tt

pub more_than_statement : (text : Bytes) (old new : Cursor) (head : Head) (x : Stmt) → Lexes 0 text 0 fresh old.tokens.items head → old.at ≡ 0 → ReadsStatement old (Ok x) new → (length new.tokens.items - new.at ≡ 1 → ⊥) → CutInto text (λ tokens. (y : Stmt) → IsStatement tokens y → ⊥)
more_than_statement text old new head x lexes start reads more = (old.tokens.items, head, lexes, λ y h. none y h)
  where
    there : rest old ≡ old.tokens.items
    there = ap (λ k. drop k old.tokens.items) start ∙ whole old.tokens.items

    none : (y : Stmt) → IsStatement old.tokens.items y → ⊥
    none y h =
        let same = (one_statement 64 old.tokens.items (rest new) h.0 x y (subst (λ ts. StatementDerives 64 ts x (rest new)) there reads.0) h.1).1 in
        let long : length new.tokens.items ≡ length old.tokens.items = ap (λ v. length v.items) reads.1 in
        more (omega (arith, ap length same, h.2, reads.2, long))
