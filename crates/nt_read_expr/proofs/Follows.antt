-- What a first token says of how an expression may go on.
use Rattle.std.proofs.Common.{◌≡◌, ℕ, ◌<◌, ◌≤◌, Bool, true, false, List, [], ◌∷◌, Option, Some, None, refl, ap, ◌∙◌, arith, eq-eqb}
use Rattle.std.specs.Prelude.{if◌then◌else◌}
use Rattle.std.proofs.lemmas.Bool.{ne_eqb}
use Rattle.nt_value.specs.declared.place.Place.{Place}
use Rattle.nt_value.specs.declared.operator.Unary.{Unary}
use Rattle.nt_value.specs.declared.operator.Binary.{Binary}
use Rattle.nt_ast.specs.declared.expr.Key.{Key}
use Rattle.nt_ast.specs.declared.expr.Expr.{Expr}
use denote.Enum.Bare.{same_true, true_same}
use Rattle.nt_lexer.specs.contracts.kinds.Mark.{the_type}
use Rattle.nt_lexer.specs.declared.kinds.Mark.{Mark}
use Rattle.nt_lexer.specs.declared.kinds.Mark.TheVariants as m
use Rattle.nt_lexer.specs.declared.kinds.TokenKind.{TokenKind}
use Rattle.nt_lexer.specs.declared.kinds.TokenKind.TheVariants as k
use Rattle.nt_lexer.specs.declared.kinds.Token.{Token}
use Rattle.nt_read_expr.specs.Tables.{Tokens, binary_of, level, unary_of, upward, key_of, stops, stop_first}
use Rattle.nt_read_expr.specs.Reader.{either, first, same_mark, is_kind, is_at, expect, name_kind, name_first, of_level, binary_kind, binary_first, dotted, key_first, Readers, operand_by, prefixed, index_by, direction}

-- How tightly a mark that is no operator binds what stands before it: a select by 0, `?` by 11.
abbrev pub far : Mark → ℕ
far m.LeftParen = 0
far m.LeftBracket = 0
far m.Dot = 0
far m.Scope = 0
far m.Question = 11
far _ = 12

-- and a mark, where an operator binds by its level
abbrev pub reach : Mark → ℕ
reach mark = either (binary_of mark) (far mark) level

abbrev pub reach_kind : TokenKind → ℕ
reach_kind (k.Mark mark) = reach mark
reach_kind _ = 12

-- what stands first does not go on with an expression of this height
pub record Follow (h : ℕ) (ts : Tokens) : Type 0 where
  pub far : h < reach_kind (first ts)

pub same_self : (n : Mark) → same_mark n n ≡ true
same_self n = true_same the_type n n refl

pub same_marks : (a b : Mark) → same_mark a b ≡ true → a ≡ b
same_marks a b e = same_true the_type tt a b e

pub kind_is : (mark : Mark) (x : TokenKind) → is_kind mark x ≡ true → x ≡ k.Mark mark
kind_is mark (k.Mark n) e = ap k.Mark (same_marks n mark e)
kind_is mark (k.Word n) e = absurd cc
kind_is mark (k.Name n) e = absurd cc
kind_is mark (k.System n) e = absurd cc
kind_is mark (k.Number n) e = absurd cc
kind_is mark (k.Text n) e = absurd cc
kind_is mark k.End e = absurd cc

pub at_mark : (mark : Mark) (t : Token) (ts : Tokens) → t.kind ≡ k.Mark mark → is_at mark (t ∷ ts) ≡ true
unfolding is_at
at_mark mark t ts e = ap (is_kind mark) e ∙ same_self mark

pub at_other : (mark n : Mark) (t : Token) (ts : Tokens) → t.kind ≡ k.Mark n → same_mark n mark ≡ false → is_at mark (t ∷ ts) ≡ false
unfolding is_at
at_other mark n t ts e differs = ap (is_kind mark) e ∙ differs

pub expect_mark : (mark : Mark) (t : Token) (ts : Tokens) → t.kind ≡ k.Mark mark → expect mark (t ∷ ts) ≡ Some ts
unfolding expect
expect_mark mark t ts e = rw (at_mark mark t ts e) refl

pub follow_mark : (mark : Mark) (h : ℕ) (t : Token) (ts : Tokens) → t.kind ≡ k.Mark mark → h < reach mark → Follow h (t ∷ ts)
follow_mark mark h t ts e lt = record { far = let P : TokenKind → Type 0 = λ x. h < reach_kind x in rw e lt }

pub false_of : (b : Bool) → (b ≡ true → ⊥) → b ≡ false
false_of true f = absurd (f refl)
false_of false f = refl

not_kind : (mark : Mark) (h : ℕ) (x : TokenKind) → reach mark ≤ h → h < reach_kind x → is_kind mark x ≡ false
not_kind mark h x le lt = false_of (is_kind mark x) (λ e. let same = ap reach_kind (kind_is mark x e) in omega (arith, same, le, lt))

pub not_at : (mark : Mark) (h : ℕ) (ts : Tokens) → reach mark ≤ h → Follow h ts → is_at mark ts ≡ false
unfolding is_at
not_at mark h ts le fo = not_kind mark h (first ts) le fo.far

pub lower : {h j : ℕ} {ts : Tokens} → Follow h ts → j ≤ h → Follow j ts
lower fo le = record { far = omega (arith, fo.far) }

-- ---- the marks of the operators

pub reach_binary : (mark : Mark) (op : Binary) → binary_of mark ≡ Some op → reach mark ≡ level op
reach_binary mark op e = ap (λ o. either o (far mark) level) e

of_level_same : (h : ℕ) (op : Binary) → level op ≡ h → of_level h (Some op) ≡ Some op
of_level_same h op e = rw (eq-eqb (level op) h e) refl

of_level_below : (h : ℕ) (op : Binary) → h < level op → of_level h (Some op) ≡ None
of_level_below h op lt = rw (ne_eqb (level op) h (omega arith)) refl

level_none : (h : ℕ) (o : Option Binary) (other : ℕ) → h < either o other level → of_level h o ≡ None
level_none h None other lt = refl
level_none h (Some op) other lt = of_level_below h op lt

kind_none : (h : ℕ) (x : TokenKind) → h < reach_kind x → binary_kind h x ≡ None
kind_none h (k.Mark mark) lt = level_none h (binary_of mark) (far mark) lt
kind_none h (k.Word n) lt = refl
kind_none h (k.Name n) lt = refl
kind_none h (k.System n) lt = refl
kind_none h (k.Number n) lt = refl
kind_none h (k.Text n) lt = refl
kind_none h k.End lt = refl

pub binary_none : (h : ℕ) (ts : Tokens) → Follow h ts → binary_first h ts ≡ None
unfolding binary_first
binary_none h ts fo = kind_none h (first ts) fo.far

pub binary_some : (h : ℕ) (mark : Mark) (op : Binary) (t : Token) (ts : Tokens) → t.kind ≡ k.Mark mark → binary_of mark ≡ Some op → level op ≡ h
    → binary_first h (t ∷ ts) ≡ Some op
unfolding binary_first
binary_some h mark op t ts e b l = ap (binary_kind h) e ∙ ap (of_level h) b ∙ of_level_same h op l

pub operand_prefix : (limit : ℕ) (r : Readers) (mark : Mark) (op : Unary) (x : TokenKind) (ts : Tokens) (at : Place) → x ≡ k.Mark mark → unary_of mark ≡ Some op
    → operand_by limit r x at ts ≡ prefixed limit r at (Some op) ts
operand_prefix limit r mark op x ts at is is_op = ap (λ y. operand_by limit r y at ts) is ∙ by_mark mark is_op
  where
    by_mark : (n : Mark) → unary_of n ≡ Some op → operand_by limit r (k.Mark n) at ts ≡ prefixed limit r at (Some op) ts
    by_mark m.LeftParen f = absurd cc
    by_mark m.LeftBrace f = absurd cc
    by_mark m.TickBrace f = absurd cc
    by_mark n f = ap (λ o. prefixed limit r at o ts) f

pub index_direction : (limit : ℕ) (r : Readers) (mark : Mark) (up : Bool) (x : TokenKind) (ts : Tokens) (at : Place) (of by : Expr) → x ≡ k.Mark mark → upward mark ≡ Some up
    → index_by limit r x at of by ts ≡ direction limit r at of by (Some up) ts
index_direction limit r mark up x ts at of by is is_up = ap (λ y. index_by limit r y at of by ts) is ∙ by_mark mark is_up
  where
    by_mark : (n : Mark) → upward n ≡ Some up → index_by limit r (k.Mark n) at of by ts ≡ direction limit r at of by (Some up) ts
    by_mark m.RightBracket f = absurd cc
    by_mark m.Colon f = absurd cc
    by_mark n f = ap (λ o. direction limit r at of by o ts) f

pub upward_far : (mark : Mark) (up : Bool) → upward mark ≡ Some up → 11 < reach mark
upward_far m.PlusColon up e = omega arith
upward_far m.MinusColon up e = omega arith
upward_far _ up e = absurd cc

-- ---- names

pub name_some : (t : Token) (ts : Tokens) (name : List ℕ) → t.kind ≡ k.Name name → name_first (t ∷ ts) ≡ Some name
unfolding name_first
name_some t ts name e = ap name_kind e

pub dotted_none : (test : List ℕ → Bool) (ts : Tokens) → Follow 0 ts → dotted test ts ≡ None
unfolding dotted
dotted_none test ts fo = rw (not_at m.Dot 0 ts (omega arith) fo) refl

pub dotted_some : (test : List ℕ → Bool) (o t : Token) (ts : Tokens) (name : List ℕ) → o.kind ≡ k.Mark m.Dot → t.kind ≡ k.Name name → test name ≡ true
    → dotted test (o ∷ t ∷ ts) ≡ Some name
unfolding dotted
dotted_some test o t ts name e f g = rw (at_mark m.Dot o (t ∷ ts) e, name_some t ts name f, g) refl

pub dotted_other : (test : List ℕ → Bool) (o t : Token) (ts : Tokens) (name : List ℕ) → o.kind ≡ k.Mark m.Dot → t.kind ≡ k.Name name → test name ≡ false
    → dotted test (o ∷ t ∷ ts) ≡ None
unfolding dotted
dotted_other test o t ts name e f g = rw (at_mark m.Dot o (t ∷ ts) e, name_some t ts name f, g) refl

pub key_some : (t c : Token) (ts : Tokens) (key : Key) → key_of t.kind ≡ Some key → c.kind ≡ k.Mark m.Colon → key_first (t ∷ c ∷ ts) ≡ Some key
unfolding key_first
key_some t c ts key e f = rw (at_mark m.Colon c ts f) e

-- no key where no colon stands second
pub key_alone : (t : Token) (ts : Tokens) → is_at m.Colon ts ≡ false → key_first (t ∷ ts) ≡ None
unfolding key_first
key_alone t ts e = rw e refl

if_none : {A : Type 0} (b : Bool) (o : Option A) → o ≡ None → (if b then o else None) ≡ None
if_none true o e = e
if_none false o e = refl

-- nor where what stands first is no key
pub key_never : (t : Token) (ts : Tokens) → key_of t.kind ≡ None → key_first (t ∷ ts) ≡ None
unfolding key_first
key_never t ts e = if_none (is_at m.Colon ts) (key_of t.kind) e

-- ---- stops

stop_far : (x : TokenKind) → stops x ≡ true → 11 < reach_kind x
stop_far (k.Mark m.Semicolon) e = omega arith
stop_far (k.Mark m.Comma) e = omega arith
stop_far (k.Mark m.RightParen) e = omega arith
stop_far (k.Mark m.RightBracket) e = omega arith
stop_far (k.Mark m.RightBrace) e = omega arith
stop_far (k.Mark m.LeftBrace) e = omega arith
stop_far (k.Mark m.Colon) e = omega arith
stop_far (k.Mark m.PlusColon) e = omega arith
stop_far (k.Mark m.MinusColon) e = omega arith
stop_far (k.Mark m.Assign) e = omega arith
stop_far (k.Mark _) e = cc
stop_far (k.Word n) e = omega arith
stop_far (k.Name n) e = omega arith
stop_far (k.System n) e = omega arith
stop_far (k.Number n) e = omega arith
stop_far (k.Text n) e = omega arith
stop_far k.End e = omega arith

pub stop_follow : (ts : Tokens) → stop_first ts ≡ true → Follow 11 ts
stop_follow [] e = absurd cc
stop_follow (t ∷ ts) e = record { far = stop_far t.kind e }
