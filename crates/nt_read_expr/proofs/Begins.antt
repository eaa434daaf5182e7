-- The first tokens of what the grammar derives.
use Rattle.std.proofs.Common.{◌≡◌, ℕ, Bool, false, List, [], ◌∷◌, ◌++◌, Some, None, refl, sym, ap, ◌∙◌, subst, append_assoc}
use Rattle.nt_value.specs.declared.place.Place.{Place}
use Rattle.nt_value.specs.declared.operator.Unary.{Unary}
use Rattle.nt_ast.specs.declared.path.Path.{Path}
use Rattle.nt_ast.specs.declared.expr.Expr.{Expr}
use Rattle.nt_lexer.specs.declared.kinds.Mark.{Mark}
use Rattle.nt_lexer.specs.declared.kinds.Mark.TheVariants as m
use Rattle.nt_lexer.specs.declared.kinds.TokenKind.TheVariants as k
use Rattle.nt_lexer.specs.declared.kinds.Token.{Token}
use Rattle.nt_read_expr.specs.Tables.{Tokens, binary_of, unary_of, key_of, start}
use Rattle.nt_read_expr.specs.Derivation.{Reference, alone, scoped, Expression, plain, choose, Chain, single, tighter, joined, Operand, literal, left, size, size_call, bracketed, prefixed, concat, repetition, pattern_of, call, call_none, now, signed, Left, named, selected, Select, member, item, part, indexed, Several, several, last, another}
use Rattle.nt_read_expr.specs.Reader.{is_kind, is_at, key_first}
use Rattle.nt_read_expr.proofs.Follows.{at_other, key_alone, key_never}

-- A first token, which closes nothing, and no key with its colon.
pub record Begins (ts : Tokens) : Type 0 where
  pub token : Token
  pub others : Tokens
  pub is : ts ≡ token ∷ others
  pub unclosed : is_kind m.RightParen token.kind ≡ false
  pub unkeyed : (us : Tokens) → is_at m.Colon us ≡ false → key_first (ts ++ us) ≡ None

-- what follows a first part does not begin with a colon
abbrev pub GoesOn : Tokens → Type 0
GoesOn us = (vs : Tokens) → is_at m.Colon vs ≡ false → is_at m.Colon (us ++ vs) ≡ false

begins_append : {ts : Tokens} → Begins ts → (us : Tokens) → GoesOn us → Begins (ts ++ us)
begins_append {ts = ts} b us g = record {
  token = b.token;
  others = b.others ++ us;
  is = ap (λ s. s ++ us) b.is;
  unclosed = b.unclosed;
  unkeyed = λ vs c. ap key_first (append_assoc ts us vs) ∙ b.unkeyed (us ++ vs) (g vs c);
}

-- what begins with another mark
mark_on : (t : Token) (ts : Tokens) (mark : Mark) → t.kind ≡ k.Mark mark → is_kind m.Colon (k.Mark mark) ≡ false → GoesOn (t ∷ ts)
mark_on t ts mark e f = λ vs c. at_other m.Colon mark t (ts ++ vs) e f

pub start_append : {ts : Tokens} → Begins ts → (us : Tokens) → start (ts ++ us) ≡ start ts
start_append b us = ap (λ s. start (s ++ us)) b.is ∙ sym (ap start b.is)

one_begins : (t : Token) → is_kind m.RightParen t.kind ≡ false → Begins (t ∷ [])
one_begins t e = record { token = t; others = []; is = refl; unclosed = e; unkeyed = λ us c. key_alone t us c }

some_begins : (t : Token) (ts : Tokens) → is_kind m.RightParen t.kind ≡ false → key_of t.kind ≡ None → Begins (t ∷ ts)
some_begins t ts e f = record { token = t; others = ts; is = refl; unclosed = e; unkeyed = λ us c. key_never t (ts ++ us) f }

mark_begins : (t : Token) (ts : Tokens) (mark : Mark) → t.kind ≡ k.Mark mark → is_kind m.RightParen (k.Mark mark) ≡ false → Begins (t ∷ ts)
mark_begins t ts mark e f = some_begins t ts (ap (is_kind m.RightParen) e ∙ f) (ap key_of e)

prefix_unclosed : (mark : Mark) (op : Unary) → unary_of mark ≡ Some op → is_kind m.RightParen (k.Mark mark) ≡ false
prefix_unclosed m.RightParen op e = absurd cc
prefix_unclosed _ op e = refl

binary_on : (mark : Mark) (op : _) → binary_of mark ≡ Some op → is_kind m.Colon (k.Mark mark) ≡ false
binary_on m.Colon op e = absurd cc
binary_on _ op e = refl

pub reference_begins : {ts : Tokens} {path : Path} → Reference ts path → Begins ts
reference_begins (alone t e) = one_begins t (ap (is_kind m.RightParen) e)
reference_begins (scoped p q t ep eq et) = begins_append (one_begins p (ap (is_kind m.RightParen) ep)) (q ∷ t ∷ []) (mark_on q (t ∷ []) m.Scope eq refl)

module _ (limit : ℕ) where
  select_on : {d : ℕ} {free : Bool} {at : Place} {x y : Expr} {ts : Tokens} → Select limit d free at x ts y → GoesOn ts
  select_on (member o t eo et f) = mark_on o (t ∷ []) m.Dot eo refl
  select_on (item {ts = ts} o c eo y ec) = mark_on o (ts ++ c ∷ []) m.LeftBracket eo refl
  select_on (part {ts = ts} {us = us} o q c eo y eq z ec) = mark_on o ((ts ++ q ∷ us) ++ c ∷ []) m.LeftBracket eo refl
  select_on (indexed {ts = ts} {us = us} mark up o q c eo y eq eu z ec) = mark_on o ((ts ++ q ∷ us) ++ c ∷ []) m.LeftBracket eo refl

  pub left_begins : {d n : ℕ} {free : Bool} {ts : Tokens} {x : Expr} → Left limit d free n ts x → Begins ts
  left_begins (named p) = reference_begins p
  left_begins (selected l s) = begins_append (left_begins l) _ (select_on s)

  pub operand_begins : {d : ℕ} {ts : Tokens} {x : Expr} → Operand limit d ts x → Begins ts
  operand_begins (literal t e) = one_begins t (ap (is_kind m.RightParen) e)
  operand_begins (left l le) = left_begins l
  operand_begins (size o t l le eo et f) = begins_append (left_begins l) _ (mark_on o (t ∷ []) m.Dot eo refl)
  operand_begins (size_call o t p c l le eo et f ep ec) = begins_append (left_begins l) _ (mark_on o (t ∷ p ∷ c ∷ []) m.Dot eo refl)
  operand_begins (bracketed o c eo x ec) = mark_begins o _ m.LeftParen eo refl
  operand_begins (prefixed mark op t e f x) = mark_begins t _ mark e (prefix_unclosed mark op f)
  operand_begins (concat o c eo x ec) = mark_begins o _ m.LeftBrace eo refl
  operand_begins (repetition o p q c eo x ep xs eq ec) = mark_begins o _ m.LeftBrace eo refl
  operand_begins (pattern_of o c eo xs ec) = mark_begins o _ m.TickBrace eo refl
  operand_begins (call {us = us} o c p eo xs ec) = begins_append (begins_append (reference_begins p) (o ∷ us) (mark_on o us m.LeftParen eo refl)) (c ∷ []) (mark_on c [] m.RightParen ec refl)
  operand_begins (call_none o c p eo ec) = begins_append (reference_begins p) (o ∷ c ∷ []) (mark_on o (c ∷ []) m.LeftParen eo refl)
  operand_begins (now t e f) = one_begins t (ap (is_kind m.RightParen) e)
  operand_begins (signed to t o c et f eo x ec) = some_begins t _ (ap (is_kind m.RightParen) et) (ap key_of et)

  pub chain_begins : {d h n : ℕ} {ts : Tokens} {x : Expr} → Chain limit d h n ts x → Begins ts
  chain_begins (single o) = operand_begins o
  chain_begins (tighter c) = chain_begins c
  chain_begins (joined {us = us} mark op t c e f l o) = begins_append (chain_begins c) (t ∷ us) (mark_on t us mark e (binary_on mark op f))

  pub expression_begins : {d : ℕ} {ts : Tokens} {x : Expr} → Expression limit d ts x → Begins ts
  expression_begins (plain c le) = chain_begins c
  expression_begins (choose {ts = ts} {us = us} {vs = vs} q a c le eq y ec z) =
      let b : Begins (ts ++ (q ∷ (us ++ a ∷ vs))) = begins_append (chain_begins c) (q ∷ (us ++ a ∷ vs)) (mark_on q (us ++ a ∷ vs) m.Question eq refl) in
      subst Begins (sym (append_assoc ts (q ∷ us) (a ∷ vs))) b

  pub several_begins : {d : ℕ} {ts : Tokens} {xs : List Expr} → Several limit d ts xs → Begins ts
  several_begins (several x last) = begins_append (expression_begins x) [] (λ vs c. c)
  several_begins (several x (another {ts = ts} {us = us} t e y ys)) = begins_append (expression_begins x) (t ∷ (ts ++ us)) (mark_on t (ts ++ us) m.Comma e refl)
