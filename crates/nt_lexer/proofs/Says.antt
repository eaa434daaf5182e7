-- Texts are taken as they are written.
use Rattle.std.proofs.Common.{◌≡◌, ℕ, suc, ◌+◌, Bool, true, false, not, ◌||◌, if◌then◌else◌, [], ◌∷◌, ◌++◌, length, take, Option, Some, None, inl, inr, refl, sym, ap, subst, ◌∙◌, arith}
use Rattle.std.specs.Prelude.{◌==◌}
use Rattle.std.proofs.lemmas.Bool.{eqb-true}
use Rattle.nt_lexer.specs.Bytes.{Bytes}
use Rattle.nt_lexer.specs.Pieces.{plus, goes_inside, escapes, closes, inside_len, is_escape, said, escape_value, text_value}
use Rattle.nt_lexer.specs.Quoted.{Says, nothing, plain, escape, Quoted, EachText}
use Rattle.nt_lexer.proofs.Fronts.{if_cases, some_is}

-- ---- what is written is taken

plain_len : (b : ℕ) (bs : Bytes) (n : ℕ) → (b == 34 || b == 10) ≡ false → (b == 92) ≡ false → inside_len false bs ≡ Some n → inside_len false (b ∷ bs) ≡ Some (suc n)
plain_len b bs n e f i =
    let one : 1 + n ≡ suc n = omega arith in
    ap (λ (t : Bool). if not t then plus 1 (inside_len (b == 92) bs) else closes false b) e ∙ ap (λ (t : Bool). plus 1 (inside_len t bs)) f ∙ ap (plus 1) i ∙ ap Some one

escape_len : (b : ℕ) (bs : Bytes) (n : ℕ) → is_escape b ≡ true → inside_len false bs ≡ Some n → inside_len false (92 ∷ b ∷ bs) ≡ Some (suc (suc n))
escape_len b bs n e i =
    let two : 1 + (1 + n) ≡ suc (suc n) = omega arith in
    ap (λ (t : Bool). plus 1 (if t then plus 1 (inside_len false bs) else closes true b)) e ∙ ap (λ o. plus 1 (plus 1 o)) i ∙ ap Some two

plain_said : (b : ℕ) (bs : Bytes) → (b == 92) ≡ false → text_value false (b ∷ bs) ≡ b ∷ text_value false bs
unfolding said
plain_said b bs f = ap (λ (t : Bool). (if t then [] else b ∷ []) ++ text_value t bs) f

escape_said : (b : ℕ) (bs : Bytes) → text_value false (92 ∷ b ∷ bs) ≡ escape_value b ∷ text_value false bs
unfolding said
escape_said b bs = refl

len : {inside said : Bytes} → Says inside said → (rest : Bytes) → inside_len false (inside ++ 34 ∷ rest) ≡ Some (length inside)
len nothing rest = refl
len (plain {b = b} {bs = bs} e f s) rest = plain_len b (bs ++ 34 ∷ rest) (length bs) e f (len s rest)
len (escape {b = b} {bs = bs} e s) rest = escape_len b (bs ++ 34 ∷ rest) (length bs) e (len s rest)

value : {inside said : Bytes} → Says inside said → text_value false inside ≡ said
value nothing = refl
value (plain {b = b} {bs = bs} e f s) = plain_said b bs f ∙ ap (λ t. b ∷ t) (value s)
value (escape {b = b} {bs = bs} e s) = escape_said b bs ∙ ap (λ t. escape_value b ∷ t) (value s)

-- ---- what is taken is so written

record More (o : Option ℕ) (n : ℕ) : Type 0 where
  less : ℕ
  is : o ≡ Some less
  count : n ≡ suc less

more : (o : Option ℕ) (n : ℕ) → plus 1 o ≡ Some n → More o n
more (Some m) n e = let same : 1 + m ≡ n = some_is (1 + m) n e in record { less = m; is = refl; count = omega (arith, same) }
more None n e = absurd cc

not_true : (t : Bool) → not t ≡ true → t ≡ false
not_true true e = absurd cc
not_true false e = refl

not_false : (t : Bool) → not t ≡ false → t ≡ true
not_false true e = refl
not_false false e = absurd cc

plain_quoted : (b : ℕ) (bs : Bytes) (m : ℕ) → (b == 34 || b == 10) ≡ false → (b == 92) ≡ false → Quoted bs m → Quoted (b ∷ bs) (suc m)
plain_quoted b bs m e f q = record { said = b ∷ q.said; says = plain e f q.says; closes = q.closes }

escape_quoted : (a b : ℕ) (bs : Bytes) (m : ℕ) → a ≡ 92 → is_escape b ≡ true → Quoted bs m → Quoted (a ∷ b ∷ bs) (suc (suc m))
escape_quoted a b bs m first e q =
    record { said = escape_value b ∷ q.said; says = subst (λ x. Says (x ∷ b ∷ take m bs) (escape_value b ∷ q.said)) (sym first) (escape e q.says); closes = q.closes }

closed : (b : ℕ) (bs : Bytes) (n : ℕ) → closes false b ≡ Some n → Quoted (b ∷ bs) n
closed b bs n e =
    elim (if_cases (b == 34) (Some 0) None (Some n) e) [
      | inl h ↦
          let none : 0 ≡ n = some_is 0 n h.1 in
          subst (Quoted (b ∷ bs)) none (record { said = []; says = nothing; closes = ap (λ x. x ∷ bs) (eqb-true b 34 h.0) })
      | inr h ↦ absurd (let bad = h.1 in cc)
    ]

not_closed : (b n : ℕ) → closes true b ≡ Some n → ⊥
not_closed b n e = cc

-- after an escaping backslash
abbrev Goes : Bool → Bytes → ℕ → Type 0
Goes false text n = Quoted text n
Goes true text n = (b : ℕ) → b ≡ 92 → Quoted (b ∷ text) (suc n)

join : (b : ℕ) (bs : Bytes) (m : ℕ) (t : Bool) → (b == 92) ≡ t → (b == 34 || b == 10) ≡ false → Goes t bs m → Quoted (b ∷ bs) (suc m)
join b bs m false f g q = plain_quoted b bs m g f q
join b bs m true f g q = q b (eqb-true b 92 f)

quote : (t : Bool) (text : Bytes) (n : ℕ) → inside_len t text ≡ Some n → Goes t text n
quote false [] n e = absurd cc
quote true [] n e = absurd cc
quote false (b ∷ bs) n e =
    elim (if_cases (goes_inside false b) (plus 1 (inside_len (escapes false b) bs)) (closes false b) (Some n) e) [
      | inl h ↦
          let m = more (inside_len (b == 92) bs) n h.1 in
          subst (Quoted (b ∷ bs)) (sym m.count) (join b bs m.less (b == 92) refl (not_true (b == 34 || b == 10) h.0) (quote (b == 92) bs m.less m.is))
      | inr h ↦ closed b bs n h.1
    ]
quote true (c ∷ cs) n e =
    elim (if_cases (is_escape c) (plus 1 (inside_len false cs)) (closes true c) (Some n) e) [
      | inl h ↦
          let m = more (inside_len false cs) n h.1 in
          let q : Quoted cs m.less = quote false cs m.less m.is in
          λ b first. subst (λ k. Quoted (b ∷ c ∷ cs) (suc k)) (sym m.count) (escape_quoted b c cs m.less first h.0 q)
      | inr h ↦ absurd (not_closed c n h.1)
    ]

pub each : EachText
each = record { taken = λ inside said rest s. (len s rest, value s); quoted = λ text n e. quote false text n e }
