-- Steps of readings: what an answer that is something says of its parts, turns of loops, and fronts of tokens.
use Rattle.std.proofs.Common.{◌⊎◌, inl, inr, ◌≡◌, ℕ, suc, ◌+◌, ◌-◌, ◌<◌, ◌≤◌, Bool, true, false, List, [], ◌∷◌, ◌++◌, Option, Some, None, refl, sym, ap, ◌∙◌, subst, arith, append_assoc}
use Rattle.std.specs.Prelude.{if◌then◌else◌}
use Rattle.nt_lexer.specs.declared.kinds.Token.{Token}
use Rattle.nt_read_expr.specs.Tables.{Tokens}
use Rattle.nt_read_expr.specs.Reader.{◌>>=◌, either, is_some}

pub bind_some : {A B : Type 0} (o : Option A) (f : A → Option B) (y : B) → (o >>= f) ≡ Some y → (x : A) × (o ≡ Some x) × (f x ≡ Some y)
bind_some (Some x) f y e = (x, refl, e)
bind_some None f y e = absurd cc

pub some_is : {A : Type 0} (x y : A) → (let a : Option A = Some x in let b : Option A = Some y in a ≡ b) → x ≡ y
some_is x y e = cc

pub if_some : {A : Type 0} (b : Bool) (o : Option A) (y : A) → (if b then o else None) ≡ Some y → (b ≡ true) × (o ≡ Some y)
if_some true o y e = (refl, e)
if_some false o y e = absurd cc

pub if_cases : {A : Type 0} (b : Bool) (x y z : A) → (if b then x else y) ≡ z → ((b ≡ true) × (x ≡ z)) ⊎ ((b ≡ false) × (y ≡ z))
if_cases true x y z e = inl (refl, e)
if_cases false x y z e = inr (refl, e)

pub either_cases : {A B : Type 0} (o : Option A) (x : B) (f : A → B) (z : B) → either o x f ≡ z → ((o ≡ None) × (x ≡ z)) ⊎ ((a : A) × (o ≡ Some a) × (f a ≡ z))
either_cases None x f z e = inl (refl, e)
either_cases (Some a) x f z e = inr (a, refl, e)

pub some_of : {A : Type 0} (o : Option A) → is_some o ≡ true → (a : A) × (o ≡ Some a)
some_of None e = absurd cc
some_of (Some a) e = (a, refl)

-- ---- turns

pub one_turn : (end at : ℕ) → at < end → end - at ≡ suc (end - (at + 1))
one_turn end at lt = omega arith

pub one_and_more : (end at : ℕ) → at < end → end - at + 1 ≡ suc (end - (at + 1) + 1)
one_and_more end at lt = omega arith

pub no_turn : (end at : ℕ) → end ≤ at → end - at ≡ 0
no_turn end at le = omega arith

pub no_and_one : (end at : ℕ) → end ≤ at → end - at + 1 ≡ suc 0
no_and_one end at le = omega arith

pub is_suc : (n : ℕ) → 0 < n → n ≡ suc (n - 1)
is_suc n lt = omega arith

pub bind_none : {A B : Type 0} (o : Option A) → (o >>= λ x. (let b : Option B = None in b)) ≡ None
bind_none None = refl
bind_none (Some x) = refl

pub if_same : {A : Type 0} (b : Bool) (x y z : A) → x ≡ y → (if b then x else z) ≡ (if b then y else z)
if_same true x y z e = e
if_same false x y z e = refl

-- ---- fronts of the tokens

pub record Took (R : Tokens → Type 0) (s us : Tokens) : Type 0 where
  pub front : Tokens
  pub split : s ≡ front ++ us
  pub derives : R front

-- a closing token
pub close : (front s t v : Tokens) (c : Token) → s ≡ front ++ t → t ≡ c ∷ v → s ≡ (front ++ c ∷ []) ++ v
close front s t v c e f = e ∙ ap (λ l. front ++ l) f ∙ sym (append_assoc front (c ∷ []) v)

-- two parts
pub both : (p q s t us : Tokens) → s ≡ p ++ t → t ≡ q ++ us → s ≡ (p ++ q) ++ us
both p q s t us e f = e ∙ ap (λ l. p ++ l) f ∙ sym (append_assoc p q us)

pub took_as : {X : Type 0} (R : X → Tokens → Type 0) (s t us : Tokens) (x y : X) → (let a : X × Tokens = (x, t) in let b : X × Tokens = (y, us) in a ≡ b) → Took (R x) s t → Took (R y) s us
took_as {X = X} R s t us x y e w = subst (λ (q : X × Tokens). Took (R q.0) s q.1) e w
