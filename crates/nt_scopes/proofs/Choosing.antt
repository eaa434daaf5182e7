-- None, one or two, of several things together.
use Rattle.std.proofs.Common.{◌≡◌, ℕ, ◌+◌, ◌<◌, ◌⊎◌, cond, List, length, get_or, slice_get, Some, refl, sym, ap, subst, ◌∙◌, arith, inl, inr}
use Rattle.std.proofs.lemmas.Bool.{cases_eq, eq-eqb, ne_eqb}
use Rattle.std.proofs.lemmas.Option.{slice_get_read}
use Rattle.nt_scopes.specs.declared.scope.Look.{Look}
use Rattle.nt_scopes.specs.declared.scope.Look.TheVariants as look
use Rattle.nt_scopes.specs.Choices.{Among, among, Choice, both}

-- two choices of which either may be
pub both_choices : (F G : ℕ → Type 0) (a b : Look) → Choice F a → Choice G b → Choice (λ t. F t ⊎ G t) (both a b)
both_choices F G look.Unknown look.Unknown f g = λ t h. elim h [ inl x ↦ f t x | inr x ↦ g t x ]
both_choices F G look.Unknown (look.One u) f g = (inr g.0, λ v h. elim h [ inl x ↦ absurd (f v x) | inr x ↦ g.1 v x ])
both_choices F G look.Unknown look.Ambiguous f g = (g.0, g.1, inr g.2, inr g.3, g.4)
both_choices F G (look.One t) look.Unknown f g = (inl f.0, λ v h. elim h [ inl x ↦ f.1 v x | inr x ↦ absurd (g v x) ])
both_choices F G (look.One t) (look.One u) f g = elim (cases_eq t u) [
  | inl e ↦ subst (λ l. Choice (λ t. F t ⊎ G t) l) (sym (ap (λ b. cond b (look.One t) look.Ambiguous) (eq-eqb t u e))) (inl f.0, λ v h. elim h [ inl x ↦ f.1 v x | inr x ↦ g.1 v x ∙ sym e ])
  | inr ne ↦ subst (λ l. Choice (λ t. F t ⊎ G t) l) (sym (ap (λ b. cond b (look.One t) look.Ambiguous) (ne_eqb t u ne))) (t, u, inl f.0, inr g.0, ne)
]
both_choices F G (look.One t) look.Ambiguous f g = (g.0, g.1, inr g.2, inr g.3, g.4)
both_choices F G look.Ambiguous b f g = (f.0, f.1, inl f.2, inl f.3, f.4)

pub same_choice : (F G : ℕ → Type 0) (a : Look) → ((t : ℕ) → F t → G t) → ((t : ℕ) → G t → F t) → Choice F a → Choice G a
same_choice F G look.Unknown to from f = λ t h. f t (from t h)
same_choice F G (look.One t) to from f = (to t f.0, λ u h. f.1 u (from u h))
same_choice F G look.Ambiguous to from f = (f.0, f.1, to f.0 f.2, to f.1 f.3, f.4)

-- one choice at most
pub one_choice : (F : ℕ → Type 0) (a b : Look) → Choice F a → Choice F b → a ≡ b
one_choice F look.Unknown look.Unknown f g = refl
one_choice F look.Unknown (look.One u) f g = absurd (f u g.0)
one_choice F look.Unknown look.Ambiguous f g = absurd (f g.0 g.2)
one_choice F (look.One t) look.Unknown f g = absurd (g t f.0)
one_choice F (look.One t) (look.One u) f g = ap look.One (g.1 t f.0)
one_choice F (look.One t) look.Ambiguous f g = absurd (g.4 (f.1 g.0 g.2 ∙ sym (f.1 g.1 g.3)))
one_choice F look.Ambiguous look.Unknown f g = absurd (g f.0 f.2)
one_choice F look.Ambiguous (look.One u) f g = absurd (f.4 (g.1 f.0 f.2 ∙ sym (g.1 f.1 f.3)))
one_choice F look.Ambiguous look.Ambiguous f g = refl

pub record Chosen (F : ℕ → Type 0) (l : Look) : Type 0 where
  pub chosen : Choice F l

none_among : {A : Type 0} (F : A → ℕ → Type 0) (xs : List A) (t : ℕ) → Among F 0 xs t → ⊥
none_among F xs t (among k x lt at f) = absurd (omega arith)

more_among : {A : Type 0} (F : A → ℕ → Type 0) (i : ℕ) (xs : List A) (x : A) (t : ℕ) → slice_get xs i ≡ Some x → Among F i xs t ⊎ F x t → Among F (i + 1) xs t
more_among F i xs x t at (inl (among k y lt is f)) = among k y (omega arith) is f
more_among F i xs x t at (inr f) = among i x (omega arith) at f

split_among : {A : Type 0} (F : A → ℕ → Type 0) (i : ℕ) (xs : List A) (x : A) (t : ℕ) → slice_get xs i ≡ Some x → Among F (i + 1) xs t → Among F i xs t ⊎ F x t
split_among F i xs x t at (among k y lt is f) = elim (cases_eq k i) [
  | inr ne ↦ inl (among k y (omega (arith, ne)) is f)
  | inl e ↦ let y_is : y ≡ x = cc (ap (slice_get xs) e) in inr (subst (λ y. F y t) y_is f)
]

pub choice_start : {A : Type 0} (F : A → ℕ → Type 0) (xs : List A) → Chosen (Among F 0 xs) look.Unknown
choice_start F xs = record { chosen = λ t h. none_among F xs t h }

pub choice_turn : {A : Type 0} {F : A → ℕ → Type 0} {xs : List A} {i : ℕ} {a : Look} (x : A) (b c : Look) → i < length xs → x ≡ get_or xs i x → Chosen (Among F i xs) a → Choice (F x) b → c ≡ both a b → Chosen (Among F (i + 1) xs) c
choice_turn {F = F} {xs = xs} {i = i} {a = a} x b c lt at f g e =
    let s : slice_get xs i ≡ Some x = slice_get_read xs (length xs) i x refl lt at in
    record {
      chosen = subst (λ l. Choice (Among F (i + 1) xs) l) (sym e)
          (same_choice (λ t. Among F i xs t ⊎ F x t) (Among F (i + 1) xs) (both a b) (λ t h. more_among F i xs x t s h) (λ t h. split_among F i xs x t s h) (both_choices (Among F i xs) (F x) a b f.chosen g));
    }

pub choice_end : {A : Type 0} {F : A → ℕ → Type 0} {xs : List A} {i : ℕ} {a : Look} (n : ℕ) → i ≡ n → Chosen (Among F i xs) a → Choice (Among F n xs) a
choice_end {F = F} {xs = xs} {i = i} {a = a} n e f = subst (λ n. Choice (Among F n xs) a) e f.chosen
