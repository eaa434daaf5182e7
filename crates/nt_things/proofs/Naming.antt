-- The last entry of a name, entry by entry.
use Rattle.std.proofs.Common.{◌≡◌, ◌<◌, ◌≤◌, ℕ, ◌+◌, Bool, true, false, List, ◌∷◌, length, drop, Option, Some, None, refl, ap, sym, ◌∙◌, subst}
use Rattle.std.specs.Prelude.{if◌then◌else◌, nat_eq, get_or}
use Rattle.std.specs.Cmp.Lexicographic.{pointwise}
use Rattle.std.proofs.lemmas.List.{drop_more, drop_all}
use Rattle.nt_typing.specs.Names.{or_last, last_of}

pub opened : {A : Type 0} (xs : List A) (i : ℕ) (x : A) → i < length xs → x ≡ get_or xs i x → drop i xs ≡ x ∷ drop (i + 1) xs
opened xs i x lt e = drop_more xs i x lt ∙ ap (λ y. y ∷ drop (i + 1) xs) (sym e)

abbrev pub Sought : {A : Type 0} → List (List ℕ × A) → List ℕ → ℕ → Option A → Type 0
Sought names name i found = or_last (last_of (drop i names) name) found ≡ last_of names name

or_none : {A : Type 0} (o : Option A) → or_last o None ≡ o
or_none None = refl
or_none (Some x) = refl

pub sought_first : {A : Type 0} (names : List (List ℕ × A)) (name : List ℕ) → Sought names name 0 None
sought_first names name = or_none (last_of names name)

step_by : {A : Type 0} (o : Option A) (b : Bool) (x : A) (found : Option A) → or_last (or_last o (if b then Some x else None)) found ≡ or_last o (if b then Some x else found)
step_by (Some y) b x found = refl
step_by None true x found = refl
step_by None false x found = refl

pub sought_more : {A : Type 0} (names : List (List ℕ × A)) (name : List ℕ) (i : ℕ) (m : List ℕ × A) (found : Option A) → drop i names ≡ m ∷ drop (i + 1) names → Sought names name i found
    → Sought names name (i + 1) (if pointwise nat_eq m.0 name then Some m.1 else found)
sought_more names name i m found e h =
    sym (step_by (last_of (drop (i + 1) names) name) (pointwise nat_eq m.0 name) m.1 found) ∙ sym (ap (λ xs. or_last (last_of xs name) found) e) ∙ h

pub sought_same : {A : Type 0} (names : List (List ℕ × A)) (name : List ℕ) (i : ℕ) (b : Bool) (x : A) (found o : Option A) → o ≡ (if b then Some x else found) → Sought names name i (if b then Some x else found) → Sought names name i o
sought_same names name i b x found o e h = subst (λ o. Sought names name i o) (sym e) h

pub sought_last : {A : Type 0} (names : List (List ℕ × A)) (name : List ℕ) (i : ℕ) (found : Option A) → length names ≤ i → Sought names name i found → found ≡ last_of names name
sought_last names name i found le h = ap (λ xs. or_last (last_of xs name) found) (sym (drop_all i names le)) ∙ h
