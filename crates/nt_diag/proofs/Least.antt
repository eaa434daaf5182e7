-- The least of faults, in whatever order a walk finds them. A loop over items has the invariant `Best (Among F i xs) best`, which
-- `best_start` begins, `best_turn` keeps where a turn takes the earlier one of `best` and the item's least, and `best_to` ends.
-- `both_least` joins two kinds of faults, `least_one` is for the only one, `alike_least` for another wording of the same faults.
use Rattle.std.proofs.Common.{◌≡◌, ℕ, ◌+◌, ◌<◌, ◌≤◌, ◌⊎◌, Bool, true, false, cond, List, [], ◌∷◌, ◌++◌, length, get_or, take, drop, map, slice_get, Option, Some, None, refl, sym, ap, subst, ◌∙◌, inl, inr, arith, nat_lt, nat_le, ◌==◌, ◌&&◌, ◌||◌}
use Rattle.std.proofs.lemmas.Bool.{cases_lt, cases_eq, cases_Bool, or_cases, and_parts, and_cases, ltb-true, ltb-false, leb-true, leb-false, eqb-true, eqb-false, true≢false}
use Rattle.std.proofs.lemmas.Option.{slice_get_read, slice_get-map, slice_get-get_or}
use Rattle.std.specs.Prelude.{option_map}
use Rattle.std.proofs.lemmas.Grind.{common_steps}
use Rattle.nt_diag.specs.declared.refusal.Refusal.{Refusal}
use Rattle.nt_diag.specs.Order.{rule_number, NoLater, IsLeast, IsLeastOf, is_no_later, earlier, Among, AmongAll, among}

-- IsLeastOf as a record, so that its arguments are found
pub record Best (F : Refusal → Type 0) (o : Option Refusal) : Type 0 where
  pub best : IsLeastOf F o

no_later_chain : (a b c : Refusal) → NoLater a b → NoLater b c → NoLater a c
no_later_chain a b c (inl x) (inl y) = inl (omega arith)
no_later_chain a b c (inl x) (inr y) = let e = y.0 in inl (omega arith)
no_later_chain a b c (inr x) (inl y) = let e = x.0 in inl (omega arith)
no_later_chain a b c (inr (e, inl x)) (inr (f, inl y)) = inr (e ∙ f, inl (omega arith))
no_later_chain a b c (inr (e, inl x)) (inr (f, inr y)) = let g = y.0 in inr (e ∙ f, inl (omega arith))
no_later_chain a b c (inr (e, inr x)) (inr (f, inl y)) = let g = x.0 in inr (e ∙ f, inl (omega arith))
no_later_chain a b c (inr (e, inr x)) (inr (f, inr y)) = let g = x.0 in let h = y.0 in let i = x.1 in let j = y.1 in inr (e ∙ f, inr (g ∙ h, omega arith))

none_among : {A : Type 0} (F : ℕ → A → Refusal → Type 0) (xs : List A) (r : Refusal) → Among F 0 xs r → ⊥
none_among F xs r (among k x lt at f) = absurd (omega arith)

more_among : {A : Type 0} (F : ℕ → A → Refusal → Type 0) (i : ℕ) (xs : List A) (x : A) (r : Refusal) → slice_get xs i ≡ Some x → Among F i xs r ⊎ F i x r → Among F (i + 1) xs r
more_among F i xs x r at (inl (among k y lt is f)) = among k y (omega arith) is f
more_among F i xs x r at (inr f) = among i x (omega arith) at f

split_among : {A : Type 0} (F : ℕ → A → Refusal → Type 0) (i : ℕ) (xs : List A) (x : A) (r : Refusal) → slice_get xs i ≡ Some x → Among F (i + 1) xs r → Among F i xs r ⊎ F i x r
split_among F i xs x r at (among k y lt is f) = elim (cases_eq k i) [
  | inr ne ↦ inl (among k y (omega (arith, ne)) is f)
  | inl e ↦ let y_is : y ≡ x = cc (ap (slice_get xs) e) in inr (subst (λ k. F k x r) e (subst (λ y. F k y r) y_is f))
]

no_later_true : (a b : Refusal) → is_no_later a b ≡ true → NoLater a b
no_later_true a b e = elim (or_cases _ _ e) [
  | inl f ↦ inl (ltb-true _ _ f)
  | inr f ↦ let p = and_parts (a.place.file == b.place.file) _ f in inr (
    eqb-true _ _ p.0,
    elim (or_cases _ _ p.1) [
      | inl g ↦ inl (ltb-true _ _ g)
      | inr g ↦ let q = and_parts (a.place.offset == b.place.offset) _ g in inr (eqb-true _ _ q.0, leb-true _ _ q.1)
    ],
  )
]

neither : (x y : Bool) → (x || y) ≡ false → (x ≡ false) × (y ≡ false)
neither true y e = absurd (true≢false e)
neither false y e = (refl, e)

no_later_false : (a b : Refusal) → is_no_later a b ≡ false → NoLater b a
no_later_false a b e =
    let p = neither (nat_lt a.place.file b.place.file) _ e in
    let lt = ltb-false _ _ p.0 in
    elim (cases_eq a.place.file b.place.file) [
      | inr ne ↦ inl (omega (arith, ne))
      | inl same ↦ elim (and_cases (a.place.file == b.place.file) _ p.1) [
        | inl f ↦ absurd (eqb-false _ _ f same)
        | inr f ↦ let q = neither (nat_lt a.place.offset b.place.offset) _ f in let lo = ltb-false _ _ q.0 in
            inr (
              sym same,
              elim (cases_eq a.place.offset b.place.offset) [
                | inr ne ↦ inl (omega (arith, ne))
                | inl o ↦ elim (and_cases (a.place.offset == b.place.offset) _ q.1) [
                  | inl g ↦ absurd (eqb-false _ _ g o)
                  | inr g ↦ let h = leb-false _ _ g in inr (sym o, omega arith)
                ]
              ],
            )
      ]
    ]

not_later : (a : Refusal) → NoLater a a
not_later a = inr (refl, inr (refl, omega arith))

-- of the faults of two kinds the earlier least one is the least
joined_least : (F G : Refusal → Type 0) (a b : Option Refusal) → IsLeastOf F a → IsLeastOf G b → IsLeastOf (λ r. F r ⊎ G r) (earlier a b)
joined_least F G None None f g = λ r h. elim h [ inl x ↦ f r x | inr x ↦ g r x ]
joined_least F G None (Some y) f g = record { is = inr g.is; least = λ s h. elim h [ inl x ↦ absurd (f s x) | inr x ↦ g.least s x ] }
joined_least F G (Some x) None f g = record { is = inl f.is; least = λ s h. elim h [ inl y ↦ f.least s y | inr y ↦ absurd (g s y) ] }
joined_least F G (Some x) (Some y) f g = elim (cases_Bool (is_no_later x y)) [
  | inl t ↦ let nl = no_later_true x y t in subst (λ o. IsLeastOf (λ r. F r ⊎ G r) o) (sym (ap (λ b. cond b (Some x) (Some y)) t))
      (record { is = inl f.is; least = λ s h. elim h [ inl u ↦ f.least s u | inr u ↦ no_later_chain x y s nl (g.least s u) ] })
  | inr t ↦ let nl = no_later_false x y t in subst (λ o. IsLeastOf (λ r. F r ⊎ G r) o) (sym (ap (λ b. cond b (Some x) (Some y)) t))
      (record { is = inr g.is; least = λ s h. elim h [ inl u ↦ no_later_chain y x s nl (f.least s u) | inr u ↦ g.least s u ] })
]

-- the least depends on which faults there are alone
same_least : (F G : Refusal → Type 0) (a : Option Refusal) → ((r : Refusal) → F r → G r) → ((r : Refusal) → G r → F r) → IsLeastOf F a → IsLeastOf G a
same_least F G None to from f = λ r x. f r (from r x)
same_least F G (Some x) to from f = record { is = to x f.is; least = λ s h. f.least s (from s h) }

pub best_join : {F G : Refusal → Type 0} {a b : Option Refusal} → Best F a → Best G b → Best (λ r. F r ⊎ G r) (earlier a b)
best_join {F = F} {G = G} {a = a} {b = b} f g = record { best = joined_least F G a b f.best g.best }

pub best_same : {F : Refusal → Type 0} {a : Option Refusal} (G : Refusal → Type 0) → Best F a → ((r : Refusal) → F r → G r) → ((r : Refusal) → G r → F r) → Best G a
best_same {F = F} {a = a} G f to from = record { best = same_least F G a to from f.best }

pub best_none : (F : Refusal → Type 0) → ((r : Refusal) → F r → ⊥) → Best F None
best_none F none = record { best = none }

pub best_one : (F : Refusal → Type 0) (x : Refusal) → F x → ((r : Refusal) → F r → r ≡ x) → Best F (Some x)
best_one F x is only = record { best = record { is = is; least = λ s h. subst (λ y. NoLater x y) (sym (only s h)) (not_later x) } }

-- no item, no fault
pub best_start : {A : Type 0} (F : ℕ → A → Refusal → Type 0) (xs : List A) → Best (Among F 0 xs) None
best_start F xs = best_none (Among F 0 xs) (λ r h. none_among F xs r h)

-- one item more
pub best_more : {A : Type 0} {F : ℕ → A → Refusal → Type 0} {xs : List A} {i : ℕ} {a b : Option Refusal} (x : A) → slice_get xs i ≡ Some x → Best (Among F i xs) a → Best (F i x) b → Best (Among F (i + 1) xs) (earlier a b)
best_more {F = F} {xs = xs} {i = i} x at f g = best_same (Among F (i + 1) xs) (best_join f g) (λ r h. more_among F i xs x r at h) (λ r h. split_among F i xs x r at h)

pub best_all : {A : Type 0} {F : ℕ → A → Refusal → Type 0} {xs : List A} {i : ℕ} {a : Option Refusal} → i ≡ length xs → Best (Among F i xs) a → Best (AmongAll F xs) a
best_all {F = F} {xs = xs} {i = i} {a = a} e f = subst (λ n. Best (Among F n xs) a) e f

-- a turn of a loop over items
pub best_turn : {A : Type 0} {F : ℕ → A → Refusal → Type 0} {xs : List A} {i : ℕ} {a : Option Refusal} (x : A) (b c : Option Refusal) → i < length xs → x ≡ get_or xs i x → Best (Among F i xs) a → IsLeastOf (F i x) b → c ≡ earlier a b → Best (Among F (i + 1) xs) c
best_turn {F = F} {xs = xs} {i = i} {a = a} x b c lt at f g e =
    let h : Best (F i x) b = record { best = g } in
    let s : slice_get xs i ≡ Some x = slice_get_read xs (length xs) i x refl lt at in
    subst (λ o. Best (Among F (i + 1) xs) o) (sym e) (best_more x s f h)

-- the only fault
pub least_one : (F : Refusal → Type 0) (x : Refusal) → F x → ((r : Refusal) → F r → r ≡ x) → IsLeast F x
least_one F x is only = record { is = is; least = λ s h. subst (λ y. NoLater x y) (sym (only s h)) (not_later x) }

-- the earlier one of two least faults, for the faults of both kinds
pub both_least : (F G H : Refusal → Type 0) (a b c : Option Refusal) → IsLeastOf F a → IsLeastOf G b → c ≡ earlier a b → ((r : Refusal) → F r ⊎ G r → H r) → ((r : Refusal) → H r → F r ⊎ G r) → IsLeastOf H c
both_least F G H a b c f g e to from = subst (λ o. IsLeastOf H o) (sym e) (same_least (λ r. F r ⊎ G r) H (earlier a b) to from (joined_least F G a b f g))

pub alike_least : (F G : Refusal → Type 0) (a : Option Refusal) → ((r : Refusal) → F r → G r) → ((r : Refusal) → G r → F r) → IsLeastOf F a → IsLeastOf G a
alike_least F G a to from f = same_least F G a to from f

-- the loop ends
pub best_to : {A : Type 0} {F : ℕ → A → Refusal → Type 0} {xs : List A} {i : ℕ} {a : Option Refusal} (n : ℕ) → i ≡ n → Best (Among F i xs) a → IsLeastOf (Among F n xs) a
best_to {F = F} {xs = xs} {i = i} {a = a} n e f = (subst (λ n. Best (Among F n xs) a) e f).best

-- a turn of a loop over references to items
pub best_turn_map : {A B : Type 0} {F : ℕ → B → Refusal → Type 0} {i : ℕ} {a : Option Refusal} (f : A → B) (xs : List A) (x : A) (b c : Option Refusal) → i < length xs → x ≡ get_or xs i x → Best (Among F i (map f xs)) a → IsLeastOf (F i (f x)) b → c ≡ earlier a b → Best (Among F (i + 1) (map f xs)) c
best_turn_map {F = F} {i = i} {a = a} f xs x b c lt at g h e =
    let k : Best (F i (f x)) b = record { best = h } in
    let s : slice_get (map f xs) i ≡ Some (f x) = slice_get-map f xs i ∙ ap (option_map f) (slice_get_read xs (length xs) i x refl lt at) in
    subst (λ o. Best (Among F (i + 1) (map f xs)) o) (sym e) (best_more (f x) s g k)

-- a turn of a loop over plain values
pub best_turn_at : {A : Type 0} {F : ℕ → A → Refusal → Type 0} {i : ℕ} {a : Option Refusal} (xs : List A) (d : A) (b c : Option Refusal) → i < length xs → Best (Among F i xs) a → IsLeastOf (F i (get_or xs i d)) b → c ≡ earlier a b → Best (Among F (i + 1) xs) c
best_turn_at {F = F} {i = i} {a = a} xs d b c lt f g e =
    let h : Best (F i (get_or xs i d)) b = record { best = g } in
    subst (λ o. Best (Among F (i + 1) xs) o) (sym e) (best_more (get_or xs i d) (slice_get-get_or xs i d lt) f h)
