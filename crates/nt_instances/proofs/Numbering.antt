-- Looking for the first that passes, one after the other.
use Rattle.std.proofs.Common.{◌≡◌, ℕ, suc, zero, ◌+◌, ◌<◌, ◌≤◌, Bool, true, false, cond, List, [], ◌∷◌, length, get_or, drop, map, Some, None, refl, sym, ap, ◌∙◌, arith, add-one}
use Rattle.std.proofs.Math.Seq.{drop-cons}
use Rattle.nt_instances.specs.Numbers.{number_from, number_of}

at_next : {A B : Type 0} (f : A → B) (p : B → Bool) (xs : List A) (k : ℕ) (x : A) → k < length xs → x ≡ get_or xs k x → number_from p k (map f (drop k xs)) ≡ cond (p (f x)) (Some k) (number_from p (suc k) (map f (drop (suc k) xs)))
at_next f p xs k x lt is = ap (λ ys. number_from p k (map f ys)) (drop-cons xs k x lt ∙ ap (λ y. y ∷ drop (suc k) xs) (sym is))

-- it passes
pub found_here : {A B : Type 0} (f : A → B) (p : B → Bool) (xs : List A) (k : ℕ) (x : A) → k < length xs → x ≡ get_or xs k x → number_of p (map f xs) ≡ number_from p k (map f (drop k xs)) → p (f x) ≡ true → Some k ≡ number_of p (map f xs)
found_here f p xs k x lt is e t = sym (e ∙ at_next f p xs k x lt is ∙ ap (λ b. cond b (Some k) (number_from p (suc k) (map f (drop (suc k) xs)))) t)

-- it doesn't
pub found_later : {A B : Type 0} (f : A → B) (p : B → Bool) (xs : List A) (k : ℕ) (x : A) → k < length xs → x ≡ get_or xs k x → number_of p (map f xs) ≡ number_from p k (map f (drop k xs)) → p (f x) ≡ false
    → number_of p (map f xs) ≡ number_from p (k + 1) (map f (drop (k + 1) xs))
found_later f p xs k x lt is e t = e ∙ at_next f p xs k x lt is ∙ ap (λ b. cond b (Some k) (number_from p (suc k) (map f (drop (suc k) xs)))) t ∙ ap (λ n. number_from p n (map f (drop n xs))) (sym (add-one k))

none_left : {A B : Type 0} (f : A → B) (p : B → Bool) (xs : List A) (n k : ℕ) → length xs ≤ k → number_from p n (map f (drop k xs)) ≡ None
none_left f p [] n zero le = refl
none_left f p [] n (suc k) le = refl
none_left f p (x ∷ xs) n zero le = absurd (omega (arith, le))
none_left f p (x ∷ xs) n (suc k) le = none_left f p xs n k (omega (arith, le))

-- none does
pub found_nowhere : {A B : Type 0} (f : A → B) (p : B → Bool) (xs : List A) (k : ℕ) → length xs ≤ k → number_of p (map f xs) ≡ number_from p k (map f (drop k xs)) → None ≡ number_of p (map f xs)
found_nowhere f p xs k le e = sym (e ∙ none_left f p xs k k le)
