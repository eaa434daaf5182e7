-- Digits one by one, and four by four.
use Rattle.std.proofs.Common.{◌≡◌, ℕ, zero, suc, ◌+◌, ◌-◌, ◌*◌, ◌<◌, ◌≤◌, List, [], ◌∷◌, ◌++◌, length, drop, take, slice_get, min, ap, sym, ◌∙◌, arith, add-one, append_assoc, inl, inr}
use Rattle.std.specs.Prelude.{◌^◌, Bool, true, false, ◌&&◌, ◌||◌, Some}
use Rattle.std.specs.List.{list_all, list_any}
use Rattle.std.proofs.lemmas.List.{take_all, drop_all, drop-drop, length-drop}
use Rattle.std.proofs.Math.Nat.{pow-le-pow_right}
use Rattle.nt_value.specs.declared.digit.Digit.{Digit}
use Rattle.nt_semantics.proofs.Waking.{lt_or_le}
use Rattle.nt_semantics.specs.Lines.{hex_text, hex_texts}

got : {A : Type 0} (xs : List A) (k : ℕ) (x : A) → slice_get xs k ≡ Some x → drop k xs ≡ x ∷ drop (suc k) xs
got [] zero x h = cc
got [] (suc k) x h = cc
got (y ∷ ys) zero x h = cc
got (y ∷ ys) (suc k) x h = got ys k x h

pub drop_get : {A : Type 0} (xs : List A) (k : ℕ) (x : A) → slice_get xs k ≡ Some x → drop k xs ≡ x ∷ drop (k + 1) xs
drop_get xs k x h = rw add-one (got xs k x h)

module _ {A : Type 0} (p : A → Bool) (xs : List A) (at : ℕ) (x : A) (is : slice_get xs at ≡ Some x) where
  pub all_on : list_all p (drop at xs) ≡ list_all p xs → p x ≡ true → list_all p (drop (at + 1) xs) ≡ list_all p xs
  all_on so_far h = sym (ap (list_all p) (drop_get xs at x is) ∙ ap (λ b. b && list_all p (drop (at + 1) xs)) h) ∙ so_far

  pub all_off : list_all p (drop at xs) ≡ list_all p xs → p x ≡ false → false ≡ list_all p xs
  all_off so_far h = sym (ap (list_all p) (drop_get xs at x is) ∙ ap (λ b. b && list_all p (drop (at + 1) xs)) h) ∙ so_far

  pub any_on : list_any p (drop at xs) ≡ list_any p xs → p x ≡ false → list_any p (drop (at + 1) xs) ≡ list_any p xs
  any_on so_far h = sym (ap (list_any p) (drop_get xs at x is) ∙ ap (λ b. b || list_any p (drop (at + 1) xs)) h) ∙ so_far

  pub any_found : list_any p (drop at xs) ≡ list_any p xs → p x ≡ true → true ≡ list_any p xs
  any_found so_far h = sym (ap (list_any p) (drop_get xs at x is) ∙ ap (λ b. b || list_any p (drop (at + 1) xs)) h) ∙ so_far

pub all_done : {A : Type 0} (p : A → Bool) (xs : List A) (at : ℕ) → length xs ≤ at → list_all p (drop at xs) ≡ list_all p xs → true ≡ list_all p xs
all_done p xs at h so_far = sym (ap (list_all p) (drop_all at xs h)) ∙ so_far

pub any_done : {A : Type 0} (p : A → Bool) (xs : List A) (at : ℕ) → length xs ≤ at → list_any p (drop at xs) ≡ list_any p xs → false ≡ list_any p xs
any_done p xs at h so_far = sym (ap (list_any p) (drop_all at xs h)) ∙ so_far

-- up to four of what is left
pub four : (ds : List Digit) (low n : ℕ) → n ≡ min (length ds - low) 4 → take n (drop low ds) ≡ take 4 (drop low ds)
four ds low n is = elim (lt_or_le 4 (length ds - low)) [
  | inl long ↦ ap (λ k. take k (drop low ds)) (is ∙ whole long)
  | inr short ↦ ap (λ k. take k (drop low ds)) (is ∙ part short) ∙ (take_all (length ds - low) (drop low ds) (rest (length-drop low ds)) ∙ sym (take_all 4 (drop low ds) (few short (length-drop low ds))))
]
  where
    whole : 4 < length ds - low → min (length ds - low) 4 ≡ 4
    whole h = omega (arith, h)

    part : length ds - low ≤ 4 → min (length ds - low) 4 ≡ length ds - low
    part h = omega (arith, h)

    rest : length (drop low ds) ≡ length ds - low → length (drop low ds) ≤ length ds - low
    rest h = omega (arith, h)

    few : length ds - low ≤ 4 → length (drop low ds) ≡ length ds - low → length (drop low ds) ≤ 4
    few h k = omega (arith, h, k)

pub hex_more : (ds part : List Digit) (count k : ℕ) (old now new : List ℕ) → 0 < k → k ≤ count → part ≡ take 4 (drop (4 * (k - 1)) ds) → now ≡ old ++ hex_texts (count - k) (drop (4 * k) ds) → new ≡ now ++ hex_text part → new ≡ old ++ hex_texts (count - (k - 1)) (drop (4 * (k - 1)) ds)
hex_more ds part count zero old now new some few is so_far put = absurd (omega (arith, some))
hex_more ds part count (suc j) old now new some few is so_far put =
    let e : suc j - 1 ≡ j = omega arith in
    let n : count - j ≡ suc (count - suc j) = omega (arith, few) in
    let m : 4 * suc j ≡ 4 * j + 4 = omega arith in
    let over : drop 4 (drop (4 * j) ds) ≡ drop (4 * suc j) ds = drop-drop 4 (4 * j) ds ∙ ap (λ k. drop k ds) (sym m) in
    rw (e, n) (put ∙ (ap (λ (l : List ℕ). l ++ hex_text part) so_far ∙ (append_assoc old (hex_texts (count - suc j) (drop (4 * suc j) ds)) (hex_text part)
    ∙ ap (λ (l : List ℕ). old ++ l) (ap (λ l. hex_texts (count - suc j) (drop (4 * suc j) ds) ++ hex_text l) (is ∙ ap (λ i. take 4 (drop (4 * i) ds)) e) ∙ ap (λ l. hex_texts (count - suc j) l ++ hex_text (take 4 (drop (4 * j) ds))) (sym over)))))

-- four digits write a number of one digit of base 16
pub low_number : (n width : ℕ) → width ≤ 4 → n < 2 ^ width → n ≤ 15
low_number n width h low =
    let top : 2 ^ width ≤ 2 ^ 4 = pow-le-pow_right (omega arith) h in
    omega (arith, low, top)
