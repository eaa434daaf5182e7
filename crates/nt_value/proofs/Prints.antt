-- The digits of a leaf are printed from the most significant one down.
use Rattle.std.proofs.Common.{◌≡◌, ℕ, zero, suc, ◌-◌, ◌<◌, List, [], ◌∷◌, ◌++◌, Some, sym, ◌∙◌, ap, arith, map, reverse, drop, slice_get, append_assoc}
use Rattle.std.proofs.lemmas.Grind.{reverse_onto}
use Rattle.nt_value.specs.Texts.{digit_code}
use Rattle.nt_value.specs.declared.digit.Digit.{Digit}

drop_get : (ds : List Digit) (k : ℕ) (d : Digit) → slice_get ds k ≡ Some d → drop k ds ≡ d ∷ drop (suc k) ds
drop_get [] zero d h = cc
drop_get [] (suc k) d h = cc
drop_get (x ∷ xs) zero d h = cc
drop_get (x ∷ xs) (suc k) d h = drop_get xs k d h

pub digit_more : (ds : List Digit) (at : ℕ) (d : Digit) (old now new : List ℕ) → 0 < at → slice_get ds (at - 1) ≡ Some d → now ≡ old ++ reverse (map digit_code (drop at ds)) → new ≡ now ++ digit_code d ∷ [] → new ≡ old ++ reverse (map digit_code (drop (at - 1) ds))
digit_more ds zero d old now new p h a b = absurd (omega (arith, p))
digit_more ds (suc k) d old now new p h a b =
    let e : suc k - 1 ≡ k = omega arith in
    let here = drop_get ds k d (rw e at h) in
    rw (e, here) (b ∙ ap (λ (l : List ℕ). l ++ digit_code d ∷ []) a ∙ append_assoc old (reverse (map digit_code (drop (suc k) ds))) (digit_code d ∷ []) ∙ ap (λ (l : List ℕ). old ++ l) (sym (reverse_onto (map digit_code (drop (suc k) ds)) (digit_code d) [])))
