-- Leaves with z in each digit.
use Rattle.std.proofs.Common.{◌≡◌, ℕ, zero, suc, ◌+◌, ◌-◌, ◌<◌, List, ◌∷◌, ◌++◌, map, replicate, slice_set, refl, ap, sym, ◌∙◌, arith}
use Rattle.std.specs.Prelude.{Bool, true, false, not, if◌then◌else◌}
use Rattle.std.proofs.lemmas.List.{append-nil}
use Rattle.nt_value.specs.Digits.{LeafValue}
use Rattle.nt_value.specs.Operators.{in_leaf, two_state}
use Rattle.nt_value.specs.Values.{zero_leaf}
use Rattle.nt_value.specs.declared.digit.Digit.{Digit}
use Rattle.nt_value.specs.declared.digit.Digit.TheVariants.{Zero, Z}
use Rattle.nt_value.specs.declared.leaf.Leaf.{Leaf}

-- z in two states is 0
two_states : (n : ℕ) → map two_state (replicate n Z) ≡ replicate n Zero
two_states zero = refl
two_states (suc n) = ap (λ (ds : List Digit). Zero ∷ ds) (two_states n)

pub in_two : (leaf : Leaf) → leaf.four ≡ false → zero_leaf leaf ≡ in_leaf leaf (replicate leaf.width Z)
in_two leaf h =
    ap (λ (ds : List Digit). record { leaf = leaf; digits = ds }) (sym (two_states leaf.width) ∙ ap (λ (b : Bool). if b then replicate leaf.width Z else map two_state (replicate leaf.width Z)) (sym h))

-- one more z
step : (at m : ℕ) → slice_set (replicate at Z ++ replicate (suc m) Zero) at Z ≡ replicate (suc at) Z ++ replicate m Zero
step zero m = refl
step (suc at) m = ap (λ (ds : List Digit). Z ∷ ds) (step at m)

one_more : (at width : ℕ) → at < width → slice_set (replicate at Z ++ replicate (width - at) Zero) at Z ≡ replicate (at + 1) Z ++ replicate (width - (at + 1)) Zero
one_more at width h =
    let a : width - at ≡ suc (width - (at + 1)) = omega (arith, h) in
    let b : at + 1 ≡ suc at = omega arith in
    ap (λ n. slice_set (replicate at Z ++ replicate n Zero) at Z) a ∙ (step at (width - (at + 1)) ∙ ap (λ n. replicate n Z ++ replicate (width - (at + 1)) Zero) (sym b))

pub z_on : (leaf : Leaf) (bits new : LeafValue) (at : ℕ) → at < leaf.width → bits ≡ record { leaf = leaf; digits = replicate at Z ++ replicate (leaf.width - at) Zero } → new ≡ record bits { digits = slice_set bits.digits at Z } → new ≡ record { leaf = leaf; digits = replicate (at + 1) Z ++ replicate (leaf.width - (at + 1)) Zero }
z_on leaf bits new at h so_far put =
    put ∙ (ap (λ (b : LeafValue). record { leaf = b.leaf; digits = slice_set b.digits at Z }) so_far ∙ ap (λ (ds : List Digit). record { leaf = leaf; digits = ds }) (one_more at leaf.width h))

whole : (at width : ℕ) → at ≡ width → replicate at Z ++ replicate (width - at) Zero ≡ replicate width Z
whole at width is =
    let none : width - at ≡ 0 = omega (arith, is) in
    ap (λ n. replicate at Z ++ replicate n Zero) none ∙ (append-nil (replicate at Z) ∙ ap (λ n. replicate n Z) is)

pub in_four : (leaf : Leaf) (bits : LeafValue) (at : ℕ) → leaf.four ≡ true → at ≡ leaf.width → bits ≡ record { leaf = leaf; digits = replicate at Z ++ replicate (leaf.width - at) Zero } → bits ≡ in_leaf leaf (replicate leaf.width Z)
in_four leaf bits at four is so_far =
    so_far ∙ ap (λ (ds : List Digit). record { leaf = leaf; digits = ds }) (whole at leaf.width is ∙ ap (λ (b : Bool). if b then replicate leaf.width Z else map two_state (replicate leaf.width Z)) (sym four))

-- no z yet
pub zero_begins : (leaf : Leaf) → zero_leaf leaf ≡ record { leaf = leaf; digits = replicate 0 Z ++ replicate (leaf.width - 0) Zero }
zero_begins leaf =
    let all : leaf.width ≡ leaf.width - 0 = omega arith in
    ap (λ n. record { leaf = leaf; digits = replicate n Zero }) all

pub true_false : true ≡ false → ⊥
true_false h = cc

pub not_true : (b : Bool) → not b ≡ true → b ≡ false
not_true true h = absurd (true_false (sym h))
not_true false h = refl

pub not_false : (b : Bool) → not b ≡ false → b ≡ true
not_false true h = refl
not_false false h = absurd (true_false h)
