-- Two values joined, one leaf after the other.
use Rattle.std.proofs.Common.{◌≡◌, ◌<◌, ◌≤◌, ℕ, zero, suc, ◌+◌, List, [], ◌∷◌, ◌++◌, length, take, refl, ap, sym, ◌∙◌, arith}
use Rattle.std.specs.Prelude.{get_or}
use Rattle.nt_value.specs.Digits.{LeafValue}
use Rattle.nt_value.specs.Operators.{choice_of}
use Rattle.nt_value.specs.Values.{shape_of}
use Rattle.nt_value.specs.declared.digit.Digit.TheVariants.{X}
use Rattle.nt_value.specs.declared.leaf.Leaf.{Leaf}
use Rattle.nt_design.proofs.Frame.{two}
use Rattle.nt_design.specs.Parts.{Value, merged}

-- values of one shape have the same leaves
pub same_leaf : (xs ys : Value) (i : ℕ) (a b : LeafValue) → shape_of xs ≡ shape_of ys → i < length xs → a ≡ get_or xs i a → b ≡ get_or ys i b → a.leaf ≡ b.leaf
same_leaf [] ys i a b same h e f = absurd (omega (arith, h))
same_leaf (x ∷ xs) [] i a b same h e f = absurd (omega (arith, ap length same))
same_leaf (x ∷ xs) (y ∷ ys) zero a b same h e f =
    ap (λ (v : LeafValue). v.leaf) e ∙ (ap (λ leaves. get_or leaves 0 a.leaf) same ∙ sym (ap (λ (v : LeafValue). v.leaf) f))
same_leaf (x ∷ xs) (y ∷ ys) (suc i) a b same h e f = same_leaf xs ys i a b (ap (λ leaves. others leaves) same) (omega (arith, h)) e f
  where
    others : List Leaf → List Leaf
    others [] = []
    others (leaf ∷ leaves) = leaves

-- as many leaves
pub same_length : (xs ys : Value) → shape_of xs ≡ shape_of ys → length xs ≡ length ys
same_length [] [] h = refl
same_length [] (y ∷ ys) h = absurd (omega (arith, ap length h))
same_length (x ∷ xs) [] h = absurd (omega (arith, ap length h))
same_length (x ∷ xs) (y ∷ ys) h = ap suc (same_length xs ys (ap others h))
  where
    others : List Leaf → List Leaf
    others [] = []
    others (leaf ∷ leaves) = leaves

none_more : (xs : Value) → take 0 xs ≡ []
none_more [] = refl
none_more (x ∷ xs) = refl

-- one leaf more
pub merged_more : (xs ys : Value) (i n : ℕ) (a b : LeafValue) → length xs ≡ length ys → n ≡ i + 1 → i < length xs → a ≡ get_or xs i a → b ≡ get_or ys i b → merged (take n xs) (take n ys) ≡ merged (take i xs) (take i ys) ++ choice_of X a b ∷ []
merged_more [] ys i n a b same more h e f = absurd (omega (arith, h))
merged_more (x ∷ xs) [] i n a b same more h e f = absurd (omega (arith, same))
merged_more (x ∷ xs) (y ∷ ys) i zero a b same more h e f = absurd (omega (arith, more))
merged_more (x ∷ xs) (y ∷ ys) zero (suc n) a b same more h e f =
    ap (λ k. merged (take (suc k) (x ∷ xs)) (take (suc k) (y ∷ ys))) (nothing n more)
    ∙ (ap (λ l. choice_of X x y ∷ l) (two merged (none_more xs) (none_more ys))
    ∙ ap (λ v. v ∷ []) (two (choice_of X) (sym e) (sym f)))
  where
    nothing : (n : ℕ) → suc n ≡ 0 + 1 → n ≡ 0
    nothing n h = omega (arith, h)
merged_more (x ∷ xs) (y ∷ ys) (suc i) (suc n) a b same more h e f =
    ap (λ l. choice_of X x y ∷ l) (merged_more xs ys i n a b (omega (arith, same)) (omega (arith, more)) (omega (arith, h)) e f)

-- no more leaves than the first has
pub merged_few : (xs ys : Value) → length (merged xs ys) ≤ length xs
merged_few [] ys = omega arith
merged_few (x ∷ xs) [] = omega arith
merged_few (x ∷ xs) (y ∷ ys) = omega (arith, merged_few xs ys)
