-- The digits that two words hold.
use Rattle.std.proofs.Common.{◌≡◌, ℕ, zero, suc, ◌+◌, ◌-◌, ◌*◌, ◌/◌, ◌%◌, ◌^◌, ◌<◌, ◌≤◌, List, ◌∷◌, Some, length, Bool, true, false, ◌&&◌, replicate, nat_eq, refl, sym, ap, ◌∙◌, subst, arith, bit_and}
use Rattle.std.specs.Prelude.{◌==◌, if◌then◌else◌, slice_get}
use Rattle.std.proofs.lemmas.Bool.{false≢true}
use Rattle.std.proofs.lemmas.Bool.Decides.{nat_tests}
use Rattle.std.proofs.lemmas.Nat.{pow_pos, shr-shr}
use Rattle.std.proofs.lemmas.Nat.Bits.{shr_and_one}
use Rattle.std.proofs.Math.Nat.{pow-suc, zero-div}
use Rattle.nt_value.specs.declared.bits.Bits.TheInside.{Inside}
use Rattle.nt_value.specs.declared.digit.Digit.{Digit}
use Rattle.nt_value.specs.declared.digit.Digit.TheVariants.{Zero, One, X}
use Rattle.nt_value.specs.declared.leaf.Leaf.{Leaf}
use Rattle.nt_value.specs.Digits.{LeafValue, is_known, all_known, is_one, one_of, number_of, is_top_one}
use Rattle.nt_value.specs.Stored.{digit_of, digits_of, at_bit, halved, seen_bits, stored_bits, IsStored, stored_bits-seen_bits}
use Rattle.nt_value.specs.Values.{binary, default_leaf, zero_leaf}

-- ---- numbers
-- the digits of a word without unknown digits
pub digits_of-known : (n v : ℕ) → digits_of n v 0 ≡ binary n v
unfolding digits_of
digits_of-known zero v = refl
digits_of-known (suc n) v =
    rw (digits_of-known n (v / 2)) (ap (λ d. d ∷ binary n (v / 2)) (at_bit (λ b. digit_of b 0 ≡ (if b == 1 then One else Zero)) refl refl v))

pub digits_of-zero : (n : ℕ) → digits_of n 0 0 ≡ replicate n Zero
unfolding digits_of
digits_of-zero zero = refl
digits_of-zero (suc n) = ap (λ (ds : List Digit). Zero ∷ ds) (digits_of-zero n)

pub digits_of-all_x : (n : ℕ) → digits_of n (2 ^ n - 1) (2 ^ n - 1) ≡ replicate n X
unfolding digits_of
digits_of-all_x zero = refl
digits_of-all_x (suc n) =
    let e : 2 ^ suc n ≡ 2 ^ n * 2 = pow-suc 2 n in
    let p : 0 < 2 ^ n = pow_pos n in
    let low : (2 ^ suc n - 1) % 2 ≡ 1 = omega arith in
    let high : (2 ^ suc n - 1) / 2 ≡ 2 ^ n - 1 = omega arith in
    rw (low, high, digits_of-all_x n) refl

pub length-digits_of : (n v u : ℕ) → length (digits_of n v u) ≡ n
unfolding digits_of
length-digits_of zero v u = refl
length-digits_of (suc n) v u = ap (λ k. suc k) (length-digits_of n (v / 2) (u / 2))

pub all_known-binary : (n v : ℕ) → all_known (binary n v) ≡ true
all_known-binary zero v = refl
all_known-binary (suc n) v =
    rw (at_bit (λ b. is_known (if b == 1 then One else Zero) ≡ true) refl refl v) (all_known-binary n (v / 2))

-- the digits of a number write that number
pub number_of-binary : (n v : ℕ) → v < 2 ^ n → number_of (binary n v) ≡ v
number_of-binary zero v h = omega arith
number_of-binary (suc n) v h =
    let here : one_of (if v % 2 == 1 then One else Zero) ≡ v % 2 = at_bit (λ b. one_of (if b == 1 then One else Zero) ≡ b) refl refl v in
    omega (arith, here, number_of-binary n (v / 2) (halved n v h))

pub number_known : (n v : ℕ) → all_known (digits_of n v 0) ≡ true
number_known n v = ap all_known (digits_of-known n v) ∙ all_known-binary n v

pub number_back : (n v : ℕ) → v < 2 ^ n → number_of (digits_of n v 0) ≡ v
number_back n v h = ap number_of (digits_of-known n v) ∙ number_of-binary n v h

abbrev pub leaf_value : Leaf → List Digit → LeafValue
leaf_value leaf digits = record { leaf = leaf; digits = digits }

pub number_value : (leaf : Leaf) (n : ℕ) → leaf_value leaf (digits_of leaf.width n 0) ≡ leaf_value leaf (binary leaf.width n)
number_value leaf n = ap (λ (ds : List Digit). leaf_value leaf ds) (digits_of-known leaf.width n)

pub zero_value : (leaf : Leaf) → leaf_value leaf (digits_of leaf.width 0 0) ≡ zero_leaf leaf
zero_value leaf = ap (λ (ds : List Digit). leaf_value leaf ds) (digits_of-zero leaf.width)

-- all digits x, in a leaf of four states
pub default_four : (leaf : Leaf) (n : ℕ) → leaf.four ≡ true → n ≡ 2 ^ leaf.width - 1 → leaf_value leaf (digits_of leaf.width n n) ≡ default_leaf leaf
default_four leaf n four e =
    ap (λ k. leaf_value leaf (digits_of leaf.width k k)) e
    ∙ ap (λ (ds : List Digit). leaf_value leaf ds) (digits_of-all_x leaf.width)
    ∙ ap (λ (t : Bool). leaf_value leaf (replicate leaf.width (if t then X else Zero))) (sym four)

-- ---- one digit
digit_at : (n v u i : ℕ) → i < n → slice_get (digits_of n v u) i ≡ Some (digit_of (bit_and (v / 2 ^ i) 1) (bit_and (u / 2 ^ i) 1))
unfolding digits_of
digit_at zero v u i h = absurd (omega arith)
digit_at (suc n) v u zero h =
    let ev : bit_and (v / 2 ^ 0) 1 ≡ v % 2 = omega (arith, shr_and_one v 0) in
    let eu : bit_and (u / 2 ^ 0) 1 ≡ u % 2 = omega (arith, shr_and_one u 0) in
    ap (λ b. Some (digit_of b (u % 2))) (sym ev) ∙ ap (λ b. Some (digit_of (bit_and (v / 2 ^ 0) 1) b)) (sym eu)
digit_at (suc n) v u (suc i) h =
    let e : 1 + i ≡ suc i = omega arith in
    let ev = subst (λ j. v / 2 / 2 ^ i ≡ v / 2 ^ j) e (shr-shr v 1 i) in
    let eu = subst (λ j. u / 2 / 2 ^ i ≡ u / 2 ^ j) e (shr-shr u 1 i) in
    digit_at n (v / 2) (u / 2) i (omega arith)
    ∙ ap (λ x. Some (digit_of (bit_and x 1) (bit_and (u / 2 / 2 ^ i) 1))) ev
    ∙ ap (λ x. Some (digit_of (bit_and (v / 2 ^ suc i) 1) (bit_and x 1))) eu

pub seen_digit : (a : Inside) (p : LeafValue) (i : ℕ) (d : Digit) → seen_bits a ≡ p → i < p.leaf.width → d ≡ digit_of (bit_and (a.ones / 2 ^ i) 1) (bit_and (a.unknown / 2 ^ i) 1) → slice_get p.digits i ≡ Some d
seen_digit a p i d ea h e =
    let w = ap (λ x. x.leaf.width) ea in
    let h' = subst (λ n. i < n) (sym w) h in
    ap (λ x. slice_get x.digits i) (sym ea) ∙ digit_at a.leaf.width a.ones a.unknown i h' ∙ ap (λ x. Some x) (sym e)

-- ---- equality
-- equal leaves with digits have equal words
pub same_words : (a b : Inside) (p q : LeafValue) → seen_bits a ≡ p → seen_bits b ≡ q → IsStored a → IsStored b → p ≡ q → a ≡ b
same_words a b p q ea eb sa sb e =
    sym (stored_bits-seen_bits a sa) ∙ ap stored_bits (ea ∙ e ∙ sym eb) ∙ stored_bits-seen_bits b sb

pub same_seen : (a b : Inside) (p q : LeafValue) → seen_bits a ≡ p → seen_bits b ≡ q → a.leaf ≡ b.leaf → a.ones ≡ b.ones → a.unknown ≡ b.unknown → p ≡ q
same_seen a b p q ea eb el eo eu =
    sym ea
    ∙ ap (λ (k : Leaf). leaf_value k (digits_of k.width a.ones a.unknown)) el
    ∙ ap (λ n. leaf_value b.leaf (digits_of b.leaf.width n a.unknown)) eo
    ∙ ap (λ n. leaf_value b.leaf (digits_of b.leaf.width b.ones n)) eu
    ∙ eb

-- ---- known digits
known_bit : (v u : ℕ) → is_known (digit_of (v % 2) (u % 2)) ≡ nat_eq (u % 2) 0
known_bit v u =
    at_bit (λ b. is_known (digit_of (v % 2) b) ≡ nat_eq b 0) (at_bit (λ a. is_known (digit_of a 0) ≡ true) refl refl v) (at_bit (λ a. is_known (digit_of a 1) ≡ false) refl refl v) u

known_step : (n : ℕ) → nat_eq n 0 ≡ nat_eq (n % 2) 0 && nat_eq (n / 2) 0
known_step n = grind (arith, nat_tests)

pub known_words : (n v u : ℕ) → u < 2 ^ n → nat_eq u 0 ≡ all_known (digits_of n v u)
unfolding digits_of
known_words zero v u h = let e : u ≡ 0 = omega arith in rw e refl
known_words (suc n) v u h =
    known_step u
    ∙ ap (λ (t : Bool). t && nat_eq (u / 2) 0) (sym (known_bit v u))
    ∙ ap (λ (t : Bool). is_known (digit_of (v % 2) (u % 2)) && t) (known_words n (v / 2) (u / 2) (halved n u h))

and_left : (a b : Bool) → a && b ≡ true → a ≡ true
and_left true b h = refl
and_left false b h = absurd (false≢true h)

and_right : (a b : Bool) → a && b ≡ true → b ≡ true
and_right true b h = h
and_right false b h = absurd (false≢true h)

-- known digits write the word of ones
one_bit : (v u : ℕ) → is_known (digit_of (v % 2) (u % 2)) ≡ true → one_of (digit_of (v % 2) (u % 2)) ≡ v % 2
one_bit v u =
    at_bit (λ b. is_known (digit_of (v % 2) b) ≡ true → one_of (digit_of (v % 2) b) ≡ v % 2)
    (at_bit (λ a. is_known (digit_of a 0) ≡ true → one_of (digit_of a 0) ≡ a) (λ _. refl) (λ _. refl) v)
    (at_bit (λ a. is_known (digit_of a 1) ≡ true → one_of (digit_of a 1) ≡ a) (λ h. absurd (false≢true h)) (λ h. absurd (false≢true h)) v)
    u

pub number_of-digits_of : (n v u : ℕ) → v < 2 ^ n → all_known (digits_of n v u) ≡ true → number_of (digits_of n v u) ≡ v
unfolding digits_of
number_of-digits_of zero v u h k = omega arith
number_of-digits_of (suc n) v u h k =
    let here = one_bit v u (and_left (is_known (digit_of (v % 2) (u % 2))) (all_known (digits_of n (v / 2) (u / 2))) k) in
    let tail = and_right (is_known (digit_of (v % 2) (u % 2))) (all_known (digits_of n (v / 2) (u / 2))) k in
    omega (arith, here, number_of-digits_of n (v / 2) (u / 2) (halved n v h) tail)

-- ---- the most significant digit
one_digit : (v u : ℕ) → is_known (digit_of (v % 2) (u % 2)) ≡ true → nat_eq (v % 2) 1 ≡ is_one (digit_of (v % 2) (u % 2))
one_digit v u =
    at_bit (λ b. is_known (digit_of (v % 2) b) ≡ true → nat_eq (v % 2) 1 ≡ is_one (digit_of (v % 2) b))
    (at_bit (λ a. is_known (digit_of a 0) ≡ true → nat_eq a 1 ≡ is_one (digit_of a 0)) (λ _. refl) (λ _. refl) v)
    (at_bit (λ a. is_known (digit_of a 1) ≡ true → nat_eq a 1 ≡ is_one (digit_of a 1)) (λ h. absurd (false≢true h)) (λ h. absurd (false≢true h)) v)
    u

top_words : (n v u : ℕ) → v < 2 ^ suc n → all_known (digits_of (suc n) v u) ≡ true → nat_eq (v / 2 ^ n) 1 ≡ is_top_one (digits_of (suc n) v u)
unfolding digits_of
top_words zero v u h k =
    let e : v / 2 ^ 0 ≡ v % 2 = omega arith in
    ap (λ a. nat_eq a 1) e ∙ one_digit v u (and_left _ _ k)
top_words (suc n) v u h k =
    let e : 1 + n ≡ suc n = omega arith in
    let half = subst (λ j. v / 2 / 2 ^ n ≡ v / 2 ^ j) e (shr-shr v 1 n) in
    ap (λ a. nat_eq a 1) (sym half) ∙ top_words n (v / 2) (u / 2) (halved (suc n) v h) (and_right _ _ k)

pub top_of : (n v u : ℕ) → 1 ≤ n → v < 2 ^ n → all_known (digits_of n v u) ≡ true → nat_eq (v / 2 ^ (n - 1)) 1 ≡ is_top_one (digits_of n v u)
top_of zero v u w h k = absurd (omega arith)
top_of (suc n) v u w h k =
    let e : n ≡ suc n - 1 = omega arith in
    subst (λ j. nat_eq (v / 2 ^ j) 1 ≡ is_top_one (digits_of (suc n) v u)) e (top_words n v u h k)

-- a word whose highest bit is 1 is not 0
pub top_positive : (k v : ℕ) → nat_eq (v / 2 ^ k) 1 ≡ true → 1 ≤ v
top_positive k zero h = let e : 0 / 2 ^ k ≡ 0 = zero-div (2 ^ k) in absurd (false≢true (rw e at h))
top_positive k (suc n) h = omega arith

-- ---- what a method sees
pub seen_number : (a : Inside) (p : LeafValue) → seen_bits a ≡ p → IsStored a → all_known p.digits ≡ true → a.ones ≡ number_of p.digits
seen_number a p ea s k =
    let known : all_known (seen_bits a).digits ≡ true = ap (λ x. all_known x.digits) ea ∙ k in
    sym (number_of-digits_of a.leaf.width a.ones a.unknown s.ones known) ∙ ap (λ x. number_of x.digits) ea

pub seen_top : (a : Inside) (p : LeafValue) → seen_bits a ≡ p → IsStored a → all_known p.digits ≡ true → nat_eq (a.ones / 2 ^ (a.leaf.width - 1)) 1 ≡ is_top_one p.digits
seen_top a p ea s k =
    let known : all_known (seen_bits a).digits ≡ true = ap (λ x. all_known x.digits) ea ∙ k in
    top_of a.leaf.width a.ones a.unknown s.low s.ones known ∙ ap (λ x. is_top_one x.digits) ea
