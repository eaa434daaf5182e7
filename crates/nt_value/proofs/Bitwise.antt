-- Words that hold the digits of an operator's result.
use Rattle.std.proofs.Common.{◌≡◌, ℕ, zero, suc, ◌+◌, ◌-◌, ◌*◌, ◌/◌, ◌%◌, ◌^◌, ◌<◌, ◌≤◌, min, max, List, ◌∷◌, Bool, false, map, refl, sym, ap, ◌∙◌, subst, arith, bit_and, bit_or}
use Rattle.std.specs.Prelude.{if◌then◌else◌}
use Rattle.std.specs.Int.Bits.{bit_xor, and_step, or_step, xor_add_and}
use Rattle.std.proofs.lemmas.Nat.{and_le_l, and_comm, and-not, pow_pos}
use Rattle.std.proofs.Math.Nat.{pow-suc}
use Rattle.std.proofs.Math.Pow.{pow_mono}
use Rattle.nt_value.specs.declared.bits.Bits.TheInside.{Inside}
use Rattle.nt_value.specs.declared.digit.Digit.{Digit}
use Rattle.nt_value.specs.declared.leaf.Leaf.{Leaf}
use Rattle.nt_value.specs.Digits.{LeafValue}
use Rattle.nt_value.specs.Logic.{pairwise, not_digit}
use Rattle.nt_value.specs.Operators.{in_leaf, two_state}
use Rattle.nt_value.proofs.Words.{leaf_value}
use Rattle.nt_value.specs.Stored.{digit_of, digits_of, at_bit, halved, seen_bits, IsStored}

-- ---- halves and lowest bits
pub and_half : (a b : ℕ) → bit_and a b / 2 ≡ bit_and (a / 2) (b / 2)
and_half a b = omega (arith, and_step a b)

pub and_low : (a b : ℕ) → bit_and a b % 2 ≡ min (a % 2) (b % 2)
and_low a b = omega (arith, and_step a b)

pub or_half : (a b : ℕ) → bit_or a b / 2 ≡ bit_or (a / 2) (b / 2)
or_half a b = omega (arith, or_step a b)

pub or_low : (a b : ℕ) → bit_or a b % 2 ≡ max (a % 2) (b % 2)
or_low a b = omega (arith, or_step a b)

pub xor_low : (a b : ℕ) → bit_xor a b % 2 ≡ (a % 2 + b % 2) % 2
xor_low a b = omega (arith, xor_add_and a b)

pub xor_half : (a b : ℕ) → bit_xor a b / 2 ≡ bit_xor (a / 2) (b / 2)
xor_half a b = omega (arith, xor_add_and a b, xor_add_and (a / 2) (b / 2), and_step a b)

-- a word with the bits of another taken away
unfoldable pub without : ℕ → ℕ → ℕ
without a b = a - bit_and a b

pub without_half : (a b : ℕ) → without a b / 2 ≡ without (a / 2) (b / 2)
unfolding without
without_half a b = omega (arith, and_step a b, and_le_l (a / 2) (b / 2))

pub without_low : (a b : ℕ) → without a b % 2 ≡ a % 2 - b % 2
unfolding without
without_low a b = omega (arith, and_step a b, and_le_l (a / 2) (b / 2))

-- what `a & !b` gives
pub and_turned : (a b : ℕ) → a < 2 ^ 64 → b < 2 ^ 64 → bit_and a (2 ^ 64 - 1 - b) ≡ without a b
unfolding without
and_turned a b ha hb = omega (arith, and-not 64 b a hb ha, and_comm a (2 ^ 64 - 1 - b), and_comm a b)

pub without_lt : (k a b : ℕ) → a < 2 ^ k → without a b < 2 ^ k
unfolding without
without_lt k a b h = omega arith

-- ---- operators on words
-- what a word of low ones and the four words of two leaves give
abbrev pub Words : Type 0
Words = ℕ → ℕ → ℕ → ℕ → ℕ → ℕ

abbrev pub HasHalves : Words → Type 0
HasHalves f = (m a b c d : ℕ) → f m a b c d / 2 ≡ f (m / 2) (a / 2) (b / 2) (c / 2) (d / 2)

-- the words of a result, where each lowest digit is what the operator gives
pub record IsOperator (g : Digit → Digit → Digit) (ones unknown : Words) : Type 0 where
  pub ones_half : HasHalves ones
  pub ones_none : ones 0 0 0 0 0 ≡ 0
  pub unknown_half : HasHalves unknown
  pub unknown_none : unknown 0 0 0 0 0 ≡ 0
  pub digit : (m a b c d : ℕ) → m % 2 ≡ 1 → digit_of (ones m a b c d % 2) (unknown m a b c d % 2) ≡ g (digit_of (a % 2) (b % 2)) (digit_of (c % 2) (d % 2))

pub ones_low : (n : ℕ) → (2 ^ suc n - 1) % 2 ≡ 1
ones_low n = let e : 2 ^ suc n ≡ 2 ^ n * 2 = pow-suc 2 n in let p : 0 < 2 ^ n = pow_pos n in omega arith

pub ones_half : (n : ℕ) → (2 ^ suc n - 1) / 2 ≡ 2 ^ n - 1
ones_half n = let e : 2 ^ suc n ≡ 2 ^ n * 2 = pow-suc 2 n in let p : 0 < 2 ^ n = pow_pos n in omega arith

pub pairs : (g : Digit → Digit → Digit) (f h : Words) → IsOperator g f h → (n a b c d : ℕ) → digits_of n (f (2 ^ n - 1) a b c d) (h (2 ^ n - 1) a b c d) ≡ pairwise g (digits_of n a b) (digits_of n c d)
unfolding digits_of
pairs g f h o zero a b c d = refl
pairs g f h o (suc n) a b c d =
    let m = 2 ^ suc n - 1 in
    let v : f m a b c d / 2 ≡ f (2 ^ n - 1) (a / 2) (b / 2) (c / 2) (d / 2) = o.ones_half m a b c d ∙ ap (λ k. f k (a / 2) (b / 2) (c / 2) (d / 2)) (ones_half n) in
    let u : h m a b c d / 2 ≡ h (2 ^ n - 1) (a / 2) (b / 2) (c / 2) (d / 2) = o.unknown_half m a b c d ∙ ap (λ k. h k (a / 2) (b / 2) (c / 2) (d / 2)) (ones_half n) in
    ap (λ x. digit_of (f m a b c d % 2) (h m a b c d % 2) ∷ digits_of n x (h m a b c d / 2)) v
    ∙ ap (λ x. digit_of (f m a b c d % 2) (h m a b c d % 2) ∷ digits_of n (f (2 ^ n - 1) (a / 2) (b / 2) (c / 2) (d / 2)) x) u
    ∙ ap (λ (ds : List Digit). digit_of (f m a b c d % 2) (h m a b c d % 2) ∷ ds) (pairs g f h o n (a / 2) (b / 2) (c / 2) (d / 2))
    ∙ ap (λ (x : Digit). x ∷ pairwise g (digits_of n (a / 2) (b / 2)) (digits_of n (c / 2) (d / 2))) (o.digit m a b c d (ones_low n))

-- such words fit where their operands do
pub stays_within : (f : Words) → HasHalves f → f 0 0 0 0 0 ≡ 0 → (n m a b c d : ℕ) → m < 2 ^ n → a < 2 ^ n → b < 2 ^ n → c < 2 ^ n → d < 2 ^ n → f m a b c d < 2 ^ n
stays_within f half none zero m a b c d hm ha hb hc hd =
    let em : m ≡ 0 = omega arith in
    let ea : a ≡ 0 = omega arith in
    let eb : b ≡ 0 = omega arith in
    let ec : c ≡ 0 = omega arith in
    let ed : d ≡ 0 = omega arith in
    let e : f m a b c d ≡ 0 = rw (em, ea, eb, ec, ed) none in
    omega arith
stays_within f half none (suc n) m a b c d hm ha hb hc hd =
    let e : 2 ^ suc n ≡ 2 ^ n * 2 = pow-suc 2 n in
    let more = stays_within f half none n (m / 2) (a / 2) (b / 2) (c / 2) (d / 2) (halved n m hm) (halved n a ha) (halved n b hb) (halved n c hc) (halved n d hd) in
    omega (arith, half m a b c d, more)

-- ---- two leaves that are alike
pub same_leaf : (a b : Inside) (p q : LeafValue) → seen_bits a ≡ p → seen_bits b ≡ q → p.leaf ≡ q.leaf → a.leaf ≡ b.leaf
same_leaf a b p q ea eb same = ap (λ (x : LeafValue). x.leaf) ea ∙ same ∙ sym (ap (λ (x : LeafValue). x.leaf) eb)

pub fits_pair : (f : Words) → HasHalves f → f 0 0 0 0 0 ≡ 0 → (a b : Inside) (p q : LeafValue) → seen_bits a ≡ p → seen_bits b ≡ q → p.leaf ≡ q.leaf → IsStored a → IsStored b → f (2 ^ a.leaf.width - 1) a.ones a.unknown b.ones b.unknown < 2 ^ a.leaf.width
fits_pair f half none a b p q ea eb same sa sb =
    let e = same_leaf a b p q ea eb same in
    let m : 2 ^ a.leaf.width - 1 < 2 ^ a.leaf.width = omega (arith, pow_pos a.leaf.width) in
    let ones = subst (λ (l : Leaf). b.ones < 2 ^ l.width) (sym e) sb.ones in
    let unknown = subst (λ (l : Leaf). b.unknown < 2 ^ l.width) (sym e) sb.unknown in
    stays_within f half none a.leaf.width _ a.ones a.unknown b.ones b.unknown m sa.ones sa.unknown ones unknown

pub seen_pair : (g : Digit → Digit → Digit) (f h : Words) → IsOperator g f h → (a b : Inside) (p q : LeafValue) → seen_bits a ≡ p → seen_bits b ≡ q → p.leaf ≡ q.leaf → in_leaf a.leaf (digits_of a.leaf.width (f (2 ^ a.leaf.width - 1) a.ones a.unknown b.ones b.unknown) (h (2 ^ a.leaf.width - 1) a.ones a.unknown b.ones b.unknown)) ≡ in_leaf p.leaf (pairwise g p.digits q.digits)
seen_pair g f h o a b p q ea eb same =
    ap (in_leaf a.leaf) (pairs g f h o a.leaf.width a.ones a.unknown b.ones b.unknown)
    ∙ ap (λ (l : Leaf). in_leaf a.leaf (pairwise g (seen_bits a).digits (digits_of l.width b.ones b.unknown))) (same_leaf a b p q ea eb same)
    ∙ ap (λ (x : LeafValue). in_leaf x.leaf (pairwise g x.digits (seen_bits b).digits)) ea
    ∙ ap (λ (x : LeafValue). in_leaf p.leaf (pairwise g p.digits x.digits)) eb

-- ---- one leaf
two_state_bit : (v u : ℕ) → digit_of (v % 2 - u % 2) 0 ≡ two_state (digit_of (v % 2) (u % 2))
two_state_bit v u =
    at_bit (λ a. digit_of (a - u % 2) 0 ≡ two_state (digit_of a (u % 2)))
    (at_bit (λ b. digit_of (0 - b) 0 ≡ two_state (digit_of 0 b)) refl refl u)
    (at_bit (λ b. digit_of (1 - b) 0 ≡ two_state (digit_of 1 b)) refl refl u)
    v

digits_of-two_state : (n v u : ℕ) → digits_of n (without v u) 0 ≡ map two_state (digits_of n v u)
unfolding digits_of
digits_of-two_state zero v u = refl
digits_of-two_state (suc n) v u =
    rw (without_low v u, without_half v u, two_state_bit v u, digits_of-two_state n (v / 2) (u / 2)) refl

-- the words of a leaf of two states
pub seen_two_state : (leaf : Leaf) (v u : ℕ) → leaf.four ≡ false → v < 2 ^ 64 → u < 2 ^ 64 → leaf_value leaf (digits_of leaf.width (bit_and v (2 ^ 64 - 1 - u)) 0) ≡ in_leaf leaf (digits_of leaf.width v u)
seen_two_state leaf v u four hv hu =
    ap (λ x. leaf_value leaf (digits_of leaf.width x 0)) (and_turned v u hv hu)
    ∙ ap (leaf_value leaf) (digits_of-two_state leaf.width v u)
    ∙ ap (λ (t : Bool). leaf_value leaf (if t then digits_of leaf.width v u else map two_state (digits_of leaf.width v u))) (sym four)

turned_bit : (v u : ℕ) → digit_of (max ((v % 2 + 1) % 2) (u % 2)) (u % 2) ≡ not_digit (digit_of (v % 2) (u % 2))
turned_bit v u =
    at_bit (λ a. digit_of (max ((a + 1) % 2) (u % 2)) (u % 2) ≡ not_digit (digit_of a (u % 2)))
    (at_bit (λ b. digit_of (max 1 b) b ≡ not_digit (digit_of 0 b)) refl refl u)
    (at_bit (λ b. digit_of (max 0 b) b ≡ not_digit (digit_of 1 b)) refl refl u)
    v

digits_of-turned : (n v u : ℕ) → digits_of n (bit_or (bit_xor v (2 ^ n - 1)) u) u ≡ map not_digit (digits_of n v u)
unfolding digits_of
digits_of-turned zero v u = refl
digits_of-turned (suc n) v u =
    rw (or_low (bit_xor v (2 ^ suc n - 1)) u, xor_low v (2 ^ suc n - 1), ones_low n, turned_bit v u, or_half (bit_xor v (2 ^ suc n - 1)) u, xor_half v (2 ^ suc n - 1), ones_half n, digits_of-turned n (v / 2) (u / 2)) refl

pub seen_turned : (a : Inside) (p : LeafValue) → seen_bits a ≡ p → in_leaf a.leaf (digits_of a.leaf.width (bit_or (bit_xor a.ones (2 ^ a.leaf.width - 1)) a.unknown) a.unknown) ≡ in_leaf p.leaf (map not_digit p.digits)
seen_turned a p ea =
    ap (in_leaf a.leaf) (digits_of-turned a.leaf.width a.ones a.unknown) ∙ ap (λ (x : LeafValue). in_leaf x.leaf (map not_digit x.digits)) ea

pub within_word : (n v : ℕ) → n ≤ 64 → v < 2 ^ n → v < 2 ^ 64
within_word n v h hv = omega (arith, hv, pow_mono h)

-- the places of the digits 1
pub sure_places : (a : Inside) → IsStored a → bit_and a.ones (2 ^ 64 - 1 - a.unknown) ≡ without a.ones a.unknown
sure_places a s = and_turned a.ones a.unknown (within_word a.leaf.width a.ones s.high s.ones) (within_word a.leaf.width a.unknown s.high s.unknown)
