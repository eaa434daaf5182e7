-- Digits dropped, taken, appended and padded, in words.
use Rattle.std.proofs.Common.{◌≡◌, ℕ, zero, suc, ◌+◌, ◌-◌, ◌*◌, ◌/◌, ◌%◌, ◌^◌, ◌<◌, ◌≤◌, List, [], ◌∷◌, ◌++◌, length, take, drop, replicate, Bool, true, false, refl, sym, ap, ◌∙◌, subst, arith, bit_and, bit_or, inl, inr}
use Rattle.std.specs.Prelude.{◌||◌, slice_get, Some}
use Rattle.std.proofs.lemmas.Option.{none-some}
use Rattle.std.specs.Int.{from_bool}
use Rattle.std.proofs.lemmas.Bool.{cases_lt, true≢false}
use Rattle.std.proofs.lemmas.Nat.{pow_pos, shr-shr, mod-pow-add, and_mask, shr_split, pow-add, or_comm, or_shifted}
use Rattle.std.proofs.Math.Nat.{pow-suc, mul-le-mul_right, mod-lt}
use Rattle.nt_value.proofs.Words.{digits_of-zero, leaf_value, length-digits_of}
use Rattle.nt_value.specs.Arithmetic.{padded, top_digit, fill_of, moved_up, moved_down}
use Rattle.nt_value.specs.Changes.{top_bit, all_bits, extended_word, put_word}
use Rattle.nt_value.specs.Digits.{LeafValue}
use Rattle.nt_value.specs.Operators.{unsigned_leaf, part_of, concat_of}
use Rattle.nt_value.specs.Stored.{digit_of, digits_of, bit_of, halved, is_one_bit, is_unknown_bit, seen_bits, IsStored}
use Rattle.nt_value.specs.declared.bits.Bits.TheInside.{Inside}
use Rattle.nt_value.specs.declared.digit.Digit.{Digit}
use Rattle.nt_value.specs.declared.digit.Digit.TheVariants.{Zero, One, X, Z}

-- ---- words with bits above
all_bits_low : (b j : ℕ) → 0 < j → b < 2 → all_bits b j % 2 ≡ b
all_bits_low zero j p q = refl
all_bits_low (suc b) zero p q = absurd (omega arith)
all_bits_low (suc b) (suc j) p q = let e = pow-suc 2 j in let h = pow_pos j in omega arith

all_bits_half : (b j : ℕ) → all_bits b (suc j) / 2 ≡ all_bits b j
all_bits_half zero j = refl
all_bits_half (suc b) j = let e = pow-suc 2 j in let h = pow_pos j in omega arith

-- digits past the end
fills : (k j b c : ℕ) → k ≤ j → b < 2 → c < 2 → digits_of k (all_bits b j) (all_bits c j) ≡ padded k (digit_of b c) []
unfolding digits_of
fills zero j b c h p q = refl
fills (suc k) zero b c h p q = absurd (omega arith)
fills (suc k) (suc j) b c h p q =
    rw (all_bits_low b (suc j) (omega arith) p, all_bits_low c (suc j) (omega arith) q, all_bits_half b j, all_bits_half c j, fills k j b c (omega arith) p q) refl

doubled : (n s : ℕ) → 2 ^ suc n * s ≡ 2 ^ n * s * 2
doubled n s = let p : 2 ^ suc n * s ≡ 2 ^ n * 2 * s = ap (λ x. x * s) (pow-suc 2 n) in omega arith

low_part : (n v s : ℕ) → (v + 2 ^ suc n * s) % 2 ≡ v % 2
low_part n v s = let e : 2 ^ suc n * s ≡ 2 ^ n * s * 2 = doubled n s in omega arith

half_part : (n v s : ℕ) → (v + 2 ^ suc n * s) / 2 ≡ v / 2 + 2 ^ n * s
half_part n v s = let e : 2 ^ suc n * s ≡ 2 ^ n * s * 2 = doubled n s in omega arith

pub pads : (m n j v u b c : ℕ) → v < 2 ^ n → u < 2 ^ n → b < 2 → c < 2 → m ≤ n + j → digits_of m (v + 2 ^ n * all_bits b j) (u + 2 ^ n * all_bits c j) ≡ padded m (digit_of b c) (digits_of n v u)
unfolding digits_of
pads m zero j v u b c hv hu p q h =
    let ev : v + 1 * all_bits b j ≡ all_bits b j = omega arith in
    let eu : u + 1 * all_bits c j ≡ all_bits c j = omega arith in
    rw (ev, eu) (fills m j b c (omega arith) p q)
pads zero (suc n) j v u b c hv hu p q h = refl
pads (suc m) (suc n) j v u b c hv hu p q h =
    rw (low_part n v (all_bits b j), low_part n u (all_bits c j), half_part n v (all_bits b j), half_part n u (all_bits c j))
    (ap (λ ds. digit_of (v % 2) (u % 2) ∷ ds) (pads m n j (v / 2) (u / 2) b c (halved n v hv) (halved n u hu) p q (omega arith)))

-- the top_digit digit
pub top_digit_is : (n v u : ℕ) → v < 2 ^ suc n → u < 2 ^ suc n → top_digit (digits_of (suc n) v u) ≡ digit_of (v / 2 ^ n) (u / 2 ^ n)
unfolding digits_of
top_digit_is zero v u hv hu =
    let ev : v % 2 ≡ v / 2 ^ 0 = omega arith in
    let eu : u % 2 ≡ u / 2 ^ 0 = omega arith in
    ap (λ x. digit_of x (u % 2)) ev ∙ ap (digit_of (v / 2 ^ 0)) eu
top_digit_is (suc n) v u hv hu =
    let e : 1 + n ≡ suc n = omega arith in
    let ev = subst (λ j. v / 2 / 2 ^ n ≡ v / 2 ^ j) e (shr-shr v 1 n) in
    let eu = subst (λ j. u / 2 / 2 ^ n ≡ u / 2 ^ j) e (shr-shr u 1 n) in
    top_digit_is n (v / 2) (u / 2) (halved (suc n) v hv) (halved (suc n) u hu) ∙ ap (λ x. digit_of x (u / 2 / 2 ^ n)) ev ∙ ap (digit_of (v / 2 ^ suc n)) eu

-- the low digits of two words
low_both : (n v u : ℕ) → digits_of n (v % 2 ^ n) (u % 2 ^ n) ≡ digits_of n v u
unfolding digits_of
low_both zero v u = refl
low_both (suc n) v u =
    let e : n + 1 ≡ suc n = omega arith in
    let wv = subst (λ m. v % 2 ^ m ≡ v / 2 % 2 ^ n * 2 + v % 2) e (mod-pow-add v n 1) in
    let wu = subst (λ m. u % 2 ^ m ≡ u / 2 % 2 ^ n * 2 + u % 2) e (mod-pow-add u n 1) in
    let lv : v % 2 ^ suc n % 2 ≡ v % 2 = omega arith in
    let lu : u % 2 ^ suc n % 2 ≡ u % 2 = omega arith in
    let dv : v % 2 ^ suc n / 2 ≡ v / 2 % 2 ^ n = omega arith in
    let du : u % 2 ^ suc n / 2 ≡ u / 2 % 2 ^ n = omega arith in
    rw (lv, lu, dv, du, low_both n (v / 2) (u / 2)) refl

top_lt : (signed : Bool) (v n : ℕ) → 1 ≤ n → v < 2 ^ n → top_bit signed v n < 2
top_lt false v n p h = omega arith
top_lt true v zero p h = absurd (omega arith)
top_lt true v (suc n) p h =
    let e : n ≡ suc n - 1 = omega arith in
    subst (λ k. v / 2 ^ k < 2) e
    (elim (cases_lt (v / 2 ^ n) 2) [
      | inl lt ↦ lt
      | inr ge ↦ let q = mul-le-mul_right (2 ^ n) ge in let w = pow-suc 2 n in absurd (omega (arith, shr_split v n))
    ])

fill_is : (signed : Bool) (v u n : ℕ) → 1 ≤ n → v < 2 ^ n → u < 2 ^ n → digit_of (top_bit signed v n) (top_bit signed u n) ≡ fill_of signed (digits_of n v u)
fill_is false v u n p hv hu = refl
fill_is true v u zero p hv hu = absurd (omega arith)
fill_is true v u (suc n) p hv hu =
    let e : n ≡ suc n - 1 = omega arith in
    subst (λ k. digit_of (v / 2 ^ k) (u / 2 ^ k) ≡ top_digit (digits_of (suc n) v u)) e (sym (top_digit_is n v u hv hu))

minus_ones : (w p q : ℕ) → 0 < p → 0 < q → w ≡ p * q → w - 1 - (q - 1) ≡ (p - 1) * q
minus_ones w zero q h k e = absurd (omega arith)
minus_ones w (suc p) q h k e =
    let one : suc p - 1 ≡ p = omega arith in
    rw one (omega arith)

turned : (a q v : ℕ) → a * q + v ≡ v + q * a
turned a q v = omega arith

pub extended : (v n b : ℕ) → n ≤ 64 → v < 2 ^ n → (b ≡ 0 → ⊥) → bit_or v (2 ^ 64 - 1 - (2 ^ n - 1)) ≡ v + 2 ^ n * all_bits b (64 - n)
extended v n zero h hv ne = absurd (ne refl)
extended v n (suc b) h hv ne =
    let j = 64 - n in
    let e : j + n ≡ 64 = omega arith in
    let whole : 2 ^ 64 ≡ 2 ^ j * 2 ^ n = subst (λ k. 2 ^ k ≡ 2 ^ j * 2 ^ n) e (pow-add 2 j n) in
    let above : 2 ^ 64 - 1 - (2 ^ n - 1) ≡ (2 ^ j - 1) * 2 ^ n = minus_ones (2 ^ 64) (2 ^ j) (2 ^ n) (pow_pos j) (pow_pos n) whole in
    rw above (or_comm v ((2 ^ j - 1) * 2 ^ n) ∙ or_shifted (2 ^ j - 1) n v hv ∙ turned (2 ^ j - 1) (2 ^ n) v)

-- ---- digits of more and of fewer places
-- the low digits of two words, cut at any place above
pub low_more : (n m v u : ℕ) → n ≤ m → digits_of n (v % 2 ^ m) (u % 2 ^ m) ≡ digits_of n v u
unfolding digits_of
low_more zero m v u h = refl
low_more (suc n) zero v u h = absurd (omega arith)
low_more (suc n) (suc m) v u h =
    let e : m + 1 ≡ suc m = omega arith in
    let wv = subst (λ k. v % 2 ^ k ≡ v / 2 % 2 ^ m * 2 + v % 2) e (mod-pow-add v m 1) in
    let wu = subst (λ k. u % 2 ^ k ≡ u / 2 % 2 ^ m * 2 + u % 2) e (mod-pow-add u m 1) in
    let lv : v % 2 ^ suc m % 2 ≡ v % 2 = omega arith in
    let lu : u % 2 ^ suc m % 2 ≡ u % 2 = omega arith in
    let dv : v % 2 ^ suc m / 2 ≡ v / 2 % 2 ^ m = omega arith in
    let du : u % 2 ^ suc m / 2 ≡ u / 2 % 2 ^ m = omega arith in
    rw (lv, lu, dv, du, low_more n m (v / 2) (u / 2) (omega arith)) refl

pub dropped : (n k v u : ℕ) → drop k (digits_of n v u) ≡ digits_of (n - k) (v / 2 ^ k) (u / 2 ^ k)
unfolding digits_of
dropped n zero v u =
    let en : n - 0 ≡ n = omega arith in
    let ev : v / 2 ^ 0 ≡ v = omega arith in
    let eu : u / 2 ^ 0 ≡ u = omega arith in
    rw (en, ev, eu) refl
dropped zero (suc k) v u = let e : 0 - suc k ≡ 0 = omega arith in rw e refl
dropped (suc n) (suc k) v u =
    let e : suc n - suc k ≡ n - k = omega arith in
    let one : 1 + k ≡ suc k = omega arith in
    let ev = subst (λ j. v / 2 / 2 ^ k ≡ v / 2 ^ j) one (shr-shr v 1 k) in
    let eu = subst (λ j. u / 2 / 2 ^ k ≡ u / 2 ^ j) one (shr-shr u 1 k) in
    rw e (dropped n k (v / 2) (u / 2) ∙ ap (λ x. digits_of (n - k) x (u / 2 / 2 ^ k)) ev ∙ ap (digits_of (n - k) (v / 2 ^ suc k)) eu)

pub taken : (n k v u : ℕ) → k ≤ n → take k (digits_of n v u) ≡ digits_of k v u
unfolding digits_of
taken n zero v u h = refl
taken zero (suc k) v u h = absurd (omega arith)
taken (suc n) (suc k) v u h = ap (λ (ds : List Digit). digit_of (v % 2) (u % 2) ∷ ds) (taken n k (v / 2) (u / 2) (omega arith))

pub appended : (n m v u a b : ℕ) → v < 2 ^ n → u < 2 ^ n → digits_of n v u ++ digits_of m a b ≡ digits_of (n + m) (v + 2 ^ n * a) (u + 2 ^ n * b)
unfolding digits_of
appended zero m v u a b hv hu =
    let ev : v + 2 ^ 0 * a ≡ a = omega arith in
    let eu : u + 2 ^ 0 * b ≡ b = omega arith in
    let e : 0 + m ≡ m = omega arith in
    rw (e, ev, eu) refl
appended (suc n) m v u a b hv hu =
    let e : suc n + m ≡ suc (n + m) = omega arith in
    rw (e, low_part n v a, low_part n u b, half_part n v a, half_part n u b)
    (ap (λ (ds : List Digit). digit_of (v % 2) (u % 2) ∷ ds) (appended n m (v / 2) (u / 2) a b (halved n v hv) (halved n u hu)))

pub padded_low : (m n v u : ℕ) (f : Digit) → m ≤ n → padded m f (digits_of n v u) ≡ digits_of m v u
unfolding digits_of
padded_low zero n v u f h = refl
padded_low (suc m) zero v u f h = absurd (omega arith)
padded_low (suc m) (suc n) v u f h = ap (λ (ds : List Digit). digit_of (v % 2) (u % 2) ∷ ds) (padded_low m n (v / 2) (u / 2) f (omega arith))

pub padded_none : (m : ℕ) (f : Digit) → padded m f [] ≡ replicate m f
padded_none zero f = refl
padded_none (suc m) f = ap (λ (ds : List Digit). f ∷ ds) (padded_none m f)

pub padded_zeros : (n k : ℕ) (ds : List Digit) → n ≤ k → padded n Zero (replicate k Zero ++ ds) ≡ replicate n Zero
padded_zeros zero k ds h = refl
padded_zeros (suc n) zero ds h = absurd (omega arith)
padded_zeros (suc n) (suc k) ds h = ap (λ (ds : List Digit). Zero ∷ ds) (padded_zeros n k ds (omega arith))

-- one digit at all places
pub repeated : (n b c : ℕ) → b < 2 → c < 2 → digits_of n (all_bits b n) (all_bits c n) ≡ replicate n (digit_of b c)
repeated n b c p q = fills n n b c (omega arith) p q ∙ padded_none n (digit_of b c)

-- ---- bounds
mod_lt_pow : (v n : ℕ) → v % 2 ^ n < 2 ^ n
mod_lt_pow v n = let h : 0 < 2 ^ n = pow_pos n in mod-lt v h

abbrev take_all : ℕ → ℕ → ℕ → ℕ → ℕ → ℕ → ℕ → List Digit
take_all low v u a b width n = digits_of low v u ++ (digits_of width a b ++ digits_of (n - (low + width)) (v / 2 ^ (low + width)) (u / 2 ^ (low + width)))

-- a word moved down
pub moved_lt : (n k v : ℕ) → v < 2 ^ n → k ≤ n → v / 2 ^ k < 2 ^ (n - k)
moved_lt n zero v h w = let e : n - 0 ≡ n = omega arith in let ev : v / 2 ^ 0 ≡ v = omega arith in rw (e, ev) h
moved_lt zero (suc k) v h w = absurd (omega arith)
moved_lt (suc n) (suc k) v h w =
    let e : suc n - suc k ≡ n - k = omega arith in
    let one : 1 + k ≡ suc k = omega arith in
    let ev = subst (λ j. v / 2 / 2 ^ k ≡ v / 2 ^ j) one (shr-shr v 1 k) in
    rw e (subst (λ x. x < 2 ^ (n - k)) ev (moved_lt n k (v / 2) (halved n v h) (omega arith)))

-- one word above the lowest bits of another
pub packed_lt : (n m low high : ℕ) → low < 2 ^ n → high < 2 ^ m → low + 2 ^ n * high < 2 ^ (n + m)
packed_lt n m low high hl hh =
    let e : 2 ^ (n + m) ≡ 2 ^ n * 2 ^ m = pow-add 2 n m in
    let less : (high + 1) * 2 ^ n ≤ 2 ^ m * 2 ^ n = mul-le-mul_right (2 ^ n) (omega arith) in
    let whole : (high + 1) * 2 ^ n ≡ 2 ^ n * high + 2 ^ n = omega arith in
    let turn : 2 ^ m * 2 ^ n ≡ 2 ^ n * 2 ^ m = omega arith in
    omega arith

pub packed_is : (high n low : ℕ) → n < 64 → high < 2 ^ (64 - n) → low < 2 ^ n → bit_or (high * 2 ^ n % 2 ^ 64) low ≡ low + 2 ^ n * high
packed_is high n low w h l =
    let e : n + (64 - n) ≡ 64 = omega arith in
    let bound : 0 + 2 ^ n * high < 2 ^ 64 = subst (λ k. 0 + 2 ^ n * high < 2 ^ k) e (packed_lt n (64 - n) 0 high (pow_pos n) h) in
    let turn : high * 2 ^ n ≡ 2 ^ n * high = omega arith in
    let same : high * 2 ^ n % 2 ^ 64 ≡ high * 2 ^ n = omega arith in
    rw same (or_shifted high n low l ∙ omega arith)

-- ---- what a leaf takes of two words
pub masked : (n v u : ℕ) → digits_of n (bit_and v (2 ^ n - 1)) (bit_and u (2 ^ n - 1)) ≡ digits_of n v u
masked n v u = rw (and_mask v n, and_mask u n) (low_more n n v u (omega arith))

pub masked_lt : (v n : ℕ) → bit_and v (2 ^ n - 1) < 2 ^ n
masked_lt v n = rw (and_mask v n) (mod_lt_pow v n)

-- ---- resizing, parts, concatenation
resized_digits : (m n v u : ℕ) (signed : Bool) → 1 ≤ n → n ≤ 64 → m ≤ 64 → v < 2 ^ n → u < 2 ^ n → digits_of m (extended_word v n (top_bit signed v n)) (extended_word u n (top_bit signed u n)) ≡ padded m (fill_of signed (digits_of n v u)) (digits_of n v u)
resized_digits m n v u signed low high long hv hu =
    pads m n (64 - n) v u _ _ hv hu (top_lt signed v n low hv) (top_lt signed u n low hu) (omega arith)
    ∙ ap (λ d. padded m d (digits_of n v u)) (fill_is signed v u n low hv hu)

pub seen_resize : (a : Inside) (p : LeafValue) (m : ℕ) (signed : Bool) → seen_bits a ≡ p → IsStored a → m ≤ 64 → digits_of m (extended_word a.ones a.leaf.width (top_bit signed a.ones a.leaf.width)) (extended_word a.unknown a.leaf.width (top_bit signed a.unknown a.leaf.width)) ≡ padded m (fill_of signed p.digits) p.digits
seen_resize a p m signed ea s h =
    resized_digits m a.leaf.width a.ones a.unknown signed s.low s.high h s.ones s.unknown
    ∙ ap (λ x. padded m (fill_of signed x.digits) x.digits) ea

part_digits : (n low width v u : ℕ) → low + width ≤ n → digits_of width (bit_and (v / 2 ^ low) (2 ^ width - 1)) (bit_and (u / 2 ^ low) (2 ^ width - 1)) ≡ take width (drop low (digits_of n v u))
part_digits n low width v u h =
    masked width (v / 2 ^ low) (u / 2 ^ low)
    ∙ sym (taken (n - low) width (v / 2 ^ low) (u / 2 ^ low) (omega arith))
    ∙ ap (take width) (sym (dropped n low v u))

pub seen_part : (a : Inside) (p : LeafValue) (low width m : ℕ) → seen_bits a ≡ p → low + width ≤ p.leaf.width → m ≡ 2 ^ width - 1 → leaf_value (unsigned_leaf width a.leaf.four) (digits_of width (bit_and (a.ones / 2 ^ low) m) (bit_and (a.unknown / 2 ^ low) m)) ≡ part_of p low width
seen_part a p low width m ea h e =
    let inside : low + width ≤ a.leaf.width = subst (λ x. low + width ≤ x.leaf.width) (sym ea) h in
    ap (λ k. leaf_value (unsigned_leaf width a.leaf.four) (digits_of width (bit_and (a.ones / 2 ^ low) k) (bit_and (a.unknown / 2 ^ low) k))) e
    ∙ ap (λ (ds : List Digit). leaf_value (unsigned_leaf width a.leaf.four) ds) (part_digits a.leaf.width low width a.ones a.unknown inside)
    ∙ ap (λ x. part_of x low width) ea

put_digits : (n low width v u a b : ℕ) → low + width ≤ n → a < 2 ^ width → b < 2 ^ width → digits_of n (put_word v low width a) (put_word u low width b) ≡ take low (digits_of n v u) ++ (digits_of width a b ++ drop (low + width) (digits_of n v u))
put_digits n low width v u a b h ha hb =
    let whole : low + (width + (n - (low + width))) ≡ n = omega arith in
    let first = taken n low v u (omega arith) in
    let rest = dropped n (low + width) v u in
    let upper = appended width (n - (low + width)) a b (v / 2 ^ (low + width)) (u / 2 ^ (low + width)) ha hb in
    let lower = low_more low low v u (omega arith) in
    let all = appended low (width + (n - (low + width))) (v % 2 ^ low) (u % 2 ^ low) (a + 2 ^ width * (v / 2 ^ (low + width))) (b + 2 ^ width * (u / 2 ^ (low + width))) (mod_lt_pow v low) (mod_lt_pow u low) in
    rw (first, rest) (sym (subst (λ k. take_all low v u a b width n ≡ digits_of k (put_word v low width a) (put_word u low width b)) whole
    (ap (λ (ds : List Digit). ds ++ (digits_of width a b ++ digits_of (n - (low + width)) (v / 2 ^ (low + width)) (u / 2 ^ (low + width)))) (sym lower)
    ∙ ap (λ (ds : List Digit). digits_of low (v % 2 ^ low) (u % 2 ^ low) ++ ds) upper
    ∙ all)))

pub seen_put : (a b : Inside) (p q : LeafValue) (low : ℕ) → seen_bits a ≡ p → seen_bits b ≡ q → IsStored b → low + q.leaf.width ≤ p.leaf.width → digits_of a.leaf.width (put_word a.ones low b.leaf.width b.ones) (put_word a.unknown low b.leaf.width b.unknown) ≡ take low p.digits ++ (q.digits ++ drop (low + q.leaf.width) p.digits)
seen_put a b p q low ea eb s h =
    let right : low + b.leaf.width ≤ p.leaf.width = subst (λ y. low + y.leaf.width ≤ p.leaf.width) (sym eb) h in
    let inside : low + b.leaf.width ≤ a.leaf.width = subst (λ x. low + b.leaf.width ≤ x.leaf.width) (sym ea) right in
    put_digits a.leaf.width low b.leaf.width a.ones a.unknown b.ones b.unknown inside s.ones s.unknown
    ∙ ap (λ x. take low x.digits ++ (digits_of b.leaf.width b.ones b.unknown ++ drop (low + b.leaf.width) x.digits)) ea
    ∙ ap (λ y. take low p.digits ++ (y.digits ++ drop (low + y.leaf.width) p.digits)) eb

turned_sum : (n m : ℕ) → n + m ≡ m + n
turned_sum n m = omega arith

pub seen_concat : (a b : Inside) (p q : LeafValue) (v u : ℕ) → seen_bits a ≡ p → seen_bits b ≡ q → IsStored b → v ≡ b.ones + 2 ^ b.leaf.width * a.ones → u ≡ b.unknown + 2 ^ b.leaf.width * a.unknown → leaf_value (unsigned_leaf (a.leaf.width + b.leaf.width) (a.leaf.four || b.leaf.four)) (digits_of (a.leaf.width + b.leaf.width) v u) ≡ concat_of p q
seen_concat a b p q v u ea eb s ev eu =
    let leaf = unsigned_leaf (a.leaf.width + b.leaf.width) (a.leaf.four || b.leaf.four) in
    rw (ev, eu)
    (ap (λ k. leaf_value leaf (digits_of k (b.ones + 2 ^ b.leaf.width * a.ones) (b.unknown + 2 ^ b.leaf.width * a.unknown))) (turned_sum a.leaf.width b.leaf.width)
    ∙ ap (λ (ds : List Digit). leaf_value leaf ds) (sym (appended b.leaf.width a.leaf.width b.ones b.unknown a.ones a.unknown s.ones s.unknown))
    ∙ ap (λ x. concat_of x (seen_bits b)) ea
    ∙ ap (λ y. concat_of p y) eb)

-- no digit of two leaves of two states is unknown
pub none_unknown : (s t : Bool) (v u p : ℕ) → s || t ≡ false → (s ≡ false → v ≡ 0) → (t ≡ false → u ≡ 0) → u + p * v ≡ 0
none_unknown false false v u p h f g = let a = f refl in let b = g refl in rw (a, b) (omega arith)
none_unknown true t v u p h f g = absurd (true≢false h)
none_unknown false true v u p h f g = absurd (true≢false h)

-- ---- shifts
pub up_digits : (n k v u : ℕ) → n ≤ 64 → digits_of n (v * 2 ^ k % 2 ^ 64) (u * 2 ^ k % 2 ^ 64) ≡ padded n Zero (replicate k Zero ++ digits_of n v u)
up_digits n k v u h =
    let ev : v * 2 ^ k ≡ 0 + 2 ^ k * v = omega arith in
    let eu : u * 2 ^ k ≡ 0 + 2 ^ k * u = omega arith in
    low_more n 64 (v * 2 ^ k) (u * 2 ^ k) h
    ∙ rw (ev, eu) (
    sym (padded_low n (k + n) (0 + 2 ^ k * v) (0 + 2 ^ k * u) Zero (omega arith))
    ∙ ap (padded n Zero) (sym (appended k n 0 0 v u (pow_pos k) (pow_pos k)) ∙ ap (λ (ds : List Digit). ds ++ digits_of n v u) (digits_of-zero k)))

pub seen_up : (a : Inside) (p : LeafValue) (k : ℕ) → seen_bits a ≡ p → IsStored a → digits_of a.leaf.width (a.ones * 2 ^ k % 2 ^ 64) (a.unknown * 2 ^ k % 2 ^ 64) ≡ moved_up k p.digits
seen_up a p k ea s =
    up_digits a.leaf.width k a.ones a.unknown s.high
    ∙ ap (λ m. padded m Zero (replicate k Zero ++ digits_of a.leaf.width a.ones a.unknown)) (sym (length-digits_of a.leaf.width a.ones a.unknown))
    ∙ ap (λ x. moved_up k x.digits) ea

pub seen_up_all : (a : Inside) (p : LeafValue) (k : ℕ) → seen_bits a ≡ p → a.leaf.width ≤ k → replicate a.leaf.width Zero ≡ moved_up k p.digits
seen_up_all a p k ea h =
    let ds = digits_of a.leaf.width a.ones a.unknown in
    sym (padded_zeros a.leaf.width k ds h)
    ∙ ap (λ m. padded m Zero (replicate k Zero ++ ds)) (sym (length-digits_of a.leaf.width a.ones a.unknown))
    ∙ ap (λ x. moved_up k x.digits) ea

down_digits : (n k v u b c : ℕ) → n ≤ 64 → k < n → v < 2 ^ n → u < 2 ^ n → b < 2 → c < 2 → digits_of n (extended_word (v / 2 ^ k) (n - k) b) (extended_word (u / 2 ^ k) (n - k) c) ≡ padded n (digit_of b c) (drop k (digits_of n v u))
down_digits n k v u b c long h hv hu p q =
    pads n (n - k) (64 - (n - k)) (v / 2 ^ k) (u / 2 ^ k) b c (moved_lt n k v hv (omega arith)) (moved_lt n k u hu (omega arith)) p q (omega arith)
    ∙ ap (padded n (digit_of b c)) (sym (dropped n k v u))

pub seen_down : (a : Inside) (p : LeafValue) (k b c : ℕ) (d : Digit) → seen_bits a ≡ p → IsStored a → k < a.leaf.width → b < 2 → c < 2 → digit_of b c ≡ d → digits_of a.leaf.width (extended_word (a.ones / 2 ^ k) (a.leaf.width - k) b) (extended_word (a.unknown / 2 ^ k) (a.leaf.width - k) c) ≡ moved_down d k p.digits
seen_down a p k b c d ea s h hb hc e =
    let ds = digits_of a.leaf.width a.ones a.unknown in
    down_digits a.leaf.width k a.ones a.unknown b c s.high h s.ones s.unknown hb hc
    ∙ ap (λ f. padded a.leaf.width f (drop k ds)) e
    ∙ ap (λ m. padded m d (drop k ds)) (sym (length-digits_of a.leaf.width a.ones a.unknown))
    ∙ ap (λ x. moved_down d k x.digits) ea

no_digits : (v u : ℕ) → digits_of 0 v u ≡ []
unfolding digits_of
no_digits v u = refl

pub seen_down_all : (a : Inside) (p : LeafValue) (k : ℕ) (d : Digit) → seen_bits a ≡ p → a.leaf.width ≤ k → replicate a.leaf.width d ≡ moved_down d k p.digits
seen_down_all a p k d ea h =
    let n = a.leaf.width in
    let ds = digits_of n a.ones a.unknown in
    let none : n - k ≡ 0 = omega arith in
    sym (padded_none n d)
    ∙ ap (padded n d) (sym (dropped n k a.ones a.unknown ∙ rw none (no_digits (a.ones / 2 ^ k) (a.unknown / 2 ^ k))))
    ∙ ap (λ m. padded m d (drop k ds)) (sym (length-digits_of n a.ones a.unknown))
    ∙ ap (λ x. moved_down d k x.digits) ea

-- the bits of a digit
pub digit_back : (d : Digit) → digit_of (bit_of (is_one_bit d)) (bit_of (is_unknown_bit d)) ≡ d
digit_back Zero = refl
digit_back One = refl
digit_back X = refl
digit_back Z = refl

pub bit_lt : (b : Bool) → bit_of b < 2
bit_lt true = omega arith
bit_lt false = omega arith

pub seen_filled : (n : ℕ) (d : Digit) → digits_of n (all_bits (bit_of (is_one_bit d)) n) (all_bits (bit_of (is_unknown_bit d)) n) ≡ replicate n d
seen_filled n d =
    repeated n (bit_of (is_one_bit d)) (bit_of (is_unknown_bit d)) (bit_lt (is_one_bit d)) (bit_lt (is_unknown_bit d)) ∙ ap (replicate n) (digit_back d)

-- the digit at the last place is the most significant one
pub top_of_digits : (ds : List Digit) (d : Digit) → slice_get ds (length ds - 1) ≡ Some d → top_digit ds ≡ d
top_of_digits [] d e = absurd (none-some d e)
top_of_digits (a ∷ []) d e = cc
top_of_digits (a ∷ b ∷ ds) d e = let s : length (a ∷ b ∷ ds) - 1 ≡ suc (length (b ∷ ds) - 1) = omega arith in top_of_digits (b ∷ ds) d (subst (λ i. slice_get (a ∷ b ∷ ds) i ≡ Some d) s e)

pub seen_fill : (a : Inside) (p : LeafValue) (d : Digit) → seen_bits a ≡ p → a.leaf.signed ≡ true → slice_get p.digits (a.leaf.width - 1) ≡ Some d → d ≡ fill_of p.leaf.signed p.digits
seen_fill a p d ea t e =
    let long : length p.digits ≡ a.leaf.width = ap (λ x. length x.digits) (sym ea) ∙ length-digits_of a.leaf.width a.ones a.unknown in
    let signed : p.leaf.signed ≡ true = ap (λ x. x.leaf.signed) (sym ea) ∙ t in
    sym (top_of_digits p.digits d (subst (λ n. slice_get p.digits (n - 1) ≡ Some d) (sym long) e))
    ∙ ap (λ s. fill_of s p.digits) (sym signed)

pub byte_is : (b : Bool) → from_bool b ≡ bit_of b
byte_is true = refl
byte_is false = refl
