-- Tests on all digits of a leaf, by its words.
use Rattle.std.proofs.Common.{◌≡◌, ℕ, zero, suc, ◌+◌, ◌-◌, ◌/◌, ◌%◌, ◌^◌, ◌<◌, max, List, Bool, true, false, ◌&&◌, nat_eq, refl, sym, ap, ◌∙◌, subst, arith, bit_and, bit_or}
use Rattle.std.specs.Prelude.{◌||◌, not, if◌then◌else◌}
use Rattle.std.specs.Int.{from_bool}
use Rattle.std.specs.Int.Bits.{bit_xor, or_add_and}
use Rattle.std.proofs.lemmas.Bool.{eq-eqb, ne_eqb}
use Rattle.std.proofs.lemmas.Bool.Decides.{nat_tests}
use Rattle.std.proofs.lemmas.Nat.{and_le_l, and_le_r, or_lt, xor_lt}
use Rattle.nt_value.specs.declared.bits.Bits.TheInside.{Inside}
use Rattle.nt_value.specs.declared.digit.Digit.{Digit}
use Rattle.nt_value.specs.declared.digit.Digit.TheVariants.{Zero, One, X, Z}
use Rattle.nt_value.specs.declared.leaf.Leaf.{Leaf}
use Rattle.nt_value.specs.Digits.{LeafValue, is_one}
use Rattle.nt_value.specs.Logic.{any_one, truth_of, differs, some_differ, equal_of, is_same_digit, is_same_digits}
use Rattle.nt_value.specs.Operators.{in_leaf, one_digit, unsigned_leaf}
use Rattle.nt_value.specs.Stored.{digit_of, digits_of, at_bit, halved, is_one_bit, is_unknown_bit, seen_bits, IsStored}
use Rattle.nt_value.proofs.Words.{known_words}
use Rattle.nt_value.proofs.Bitwise.{without, without_half, without_low, without_lt, or_half, or_low, xor_half, xor_low, same_leaf, sure_places, within_word, and_turned}
use Rattle.nt_value.proofs.Tables.{same_table}

-- ---- one digit
pub seen_one_digit : (four : Bool) (d : Digit) → in_leaf (unsigned_leaf 1 four) (digits_of 1 (from_bool (is_one_bit d)) (from_bool (is_unknown_bit d))) ≡ one_digit four d
unfolding digits_of
seen_one_digit four Zero = refl
seen_one_digit four One = refl
seen_one_digit four X = refl
seen_one_digit four Z = refl

-- ---- tests
-- a test that is decided
pub if_same : {A : Type 0} {m n : ℕ} (x y : A) → m ≡ n → (if nat_eq m n then x else y) ≡ x
if_same {A} {m} {n} x y h = rw (eq-eqb m n h) refl

pub if_other : {A : Type 0} {m n : ℕ} (x y : A) → (m ≡ n → ⊥) → (if nat_eq m n then x else y) ≡ y
if_other {A} {m} {n} x y h = rw (ne_eqb m n h) refl

-- two words are equal where their lowest bits and the rest are
pub equal_step : (a b : ℕ) → nat_eq a b ≡ nat_eq (a % 2) (b % 2) && nat_eq (a / 2) (b / 2)
equal_step a b = grind (arith, nat_tests)

some_step : (a : ℕ) → not (nat_eq a 0) ≡ not (nat_eq (a % 2) 0) || not (nat_eq (a / 2) 0)
some_step a = grind (arith, nat_tests)

-- ---- truth
one_bit : (v u : ℕ) → is_one (digit_of (v % 2) (u % 2)) ≡ not (nat_eq (v % 2 - u % 2) 0)
one_bit v u =
    at_bit (λ a. is_one (digit_of a (u % 2)) ≡ not (nat_eq (a - u % 2) 0))
    (at_bit (λ b. is_one (digit_of 0 b) ≡ not (nat_eq (0 - b) 0)) refl refl u)
    (at_bit (λ b. is_one (digit_of 1 b) ≡ not (nat_eq (1 - b) 0)) refl refl u)
    v

any_one-words : (n v u : ℕ) → v < 2 ^ n → any_one (digits_of n v u) ≡ not (nat_eq (without v u) 0)
unfolding digits_of
any_one-words zero v u h =
    let e : without v u ≡ 0 = omega (arith, without_lt 0 v u h) in
    rw e refl
any_one-words (suc n) v u h =
    rw (some_step (without v u), without_low v u, without_half v u, one_bit v u, any_one-words n (v / 2) (u / 2) (halved n v h)) refl

by_test : (none known : Bool) → (if not none then One else (if known then Zero else X)) ≡ (if none then (if known then Zero else X) else One)
by_test true known = refl
by_test false known = refl

truth-words : (n v u : ℕ) → v < 2 ^ n → u < 2 ^ n → truth_of (digits_of n v u) ≡ (if nat_eq (without v u) 0 then (if nat_eq u 0 then Zero else X) else One)
truth-words n v u hv hu =
    rw (any_one-words n v u hv, ← known_words n v u hu) (by_test (nat_eq (without v u) 0) (nat_eq u 0))

pub seen_truth : (a : Inside) (p : LeafValue) → seen_bits a ≡ p → IsStored a → truth_of p.digits ≡ (if nat_eq (bit_and a.ones (2 ^ 64 - 1 - a.unknown)) 0 then (if nat_eq a.unknown 0 then Zero else X) else One)
seen_truth a p ea s =
    sym (ap (λ (x : LeafValue). truth_of x.digits) ea)
    ∙ truth-words a.leaf.width a.ones a.unknown s.ones s.unknown
    ∙ ap (λ w. if nat_eq w 0 then (if nat_eq a.unknown 0 then Zero else X) else One) (sym (sure_places a s))

-- ---- two leaves
differs_bit : (a b c d : ℕ) → differs (digit_of (a % 2) (b % 2)) (digit_of (c % 2) (d % 2)) ≡ not (nat_eq ((a % 2 + c % 2) % 2 - max (b % 2) (d % 2)) 0)
differs_bit =
    same_table (λ a b c d. differs (digit_of a b) (digit_of c d)) (λ a b c d. not (nat_eq ((a + c) % 2 - max b d) 0)) refl refl refl refl refl refl refl refl refl refl refl refl refl refl refl refl

some_differ-words : (n a b c d : ℕ) → a < 2 ^ n → c < 2 ^ n → some_differ (digits_of n a b) (digits_of n c d) ≡ not (nat_eq (without (bit_xor a c) (bit_or b d)) 0)
unfolding digits_of
some_differ-words zero a b c d ha hc =
    let e : without (bit_xor a c) (bit_or b d) ≡ 0 = omega (arith, without_lt 0 (bit_xor a c) (bit_or b d) (xor_lt 0 a c ha hc)) in
    rw e refl
some_differ-words (suc n) a b c d ha hc =
    rw (some_step (without (bit_xor a c) (bit_or b d)), without_low (bit_xor a c) (bit_or b d), without_half (bit_xor a c) (bit_or b d), xor_low a c, or_low b d, xor_half a c, or_half b d, differs_bit a b c d, some_differ-words n (a / 2) (b / 2) (c / 2) (d / 2) (halved n a ha) (halved n c hc))
    refl

none_of_two : (b d : ℕ) → nat_eq b 0 && nat_eq d 0 ≡ nat_eq (bit_or b d) 0
none_of_two b d =
    let whole = or_add_and b d in
    let left = and_le_l b d in
    let right = and_le_r b d in
    grind (arith, nat_tests)

equal_test : (none known : Bool) → (if not none then Zero else (if known then One else X)) ≡ (if none then (if known then One else X) else Zero)
equal_test true known = refl
equal_test false known = refl

equal-words : (n a b c d : ℕ) → a < 2 ^ n → b < 2 ^ n → c < 2 ^ n → d < 2 ^ n → equal_of (digits_of n a b) (digits_of n c d) ≡ (if nat_eq (without (bit_xor a c) (bit_or b d)) 0 then (if nat_eq (bit_or b d) 0 then One else X) else Zero)
equal-words n a b c d ha hb hc hd =
    rw (some_differ-words n a b c d ha hc, ← known_words n a b hb, ← known_words n c d hd, none_of_two b d)
    (equal_test (nat_eq (without (bit_xor a c) (bit_or b d)) 0) (nat_eq (bit_or b d) 0))

-- what the words of two leaves that are alike give
at_pair : {A : Type 0} (f : List Digit → List Digit → A) (a b : Inside) (p q : LeafValue) → seen_bits a ≡ p → seen_bits b ≡ q → p.leaf ≡ q.leaf → f p.digits q.digits ≡ f (digits_of a.leaf.width a.ones a.unknown) (digits_of a.leaf.width b.ones b.unknown)
at_pair f a b p q ea eb same =
    ap (λ (x : LeafValue). f p.digits x.digits) (sym eb)
    ∙ ap (λ (x : LeafValue). f x.digits (seen_bits b).digits) (sym ea)
    ∙ ap (λ (l : Leaf). f (seen_bits a).digits (digits_of l.width b.ones b.unknown)) (sym (same_leaf a b p q ea eb same))

differ_places : (a b : Inside) → IsStored a → IsStored b → bit_and (bit_xor a.ones b.ones) (2 ^ 64 - 1 - bit_or a.unknown b.unknown) ≡ without (bit_xor a.ones b.ones) (bit_or a.unknown b.unknown)
differ_places a b sa sb =
    and_turned (bit_xor a.ones b.ones) (bit_or a.unknown b.unknown)
    (xor_lt 64 _ _ (within_word a.leaf.width a.ones sa.high sa.ones) (within_word b.leaf.width b.ones sb.high sb.ones))
    (or_lt 64 _ _ (within_word a.leaf.width a.unknown sa.high sa.unknown) (within_word b.leaf.width b.unknown sb.high sb.unknown))

pub seen_equal : (a b : Inside) (p q : LeafValue) → seen_bits a ≡ p → seen_bits b ≡ q → p.leaf ≡ q.leaf → IsStored a → IsStored b → equal_of p.digits q.digits ≡ (if nat_eq (bit_and (bit_xor a.ones b.ones) (2 ^ 64 - 1 - bit_or a.unknown b.unknown)) 0 then (if nat_eq (bit_or a.unknown b.unknown) 0 then One else X) else Zero)
seen_equal a b p q ea eb same sa sb =
    let e = same_leaf a b p q ea eb same in
    let ones = subst (λ (l : Leaf). b.ones < 2 ^ l.width) (sym e) sb.ones in
    let unknown = subst (λ (l : Leaf). b.unknown < 2 ^ l.width) (sym e) sb.unknown in
    at_pair equal_of a b p q ea eb same
    ∙ equal-words a.leaf.width a.ones a.unknown b.ones b.unknown sa.ones sa.unknown ones unknown
    ∙ ap (λ w. if nat_eq w 0 then (if nat_eq (bit_or a.unknown b.unknown) 0 then One else X) else Zero) (sym (differ_places a b sa sb))

same_bit : (a b c d : ℕ) → is_same_digit (digit_of (a % 2) (b % 2)) (digit_of (c % 2) (d % 2)) ≡ nat_eq (a % 2) (c % 2) && nat_eq (b % 2) (d % 2)
same_bit =
    same_table (λ a b c d. is_same_digit (digit_of a b) (digit_of c d)) (λ a b c d. nat_eq a c && nat_eq b d) refl refl refl refl refl refl refl refl refl refl refl refl refl refl refl refl

both_parts : (p q r s : Bool) → (p && q) && (r && s) ≡ (p && r) && (q && s)
both_parts true q true s = refl
both_parts true true false s = refl
both_parts true false false s = refl
both_parts false q r s = refl

same-words : (n a b c d : ℕ) → a < 2 ^ n → b < 2 ^ n → c < 2 ^ n → d < 2 ^ n → is_same_digits (digits_of n a b) (digits_of n c d) ≡ nat_eq a c && nat_eq b d
unfolding digits_of
same-words zero a b c d ha hb hc hd =
    let ea : a ≡ 0 = omega arith in
    let eb : b ≡ 0 = omega arith in
    let ec : c ≡ 0 = omega arith in
    let ed : d ≡ 0 = omega arith in
    rw (ea, eb, ec, ed) refl
same-words (suc n) a b c d ha hb hc hd =
    rw (equal_step a c, equal_step b d, same_bit a b c d, same-words n (a / 2) (b / 2) (c / 2) (d / 2) (halved n a ha) (halved n b hb) (halved n c hc) (halved n d hd))
    (both_parts (nat_eq (a % 2) (c % 2)) (nat_eq (b % 2) (d % 2)) (nat_eq (a / 2) (c / 2)) (nat_eq (b / 2) (d / 2)))

pub seen_same : (a b : Inside) (p q : LeafValue) → seen_bits a ≡ p → seen_bits b ≡ q → p.leaf ≡ q.leaf → IsStored a → IsStored b → is_same_digits p.digits q.digits ≡ nat_eq a.ones b.ones && nat_eq a.unknown b.unknown
seen_same a b p q ea eb same sa sb =
    let e = same_leaf a b p q ea eb same in
    let ones = subst (λ (l : Leaf). b.ones < 2 ^ l.width) (sym e) sb.ones in
    let unknown = subst (λ (l : Leaf). b.unknown < 2 ^ l.width) (sym e) sb.unknown in
    at_pair is_same_digits a b p q ea eb same
    ∙ same-words a.leaf.width a.ones a.unknown b.ones b.unknown sa.ones sa.unknown ones unknown
