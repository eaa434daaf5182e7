-- The laws of the arithmetic operators.
use Rattle.std.proofs.Common.{◌≡◌, ℕ, zero, suc, ◌+◌, ◌-◌, ◌*◌, ◌/◌, ◌%◌, ◌^◌, ◌<◌, List, [], ◌∷◌, length, Bool, true, refl, sym, ap, ◌∙◌, subst, arith, ℤ, pos, negsuc, ◌+ℤ◌, ◌-ℤ◌, ◌*ℤ◌, not}
use Rattle.std.specs.Prelude.{◌==◌, if◌then◌else◌, int_div, int_rem}
use Rattle.std.proofs.lemmas.Int.{ints, quot-rem}
use Rattle.std.proofs.lemmas.Bool.{and_parts, and_from, false≢true}
use Rattle.std.proofs.lemmas.Bool.Decides.{nat_tests}
use Rattle.std.proofs.lemmas.Nat.{pow_pos, div-add-mod'}
use Rattle.std.proofs.Math.Nat.{mod-lt}
use borrow.Author.Differences.{up, down}
use Rattle.nt_value.specs.declared.digit.Digit.{Digit}
use Rattle.nt_value.specs.declared.digit.Digit.TheVariants.{Zero, One, X, Z}
use Rattle.nt_value.specs.declared.leaf.Leaf.{Leaf}
use Rattle.nt_value.specs.declared.operator.Binary.TheVariants.{Mul, Div, Rem}
use Rattle.nt_value.specs.Arithmetic.{low_digits}
use Rattle.nt_value.specs.Digits.{LeafValue, all_known, is_known, number_of, one_of}
use Rattle.nt_value.specs.Laws.{AdditionIsModular, AreKnown, DivisionRestores, IsCongruent, MultiplicationIsModular, SubtractionIsModular}
use Rattle.nt_value.specs.Operators.{in_leaf, number, both_known, calculated, can_divide, binary_of}
use Rattle.nt_value.specs.Values.{binary}
use Rattle.nt_value.proofs.Modular.{IsLow, in_leaf-binary, low_digits_is, low_sum, low_product}
use Rattle.nt_value.proofs.Signs.{is_negative, value_low, number_of-lt}
use Rattle.nt_value.proofs.Words.{all_known-binary, leaf_value, number_of-binary}

-- ---- congruent numbers
multiplied : (m u d a b c e : ℕ) → u + (a + b) ≡ d + (c + e) → u * m + (a + b) * m ≡ d * m + (c + e) * m
multiplied m u d a b c e h = let w : (u + (a + b)) * m ≡ (d + (c + e)) * m = ap (λ x. x * m) h in omega arith

congruent : (w : ℕ) (y z : ℤ) (n : ℕ) → IsLow w y n → IsLow w z n → IsCongruent (2 ^ w) y z
congruent w y z n a b =
    let k = pos (a.up + b.down) -ℤ pos (a.down + b.up) in
    let ea = a.same in
    let eb = b.same in
    let parts : up k + (a.down + b.up) ≡ down k + (a.up + b.down) = omega (arith, ints) in
    let whole = multiplied (2 ^ w) (up k) (down k) a.down b.up a.up b.down parts in
    (k, omega (arith, ints))

-- numbers that share a word share each other word
low_share : (w : ℕ) (y z : ℤ) (m n : ℕ) → IsLow w y m → IsLow w y n → IsLow w z n → IsLow w z m
low_share w y z m n a b c =
    let ea = a.same in
    let eb = b.same in
    let ec = c.same in record {
      up = c.up + b.down + a.up;
      down = c.down + b.up + a.down;
      same = omega (arith, ints);
    }

-- the word of a whole number
pub record HasWord (w : ℕ) (z : ℤ) : Type 0 where
  pub word : ℕ
  pub below : word < 2 ^ w
  pub low : IsLow w z word

word_of_number : (w : ℕ) (z : ℤ) → HasWord w z
word_of_number w (pos m) =
    let split = div-add-mod' m (2 ^ w) in record {
      word = m % 2 ^ w;
      below = mod-lt m (pow_pos w);
      low = record { up = m / 2 ^ w; down = 0; same = omega (arith, ints) };
    }
word_of_number w (negsuc m) =
    let split = div-add-mod' m (2 ^ w) in
    let less : m % 2 ^ w < 2 ^ w = mod-lt m (pow_pos w) in record {
      word = 2 ^ w - 1 - m % 2 ^ w;
      below = omega arith;
      low = record { up = 0; down = m / 2 ^ w + 1; same = omega (arith, ints) };
    }

-- ---- results
pub length-binary : (w n : ℕ) → length (binary w n) ≡ w
length-binary zero n = refl
length-binary (suc w) n = ap (λ k. suc k) (length-binary w (n / 2))

low_of_digits : (leaf : Leaf) (ds : List Digit) → length ds ≡ leaf.width → IsLow leaf.width (number (leaf_value leaf ds)) (number_of ds)
low_of_digits leaf ds e =
    subst (λ w. IsLow w (number (leaf_value leaf ds)) (number_of ds)) e
    (value_low (is_negative (leaf_value leaf ds)) (length ds) (number_of ds) (number_of-lt ds))

-- what a calculation gives: the digits of the word that its number has
pub record IsResult (leaf : Leaf) (z : ℤ) (v : LeafValue) : Type 0 where
  pub word : ℕ
  pub low : IsLow leaf.width z word
  pub seen : IsLow leaf.width (number v) word
  pub known : all_known v.digits ≡ true

binary_result : (leaf : Leaf) (z : ℤ) → HasWord leaf.width z → IsResult leaf z (in_leaf leaf (low_digits leaf.width z))
binary_result leaf z h =
    let w = leaf.width in
    let ds = binary w h.word in
    let is : in_leaf leaf (low_digits w z) ≡ leaf_value leaf ds = ap (in_leaf leaf) (low_digits_is w z h.word h.low) ∙ in_leaf-binary leaf h.word in
    let seen : IsLow w (number (leaf_value leaf ds)) h.word = subst (λ n. IsLow w (number (leaf_value leaf ds)) n) (number_of-binary w h.word h.below) (low_of_digits leaf ds (length-binary w h.word)) in record {
      word = h.word;
      low = h.low;
      seen = subst (λ v. IsLow w (number v) h.word) (sym is) seen;
      known = ap (λ v. all_known v.digits) is ∙ all_known-binary w h.word;
    }

result_of : (leaf : Leaf) (there : Bool) (z : ℤ) → there ≡ true → IsResult leaf z (calculated leaf there z)
result_of leaf there z t =
    subst (λ b. IsResult leaf z (calculated leaf b z)) (sym t) (binary_result leaf z (word_of_number leaf.width z))

modular : (leaf : Leaf) (there : Bool) (z : ℤ) → there ≡ true → IsCongruent (2 ^ leaf.width) (number (calculated leaf there z)) z
modular leaf there z t =
    let r = result_of leaf there z t in
    congruent leaf.width (number (calculated leaf there z)) z r.word r.seen r.low

both : (a b : LeafValue) → AreKnown a b → both_known a b ≡ true
both a b k = and_from (all_known a.digits) (all_known b.digits) k.first_known k.second_known

pub addition : AdditionIsModular
addition a b k = modular a.leaf (both_known a b) (number a +ℤ number b) (both a b k)

pub subtraction : SubtractionIsModular
subtraction a b k = modular a.leaf (both_known a b) (number a -ℤ number b) (both a b k)

pub multiplication : MultiplicationIsModular
multiplication a b k = modular a.leaf (both_known a b) (number a *ℤ number b) (both a b k)

-- ---- quotient and remainder
-- known digits are those of their number
one_back : (d : Digit) (n : ℕ) → is_known d ≡ true → (if (one_of d + n * 2) % 2 == 1 then One else Zero) ≡ d
one_back Zero n h = let e : (0 + n * 2) % 2 ≡ 0 = omega arith in rw e refl
one_back One n h = let e : (1 + n * 2) % 2 ≡ 1 = omega arith in rw e refl
one_back X n h = absurd (false≢true h)
one_back Z n h = absurd (false≢true h)

half_back : (d : Digit) (n : ℕ) → (one_of d + n * 2) / 2 ≡ n
half_back Zero n = omega arith
half_back One n = omega arith
half_back X n = omega arith
half_back Z n = omega arith

digits_back : (ds : List Digit) → all_known ds ≡ true → binary (length ds) (number_of ds) ≡ ds
digits_back [] h = refl
digits_back (d ∷ ds) h =
    let parts = and_parts (is_known d) (all_known ds) h in
    rw (one_back d (number_of ds) parts.0, half_back d (number_of ds), digits_back ds parts.1) refl

leaf_back : (a : LeafValue) (z : ℤ) → length a.digits ≡ a.leaf.width → all_known a.digits ≡ true → IsLow a.leaf.width z (number_of a.digits) → in_leaf a.leaf (low_digits a.leaf.width z) ≡ a
leaf_back a z long known low =
    ap (in_leaf a.leaf) (low_digits_is a.leaf.width z (number_of a.digits) low)
    ∙ in_leaf-binary a.leaf (number_of a.digits)
    ∙ ap (leaf_value a.leaf) (ap (λ w. binary w (number_of a.digits)) (sym long) ∙ digits_back a.digits known)

some : (n : ℕ) → 0 < n → not (n == 0) ≡ true
some zero h = absurd (omega arith)
some (suc n) h = grind (arith, nat_tests)

pub division : DivisionRestores
division a b k h =
    let w = a.leaf.width in
    let can : can_divide a b ≡ true = and_from (both_known a b) (not (number_of b.digits == 0)) (both a b k) (some (number_of b.digits) h) in
    let y = number a in
    let z = number b in
    let quotient = binary_of Div a b in
    let rest = binary_of Rem a b in
    let q = result_of a.leaf (can_divide a b) (int_div y z) can in
    let r = result_of a.leaf (can_divide a b) (int_rem y z) can in
    let known : both_known quotient b ≡ true = and_from (all_known quotient.digits) (all_known b.digits) q.known k.second_known in
    let product = binary_of Mul quotient b in
    let p = result_of a.leaf (both_known quotient b) (number quotient *ℤ z) known in
    let all : both_known product rest ≡ true = and_from (all_known product.digits) (all_known rest.digits) p.known r.known in
    let n = number_of b.digits in
    let low : IsLow w z n = subst (λ l. IsLow l.width z n) (sym k.leaf) (low_of_digits b.leaf b.digits k.second_long) in
    let times = low_share w (number quotient *ℤ z) (number product) (q.word * n) p.word (low_product w (number quotient) z q.word n q.seen low) p.low p.seen in
    let sum = low_sum w (number product) (number rest) (q.word * n) r.word times r.seen in
    let exact = low_sum w (int_div y z *ℤ z) (int_rem y z) (q.word * n) r.word (low_product w (int_div y z) z q.word n q.low low) r.low in
    let first : IsLow w y (q.word * n + r.word) = subst (λ x. IsLow w x (q.word * n + r.word)) (quot-rem y z) exact in
    let own : IsLow w y (number_of a.digits) = low_of_digits a.leaf a.digits k.first_long in
    let whole = low_share w y (number product +ℤ number rest) (number_of a.digits) (q.word * n + r.word) own first sum in
    ap (λ t. calculated a.leaf t (number product +ℤ number rest)) all
    ∙ leaf_back a (number product +ℤ number rest) k.first_long k.first_known whole
