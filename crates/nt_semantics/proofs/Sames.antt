-- The test of equal values tells whether they are equal.
use Rattle.std.proofs.Common.{◌≡◌, ◌↔◌, Bool, true, List, IsTrue, refl, ap, subst, Decides}
use Rattle.std.proofs.lemmas.Bool.{false≢true}
use Rattle.std.specs.Cmp.{booleans_Decides}
use Rattle.std.specs.Cmp.Lexicographic.{pointwise_decides}
use Rattle.std.proofs.lemmas.Bool.Decides.{Decides-eqb, Decides-and, Decides-like, same_from_decides}
use Rattle.nt_value.specs.Digits.{LeafValue}
use Rattle.nt_value.specs.declared.digit.Digit.{Digit}
use Rattle.nt_value.specs.declared.digit.Digit.TheVariants.{Zero, One, X, Z}
use Rattle.nt_value.specs.declared.leaf.Leaf.{Leaf}
use Rattle.nt_value.specs.Logic.{is_same_digit}
use Rattle.nt_semantics.specs.Same.{is_same_leaf, is_same_leaf_value, is_same}

digit_refl : (a : Digit) → is_same_digit a a ≡ true
digit_refl Zero = refl
digit_refl One = refl
digit_refl X = refl
digit_refl Z = refl

digit_true : (a b : Digit) → is_same_digit a b ≡ true → a ≡ b
digit_true Zero Zero h = refl
digit_true Zero One h = absurd (false≢true h)
digit_true Zero X h = absurd (false≢true h)
digit_true Zero Z h = absurd (false≢true h)
digit_true One Zero h = absurd (false≢true h)
digit_true One One h = refl
digit_true One X h = absurd (false≢true h)
digit_true One Z h = absurd (false≢true h)
digit_true X Zero h = absurd (false≢true h)
digit_true X One h = absurd (false≢true h)
digit_true X X h = refl
digit_true X Z h = absurd (false≢true h)
digit_true Z Zero h = absurd (false≢true h)
digit_true Z One h = absurd (false≢true h)
digit_true Z X h = absurd (false≢true h)
digit_true Z Z h = refl

digits_decide : (a b : Digit) → Decides (is_same_digit a b) (a ≡ b)
digits_decide a b = (digit_true a b, λ e. subst (λ (d : Digit). is_same_digit a d ≡ true) e (digit_refl a))

leaves_decide : (a b : Leaf) → Decides (is_same_leaf a b) (a ≡ b)
leaves_decide a b =
    Decides-like _ (λ p. leaf_from a b p.0 p.1.0 p.1.1) (λ e. (ap (λ (l : Leaf). l.width) e, (ap (λ (l : Leaf). l.signed) e, ap (λ (l : Leaf). l.four) e))) (Decides-and _ _ (Decides-eqb a.width b.width) (Decides-and _ _ (booleans_Decides a.signed b.signed) (booleans_Decides a.four b.four)))
  where
    leaf_from : (a b : Leaf) → a.width ≡ b.width → a.signed ≡ b.signed → a.four ≡ b.four → a ≡ b
    leaf_from a b p q r = λ i. record { width = p i; signed = q i; four = r i }

leaf_values_decide : (a b : LeafValue) → Decides (is_same_leaf_value a b) (a ≡ b)
leaf_values_decide a b =
    Decides-like _ (λ p. value_from a b p.0 p.1) (λ e. (ap (λ (v : LeafValue). v.leaf) e, ap (λ (v : LeafValue). v.digits) e)) (Decides-and _ _ (leaves_decide a.leaf b.leaf) (pointwise_decides digits_decide a.digits b.digits))
  where
    value_from : (a b : LeafValue) → a.leaf ≡ b.leaf → a.digits ≡ b.digits → a ≡ b
    value_from a b p q = λ i. record { leaf = p i; digits = q i }

pub values_decide : (a b : List LeafValue) → Decides (is_same a b) (a ≡ b)
unfolding is_same
values_decide a b = pointwise_decides leaf_values_decide a b

pub same_is : (a b : List LeafValue) (r : Bool) → IsTrue r ↔ (a ≡ b) → r ≡ is_same a b
same_is a b r h = same_from_decides r (is_same a b) h (values_decide a b)
