-- What parts are where no digit is outside, and what `&&` and `||` answer where the left operand decides.
use Rattle.std.proofs.Common.{◌≡◌, ℕ, zero, suc, ◌+◌, ◌≤◌, List, [], ◌∷◌, ◌++◌, length, take, drop, refl, ap, sym, ◌∙◌, arith}
use Rattle.std.proofs.lemmas.List.{drop-drop}
use Rattle.std.specs.Prelude.{Bool, true, false, Some, pos, ◌||◌, if◌then◌else◌}
use Rattle.nt_value.specs.Arithmetic.{padded}
use Rattle.nt_value.specs.Digits.{LeafValue}
use Rattle.nt_value.specs.Logic.{and_digit, or_digit, truth_of}
use Rattle.nt_value.specs.Operators.{part_of, put_part_of, in_leaf, one_digit, binary_of, unsigned_leaf}
use Rattle.nt_value.specs.declared.digit.Digit.{Digit}
use Rattle.nt_value.specs.declared.digit.Digit.TheVariants.{Zero, One, X}
use Rattle.nt_value.specs.declared.operator.Binary.TheVariants.{LogicalAnd, LogicalOr}
use Rattle.nt_design.specs.Parts.{part_at, with_part, over_lowest}

-- as many digits as there are, or fewer
padded_inside : (n : ℕ) (fill : Digit) (ds : List Digit) → n ≤ length ds → padded n fill ds ≡ take n ds
padded_inside zero fill [] h = refl
padded_inside zero fill (d ∷ ds) h = refl
padded_inside (suc n) fill [] h = absurd (omega (arith, h))
padded_inside (suc n) fill (d ∷ ds) h = ap (λ rest. d ∷ rest) (padded_inside n fill ds (omega (arith, h)))

-- a part inside its operand is nt_value's
pub part_inside : (low width : ℕ) (leaf : LeafValue) → width ≤ length (drop low leaf.digits) → part_at (Some (pos low)) width leaf ≡ part_of leaf low width
part_inside low width leaf h =
    ap {B = LeafValue} (λ ds. record { leaf = unsigned_leaf width leaf.leaf.four; digits = ds }) (padded_inside width (if leaf.leaf.four then X else Zero) (drop low leaf.digits) h)

over_inside : (ds new : List Digit) → length new ≤ length ds → over_lowest ds new ≡ new ++ drop (length new) ds
over_inside [] [] h = refl
over_inside [] (n ∷ ns) h = absurd (omega (arith, h))
over_inside (d ∷ ds) [] h = refl
over_inside (d ∷ ds) (n ∷ ns) h = ap (λ rest. n ∷ rest) (over_inside ds ns (omega (arith, h)))

-- a write of such a part is nt_value's
pub write_inside : (low : ℕ) (part leaf : LeafValue) → length part.digits ≡ part.leaf.width → length part.digits ≤ length (drop low leaf.digits) → with_part (Some (pos low)) part leaf ≡ put_part_of leaf low part
write_inside low part leaf same h =
    ap (λ rest. in_leaf leaf.leaf (take low leaf.digits ++ rest))
    (over_inside (drop low leaf.digits) part.digits h
    ∙ ap (λ ds. part.digits ++ ds) (drop-drop (length part.digits) low leaf.digits ∙ ap (λ n. drop (low + n) leaf.digits) same))

or_same : (a b : Bool) → a ≡ b → a ≡ (a || b)
or_same true b h = refl
or_same false b h = h

-- where the left operand decides, its truth is what the operator answers with any right operand of as many states
pub and_decided : (x y : LeafValue) → x.leaf.four ≡ y.leaf.four → truth_of x.digits ≡ Zero → one_digit x.leaf.four (truth_of x.digits) ≡ binary_of LogicalAnd x y
and_decided x y same h =
    ap (λ four. one_digit four (truth_of x.digits)) (or_same x.leaf.four y.leaf.four same)
    ∙ ap (λ d. one_digit (x.leaf.four || y.leaf.four) d) (h ∙ sym (ap (λ d. and_digit d (truth_of y.digits)) h))

pub or_decided : (x y : LeafValue) → x.leaf.four ≡ y.leaf.four → truth_of x.digits ≡ One → one_digit x.leaf.four (truth_of x.digits) ≡ binary_of LogicalOr x y
or_decided x y same h =
    ap (λ four. one_digit four (truth_of x.digits)) (or_same x.leaf.four y.leaf.four same)
    ∙ ap (λ d. one_digit (x.leaf.four || y.leaf.four) d) (h ∙ sym (ap (λ d. or_digit d (truth_of y.digits)) h))
