-- How a value is printed. The rule is this project's own.
use Rattle.std.specs.Prelude.{ℕ, ◌-◌, ◌^◌, ◌&&◌, List, [], ◌∷◌, ◌++◌, if◌then◌else◌, map, reverse, codes, decimal}
use Rattle.std.specs.List.{flat_map}
use Rattle.nt_value.specs.Digits.{LeafValue, all_known, number_of, is_top_one}
use Rattle.nt_value.specs.declared.digit.Digit.{Digit}
use Rattle.nt_value.specs.declared.digit.Digit.TheVariants.{Zero, One, X, Z}

-- the letter of a digit: 0, 1, x or z
abbrev pub digit_code : Digit → ℕ
digit_code Zero = 48
digit_code One = 49
digit_code X = 120
digit_code Z = 122

-- the decimal number, behind a minus where the leaf is signed and the number below 0 in two's
-- complement (IEEE 1800-2017, 6.11.3)
abbrev pub number_text : LeafValue → List ℕ
number_text v =
    if v.leaf.signed && is_top_one v.digits
    then codes "-" ++ decimal (2 ^ v.leaf.width - number_of v.digits)
    else decimal (number_of v.digits)

-- the width, 'b and all digits, the most significant first, as a literal of IEEE 1800-2017, 5.7.1
abbrev pub digits_text : LeafValue → List ℕ
digits_text v = decimal v.leaf.width ++ codes "'b" ++ reverse (map digit_code v.digits)

-- a leaf is its number, or its digits where one is x or z
abbrev pub leaf_text : LeafValue → List ℕ
leaf_text v = if all_known v.digits then number_text v else digits_text v

-- the leaves, each behind a comma
abbrev pub rest_text : List LeafValue → List ℕ
rest_text vs = flat_map (λ v. codes "," ++ leaf_text v) vs

-- one leaf alone, and else the leaves in braces
abbrev pub value_text : List LeafValue → List ℕ
value_text [] = codes "{}"
value_text (v ∷ []) = leaf_text v
value_text (v ∷ w ∷ vs) = codes "{" ++ leaf_text v ++ rest_text (w ∷ vs) ++ codes "}"
