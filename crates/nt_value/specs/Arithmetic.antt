-- Whole numbers in digits.
use Rattle.std.specs.Prelude.{ℕ, zero, suc, ◌-◌, ◌^◌, Bool, true, false, ◌&&◌, if◌then◌else◌, List, [], ◌∷◌, ◌++◌, map, replicate, drop, length, ℤ, pos, negsuc, neg_ℤ}
use Rattle.nt_value.specs.Digits.{is_top_one, number_of}
use Rattle.nt_value.specs.Logic.{not_digit}
use Rattle.nt_value.specs.Values.{binary}
use Rattle.nt_value.specs.declared.digit.Digit.{Digit}
use Rattle.nt_value.specs.declared.digit.Digit.TheVariants.{Zero, X}

-- the number that known digits write, in two's complement where they are signed
-- (IEEE 1800-2017, 6.11.3, 11.4.3)
abbrev pub integer_of : Bool → List Digit → ℤ
integer_of signed ds =
    if signed && is_top_one ds
    then neg_ℤ (pos (2 ^ length ds - number_of ds))
    else pos (number_of ds)

-- the lowest digits of a whole number, in two's complement: those of -(n + 1) are the digits of n,
-- each turned. So a sum, a difference or a product is one modulo 2 to the power of the width.
abbrev pub low_digits : ℕ → ℤ → List Digit
low_digits width (pos n) = binary width n
low_digits width (negsuc n) = map not_digit (binary width n)

-- the digits of a result, or all x where there is none
abbrev pub digits_or_x : ℕ → Bool → ℤ → List Digit
digits_or_x width is_there result = if is_there then low_digits width result else replicate width X

-- the most significant digit
abbrev pub top_digit : List Digit → Digit
top_digit [] = Zero
top_digit (d ∷ []) = d
top_digit (d ∷ e ∷ ds) = top_digit (e ∷ ds)

-- the lowest of these digits, and where they end, of the fill
abbrev pub padded : ℕ → Digit → List Digit → List Digit
padded zero fill ds = []
padded (suc width) fill [] = fill ∷ padded width fill []
padded (suc width) fill (d ∷ ds) = d ∷ padded width fill ds

-- what extends digits: the most significant one where they are signed, else 0
-- (IEEE 1800-2017, 11.8.2; 10.7)
abbrev pub fill_of : Bool → List Digit → Digit
fill_of true ds = top_digit ds
fill_of false ds = Zero

-- digits moved up by an amount, 0 below (IEEE 1800-2017, 11.4.10)
abbrev pub moved_up : ℕ → List Digit → List Digit
moved_up amount ds = padded (length ds) Zero (replicate amount Zero ++ ds)

-- digits moved down by an amount, the fill above (IEEE 1800-2017, 11.4.10)
abbrev pub moved_down : Digit → ℕ → List Digit → List Digit
moved_down fill amount ds = padded (length ds) fill (drop amount ds)
