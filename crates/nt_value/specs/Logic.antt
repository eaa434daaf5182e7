-- Digits one by one, and all digits of a leaf together.
use Rattle.std.specs.Prelude.{Bool, true, false, ◌||◌, ◌&&◌, if◌then◌else◌, List, [], ◌∷◌}
use Rattle.nt_value.specs.Digits.{is_one, all_known}
use Rattle.nt_value.specs.declared.digit.Digit.{Digit}
use Rattle.nt_value.specs.declared.digit.Digit.TheVariants.{Zero, One, X, Z}

-- `~` of a digit (IEEE 1800-2017, 11.4.8)
abbrev pub not_digit : Digit → Digit
not_digit Zero = One
not_digit One = Zero
not_digit X = X
not_digit Z = X

-- `&` of two digits: 0 where one is 0, 1 where both are 1, else x (IEEE 1800-2017, 11.4.8)
abbrev pub and_digit : Digit → Digit → Digit
and_digit Zero b = Zero
and_digit One Zero = Zero
and_digit One One = One
and_digit One X = X
and_digit One Z = X
and_digit X Zero = Zero
and_digit X One = X
and_digit X X = X
and_digit X Z = X
and_digit Z Zero = Zero
and_digit Z One = X
and_digit Z X = X
and_digit Z Z = X

-- `|` of two digits: 1 where one is 1, 0 where both are 0, else x (IEEE 1800-2017, 11.4.8)
abbrev pub or_digit : Digit → Digit → Digit
or_digit One b = One
or_digit Zero Zero = Zero
or_digit Zero One = One
or_digit Zero X = X
or_digit Zero Z = X
or_digit X Zero = X
or_digit X One = One
or_digit X X = X
or_digit X Z = X
or_digit Z Zero = X
or_digit Z One = One
or_digit Z X = X
or_digit Z Z = X

-- `^` of two digits: x where one is unknown, else 1 where they differ (IEEE 1800-2017, 11.4.8)
abbrev pub xor_digit : Digit → Digit → Digit
xor_digit Zero Zero = Zero
xor_digit Zero One = One
xor_digit Zero X = X
xor_digit Zero Z = X
xor_digit One Zero = One
xor_digit One One = Zero
xor_digit One X = X
xor_digit One Z = X
xor_digit X b = X
xor_digit Z b = X

-- `~^` is `~` of `^` (IEEE 1800-2017, 11.4.8)
abbrev pub xnor_digit : Digit → Digit → Digit
xnor_digit a b = not_digit (xor_digit a b)

-- `?:` of two digits on an unknown test: equal known digits stay, all else is x (IEEE 1800-2017, 11.4.11; that z and z
-- is x is this project's rule)
abbrev pub merge_digit : Digit → Digit → Digit
merge_digit Zero Zero = Zero
merge_digit Zero One = X
merge_digit Zero X = X
merge_digit Zero Z = X
merge_digit One Zero = X
merge_digit One One = One
merge_digit One X = X
merge_digit One Z = X
merge_digit X b = X
merge_digit Z b = X

-- two drivers of a wire: z yields, equal digits stay, all else is x (IEEE 1800-2017, 6.6.1)
abbrev pub wire_digit : Digit → Digit → Digit
wire_digit Zero Zero = Zero
wire_digit Zero One = X
wire_digit Zero X = X
wire_digit Zero Z = Zero
wire_digit One Zero = X
wire_digit One One = One
wire_digit One X = X
wire_digit One Z = One
wire_digit X b = X
wire_digit Z b = b

-- an operator on the digits at the same place
abbrev pub pairwise : (Digit → Digit → Digit) → List Digit → List Digit → List Digit
pairwise f [] bs = []
pairwise f (a ∷ as') [] = []
pairwise f (a ∷ as') (b ∷ bs) = f a b ∷ pairwise f as' bs

-- all digits reduced by an operator, from a start (IEEE 1800-2017, 11.4.9)
abbrev pub reduced : (Digit → Digit → Digit) → Digit → List Digit → Digit
reduced f start [] = start
reduced f start (d ∷ ds) = f d (reduced f start ds)

-- some digit is 1
abbrev pub any_one : List Digit → Bool
any_one [] = false
any_one (d ∷ ds) = is_one d || any_one ds

-- the digit of a test
abbrev pub digit_if : Bool → Digit
digit_if true = One
digit_if false = Zero

-- as a test, digits are true where one is 1, unknown where none is and one is x or z, else false
-- (IEEE 1800-2017, 11.4.7, 12.4)
abbrev pub truth_of : List Digit → Digit
truth_of ds = if any_one ds then One else (if all_known ds then Zero else X)

-- two known digits differ
abbrev pub differs : Digit → Digit → Bool
differs Zero One = true
differs One Zero = true
differs Zero Zero = false
differs Zero X = false
differs Zero Z = false
differs One One = false
differs One X = false
differs One Z = false
differs X b = false
differs Z b = false

-- at some place two known digits differ
abbrev pub some_differ : List Digit → List Digit → Bool
some_differ [] bs = false
some_differ (a ∷ as') [] = false
some_differ (a ∷ as') (b ∷ bs) = differs a b || some_differ as' bs

-- `==`: 0 where two known digits differ, else x where a digit is x or z, else 1
-- (IEEE 1800-2017, 11.4.5; that a known difference decides is this project's rule)
abbrev pub equal_of : List Digit → List Digit → Digit
equal_of as' bs = if some_differ as' bs then Zero else (if all_known as' && all_known bs then One else X)

-- the same of the four digits
abbrev pub is_same_digit : Digit → Digit → Bool
is_same_digit Zero Zero = true
is_same_digit One One = true
is_same_digit X X = true
is_same_digit Z Z = true
is_same_digit Zero One = false
is_same_digit Zero X = false
is_same_digit Zero Z = false
is_same_digit One Zero = false
is_same_digit One X = false
is_same_digit One Z = false
is_same_digit X Zero = false
is_same_digit X One = false
is_same_digit X Z = false
is_same_digit Z Zero = false
is_same_digit Z One = false
is_same_digit Z X = false

-- `===`: all digits are the same, x and z too (IEEE 1800-2017, 11.4.5)
abbrev pub is_same_digits : List Digit → List Digit → Bool
is_same_digits [] [] = true
is_same_digits [] (b ∷ bs) = false
is_same_digits (a ∷ as') [] = false
is_same_digits (a ∷ as') (b ∷ bs) = is_same_digit a b && is_same_digits as' bs
