-- The line that `$display` prints (IEEE 1800-2017, 21.2.1). The texts are this project's own.
use Rattle.std.specs.Prelude.{ℕ, zero, suc, ◌+◌, ◌/◌, ◌==◌, nat_lt, if◌then◌else◌, List, [], ◌∷◌, ◌++◌, get_or, length, map, take, drop, reverse, codes}
use Rattle.std.specs.List.{list_all, list_any}
use Rattle.nt_value.specs.Digits.{LeafValue, all_known, number_of}
use Rattle.nt_value.specs.Logic.{is_same_digit}
use Rattle.nt_value.specs.Texts.{digit_code, number_text}
use Rattle.nt_value.specs.declared.digit.Digit.{Digit}
use Rattle.nt_value.specs.declared.digit.Digit.TheVariants.{X, Z}
use Rattle.nt_design.specs.Parts.{Value, only}

-- the letter of digits that aren't all known: x or z where all are that, else X where one is x, else Z (21.2.1.3)
abbrev pub unknown_code : List Digit → List ℕ
unknown_code ds =
    if list_all (is_same_digit X) ds
    then codes "x"
    else (if list_all (is_same_digit Z) ds then codes "z" else (if list_any (is_same_digit X) ds then codes "X" else codes "Z"))

-- a number below 16 as 0 to 9 or a to f
abbrev pub hex_code : ℕ → ℕ
hex_code n = if nat_lt n 10 then 48 + n else 87 + n

-- up to four digits as one of base 16
abbrev pub hex_text : List Digit → List ℕ
hex_text ds = if all_known ds then hex_code (number_of ds) ∷ [] else unknown_code ds

-- so many digits of base 16, each from the next four digits, the highest first
abbrev pub hex_texts : ℕ → List Digit → List ℕ
hex_texts zero ds = []
hex_texts (suc n) ds = hex_texts n (drop 4 ds) ++ hex_text (take 4 ds)

-- `%h`: a digit for each four, counted from the least significant
abbrev pub in_hex : LeafValue → List ℕ
in_hex v = hex_texts ((length v.digits + 3) / 4) v.digits

-- `%b`: all digits, the most significant first
abbrev pub in_binary : LeafValue → List ℕ
in_binary v = reverse (map digit_code v.digits)

-- `%0d`: the number without leading blanks or zeros
abbrev pub in_decimal : LeafValue → List ℕ
in_decimal v = if all_known v.digits then number_text v else unknown_code v.digits

-- a value by the letter of its format: 98 is b, 104 is h, and 100 is d
abbrev pub formatted : ℕ → LeafValue → List ℕ
formatted letter v = if letter == 98 then in_binary v else (if letter == 104 then in_hex v else in_decimal v)

-- what comes next in a text: anything, what follows `%`, or what follows `%0`
pub data Expected : Type 0 where
  Anything : Expected
  Format : Expected
  Letter : Expected

-- the values that are left after one
abbrev pub others : List Value → List Value
others values = drop 1 values

abbrev pub first_leaf : List Value → LeafValue
first_leaf values = only (get_or values 0 [])

-- the text with its formats replaced by the values in order. 37 is `%` and 48 is 0; the end of a line (10) prints as a
-- blank (32)
abbrev pub text_from : Expected → List ℕ → List Value → List ℕ
text_from expected [] values = []
text_from Anything (c ∷ cs) values =
    if c == 37 then text_from Format cs values else (if c == 10 then 32 else c) ∷ text_from Anything cs values
text_from Format (c ∷ cs) values =
    if c == 37
    then 37 ∷ text_from Anything cs values
    else (if c == 48
    then text_from Letter cs values
    else formatted c (first_leaf values) ++ text_from Anything cs (others values))
text_from Letter (c ∷ cs) values = formatted c (first_leaf values) ++ text_from Anything cs (others values)

unfoldable pub line_of : List ℕ → List Value → List ℕ
line_of text values = text_from Anything text values
