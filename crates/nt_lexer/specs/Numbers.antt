-- Literal numbers and their values (IEEE 1800-2017, 5.7.1).
use Rattle.std.specs.Prelude.{ℕ, ◌+◌, ◌-◌, ◌*◌, ◌%◌, Bool, true, false, ◌&&◌, ◌||◌, ◌==◌, nat_le, nat_lt, if◌then◌else◌, List, [], ◌∷◌, ◌++◌, reverse, replicate, take, drop, Option, Some, None}
use Rattle.std.specs.Char.{is_ascii_digit, is_ascii_hexdigit}
use Rattle.std.specs.List.{list_all, prefix_len}
use Rattle.nt_value.specs.Arithmetic.{padded}
use Rattle.nt_value.specs.Digits.{LeafValue}
use Rattle.nt_value.specs.Values.{binary}
use Rattle.nt_value.specs.declared.digit.Digit.{Digit}
use Rattle.nt_value.specs.declared.digit.Digit.TheVariants.{Zero, One, X, Z}
use Rattle.nt_value.specs.declared.literal.Literal.{Literal}
use Rattle.nt_lexer.specs.Bytes.{Bytes}
use Rattle.nt_lexer.specs.declared.kinds.Based.{Based}
use Rattle.nt_lexer.specs.declared.kinds.Radix.{Radix}
use Rattle.nt_lexer.specs.declared.kinds.Radix.TheVariants as r

-- the number that decimal digits write; `_` counts for nothing
abbrev pub with_digit : ℕ → ℕ → ℕ
with_digit n b = if b == 95 then n else 10 * n + (b - 48)

abbrev pub decimal_from : ℕ → Bytes → ℕ
decimal_from n [] = n
decimal_from n (b ∷ bs) = decimal_from (with_digit n b) bs

abbrev pub decimal : Bytes → ℕ
decimal text = decimal_from 0 text

-- x, and z or ?, in either case: an unknown digit
unfoldable pub unknown_of : ℕ → Option Digit
unknown_of b =
    if b == 120 || b == 88 then Some X
    else if b == 122 || b == 90 || b == 63 then Some Z
    else None

-- how many binary digits a digit of the radix stands for
abbrev pub digit_bits : Radix → ℕ
digit_bits r.Binary = 1
digit_bits r.Octal = 3
digit_bits r.Decimal = 4
digit_bits r.Hex = 4

-- the number that a known digit writes
unfoldable pub digit_value : ℕ → ℕ
digit_value b = if nat_lt b 65 then b - 48 else if nat_lt b 97 then b - 55 else b - 87

abbrev pub low_bit : ℕ → Digit
low_bit n = if n % 2 == 1 then One else Zero

abbrev pub group_of : ℕ → ℕ → Option Digit → List Digit
group_of bits b (Some unknown) = replicate bits unknown
group_of bits b None = reverse (binary bits (digit_value b))

-- the binary digits that one digit stands for, the most significant first: an unknown one for as many unknown ones
unfoldable pub group : Radix → ℕ → List Digit
group radix b = group_of (digit_bits radix) b (unknown_of b)

abbrev pub digit_group : Radix → ℕ → List Digit
digit_group radix b = if b == 95 then [] else group radix b

-- the binary digits that are written, the most significant first; `_` counts for nothing
abbrev pub written : Radix → Bytes → List Digit
written radix [] = []
written radix (b ∷ bs) = digit_group radix b ++ written radix bs

abbrev pub or_zero : Option Digit → Digit
or_zero (Some unknown) = unknown
or_zero None = Zero

-- what a shorter literal is filled with: x or z where its first digit is that, else 0
unfoldable pub fill : Bytes → Digit
fill [] = Zero
fill (b ∷ bs) = or_zero (unknown_of b)

abbrev pub is_decimal : Radix → Bool
is_decimal r.Decimal = true
is_decimal _ = false

abbrev pub decimal_digits : ℕ → Bytes → Option Digit → List Digit
decimal_digits width text (Some unknown) = padded width unknown []
decimal_digits width text None = binary width (decimal text)

abbrev pub first_unknown : Bytes → Option Digit
first_unknown [] = None
first_unknown (b ∷ bs) = unknown_of b

-- the low digits of a based literal at a width, the least significant first
unfoldable pub digits_at : ℕ → Radix → Bytes → List Digit
digits_at width radix text =
    if is_decimal radix then decimal_digits width text (first_unknown text)
    else padded width (fill text) (reverse (written radix text))

abbrev pub is_zero : Digit → Bool
is_zero Zero = true
is_zero One = false
is_zero X = false
is_zero Z = false

abbrev pub decimal_fits : Bytes → Option Digit → Bool
decimal_fits text (Some unknown) = true
decimal_fits text None = nat_lt (decimal text) 4294967296

-- no digit above the low 32 is other than 0
unfoldable pub fits_word : Radix → Bytes → Bool
fits_word radix text =
    if is_decimal radix then decimal_fits text (first_unknown text)
    else list_all is_zero (drop 32 (reverse (written radix text)))

-- a leaf of four states with the low digits of a based literal
abbrev pub based_value : ℕ → Bool → Radix → Bytes → LeafValue
based_value width signed radix text =
    record { leaf = record { width = width; signed = signed; four = true }; digits = digits_at width radix text }

-- the digits of a based literal in the text that has it
abbrev pub digits_in : Based → Bytes → Bytes
digits_in based text = take based.len (drop based.before text)

abbrev pub based_literal : ℕ → Bool → Based → Bytes → Literal
based_literal width sized based text =
    record { bits = based_value width based.signed based.radix (digits_in based text); sized = sized; fill = false }

-- a decimal number: 32 bits, signed
abbrev pub decimal_literal : ℕ → Literal
decimal_literal n =
    record { bits = record { leaf = record { width = 32; signed = true; four = true }; digits = binary 32 n }; sized = false; fill = false }

-- one digit that fills its context
abbrev pub fill_literal : Digit → Literal
fill_literal digit =
    record { bits = record { leaf = record { width = 1; signed = false; four = true }; digits = digit ∷ [] }; sized = false; fill = true }

-- the letter of a radix, in either case
unfoldable pub radix_of : ℕ → Option Radix
radix_of b =
    if b == 98 || b == 66 then Some r.Binary
    else if b == 111 || b == 79 then Some r.Octal
    else if b == 100 || b == 68 then Some r.Decimal
    else if b == 104 || b == 72 then Some r.Hex
    else None

abbrev pub is_unknown : ℕ → Bool
is_unknown b = b == 120 || b == 88 || (b == 122 || b == 90 || b == 63)

-- the digits that may begin a based literal's digits
unfoldable pub is_radix_digit : Radix → ℕ → Bool
is_radix_digit r.Binary b = nat_le 48 b && nat_le b 49 || is_unknown b
is_radix_digit r.Octal b = nat_le 48 b && nat_le b 55 || is_unknown b
is_radix_digit r.Decimal b = is_ascii_digit b
is_radix_digit r.Hex b = is_ascii_hexdigit b || is_unknown b

-- a decimal literal may be one x or z, after which only `_` may stand
unfoldable pub is_lone : Radix → ℕ → Bool
is_lone r.Decimal b = b == 120 || b == 88 || (b == 122 || b == 90)
is_lone _ b = false

unfoldable pub goes_on : Radix → ℕ → Bool
goes_on radix b = is_radix_digit radix b || b == 95

abbrev pub is_underscore : ℕ → Bool
is_underscore b = b == 95

-- how many bytes at the front are digits of the radix: `_` may stand after the first
unfoldable pub digits_len : Radix → Bytes → ℕ
digits_len radix [] = 0
digits_len radix (b ∷ bs) =
    if is_radix_digit radix b then 1 + prefix_len (goes_on radix) bs
    else if is_lone radix b then 1 + prefix_len is_underscore bs
    else 0

abbrev pub based_by : Bool → ℕ → Bytes → Option Radix → Option Based
based_by signed before text None = None
based_by signed before text (Some radix) =
    if digits_len radix text == 0 then None
    else Some (record { signed = signed; radix = radix; before = before; len = digits_len radix text })

unfoldable pub with_radix : Bool → ℕ → Bytes → Option Based
with_radix signed before [] = None
with_radix signed before (b ∷ bs) = based_by signed (before + 1) bs (radix_of b)

-- the based literal, without its size, at the front of a text: `'`, an s or none, a radix, digits
unfoldable pub based_front : Bytes → Option Based
based_front [] = None
based_front (a ∷ []) = None
based_front (a ∷ b ∷ bs) =
    if a == 39 then (if b == 115 || b == 83 then with_radix true 2 bs else with_radix false 1 (b ∷ bs)) else None

-- the digit of a literal that fills its context
unfoldable pub filling_of : ℕ → Option Digit
filling_of b =
    if b == 48 then Some Zero
    else if b == 49 then Some One
    else if b == 120 || b == 88 then Some X
    else if b == 122 || b == 90 then Some Z
    else None

unfoldable pub filling_front : Bytes → Option Digit
filling_front [] = None
filling_front (a ∷ []) = None
filling_front (a ∷ b ∷ bs) = if a == 39 then filling_of b else None
