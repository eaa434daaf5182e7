-- The bytes of a source text, by what they may begin and go on with.
use Rattle.std.specs.Prelude.{ℕ, Bool, true, false, not, ◌&&◌, ◌||◌, ◌==◌, nat_le, if◌then◌else◌, List}
use Rattle.std.specs.Char.{is_ascii_alphabetic, is_ascii_digit}
use Rattle.nt_lexer.specs.declared.kinds.Sort.{Sort}
use Rattle.nt_lexer.specs.declared.kinds.Sort.TheVariants as s
use Rattle.nt_lexer.specs.declared.kinds.Run.{Run}
use Rattle.nt_lexer.specs.declared.kinds.Run.TheVariants as run

abbrev pub Bytes : Type 0
Bytes = List ℕ

-- tab, line feed, form feed, carriage return and space (IEEE 1800-2017, 5.3)
unfoldable pub is_blank : ℕ → Bool
is_blank b = b == 9 || b == 10 || b == 12 || b == 13 || b == 32

-- what a byte begins (IEEE 1800-2017, 5.2): the printable ASCII characters but the backslash, and white space
unfoldable pub sort : ℕ → Sort
sort b =
    if is_blank b then s.Blank
    else if is_ascii_alphabetic b || b == 95 then s.Letter
    else if is_ascii_digit b then s.Digit
    else if b == 36 then s.Dollar
    else if b == 34 then s.Quote
    else if b == 39 then s.Tick
    else if b == 96 then s.Grave
    else if nat_le 33 b && nat_le b 126 && not (b == 92) then s.Sign
    else s.Bad

-- a letter, a digit, `_` or `$` goes on with a name (IEEE 1800-2017, 5.6)
abbrev pub is_name_sort : Sort → Bool
is_name_sort s.Letter = true
is_name_sort s.Digit = true
is_name_sort s.Dollar = true
is_name_sort _ = false

-- a byte that a text may have: white space, and the printable characters, the backslash too
unfoldable pub is_plain : ℕ → Bool
is_plain b = is_blank b || nat_le 33 b && nat_le b 126

-- what goes on with white space, a name, a decimal number, a line, and the inside of a text
-- (IEEE 1800-2017, 5.3, 5.6, 5.7.1, 5.4, 5.9)
unfoldable pub in_run : Run → ℕ → Bool
in_run run.Blank b = is_blank b
in_run run.Name b = is_name_sort (sort b)
in_run run.Number b = is_ascii_digit b || b == 95
in_run run.Line b = not (b == 10)
in_run run.Text b = is_plain b
