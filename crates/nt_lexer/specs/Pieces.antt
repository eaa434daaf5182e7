-- What stands at the front of a text: white space, a comment, a directive, a token, or a fault.
use Rattle.std.specs.Prelude.{ℕ, ◌+◌, Bool, true, false, not, ◌==◌, ◌&&◌, ◌||◌, nat_eq, nat_lt, if◌then◌else◌, List, [], ◌∷◌, ◌++◌, length, take, drop, Option, Some, None}
use Rattle.std.specs.List.{prefix_len, starts_with}
use Rattle.nt_value.specs.declared.digit.Digit.{Digit}
use Rattle.nt_value.specs.declared.leaf.TheConstants.{WIDEST}
use Rattle.nt_value.specs.declared.unit.Unit.{Unit as TimeUnit}
use Rattle.nt_diag.specs.declared.rule.Rule.TheVariants.{X1, X2, X3, X4, X5}
use Rattle.nt_lexer.specs.Bytes.{Bytes, sort, in_run}
use Rattle.nt_lexer.specs.Numbers.{decimal, based_front, based_literal, decimal_literal, fill_literal, filling_front, fits_word, digits_in}
use Rattle.nt_lexer.specs.Directives.{named, timescale, default_nettype}
use Rattle.nt_lexer.specs.declared.kinds.Based.{Based}
use Rattle.nt_lexer.specs.declared.kinds.Mark.{Mark}
use Rattle.nt_lexer.specs.declared.kinds.Word.{Word}
use Rattle.nt_lexer.specs.declared.kinds.Sort.{Sort}
use Rattle.nt_lexer.specs.declared.kinds.Sort.TheVariants as s
use Rattle.nt_lexer.specs.declared.kinds.Run.{Run}
use Rattle.nt_lexer.specs.declared.kinds.Run.TheVariants as run
use Rattle.nt_lexer.specs.declared.kinds.TokenKind.{TokenKind}
use Rattle.nt_lexer.specs.declared.kinds.TokenKind.TheVariants as k
use Rattle.nt_lexer.specs.declared.kinds.Piece.{Piece}
use Rattle.nt_lexer.specs.declared.kinds.Piece.TheVariants as p
use Rattle.nt_lexer.specs.Spellings.{words, marks}

-- ---- names (IEEE 1800-2017, 5.6)

abbrev pub word_or_name : Bytes → Option Word → TokenKind
word_or_name text (Some word) = k.Word word
word_or_name text None = k.Name text

-- a first byte, and all bytes after it that go on with it
abbrev pub front_len : Run → Bytes → ℕ
front_len run [] = 0
front_len run (b ∷ bs) = 1 + prefix_len (in_run run) bs

-- the longest name at the front
abbrev pub name_len : Bytes → ℕ
name_len text = front_len run.Name text

unfoldable pub name_piece : Bytes → Piece
name_piece text =
    if nat_lt 256 (name_len text) then p.Wrong X4 0
    else p.Take (name_len text) (word_or_name (take (name_len text) text) (named words (take (name_len text) text)))

abbrev pub system_by : Sort → Bytes → Piece
system_by s.Letter text =
    if nat_lt 256 (name_len text) then p.Wrong X4 0 else p.Take (1 + name_len text) (k.System (take (name_len text) text))
system_by _ text = p.Wrong X1 0

-- what follows a `$`
unfoldable pub system_piece : Bytes → Piece
system_piece [] = p.Wrong X1 0
system_piece (b ∷ bs) = system_by (sort b) (b ∷ bs)

-- ---- numbers (IEEE 1800-2017, 5.7.1)

abbrev pub number_len : Bytes → ℕ
number_len text = front_len run.Number text

unfoldable pub decimal_piece : ℕ → Bytes → Piece
decimal_piece len digits =
    if nat_lt 2147483647 (decimal digits) then p.Wrong X3 0 else p.Take len (k.Number (decimal_literal (decimal digits)))

unfoldable pub sized_piece : ℕ → Bytes → Based → Bytes → Piece
sized_piece len size based rest =
    if nat_lt WIDEST (decimal size) then p.Wrong X3 0
    else if decimal size == 0 then p.Wrong X3 0
    else p.Take (len + (based.before + based.len)) (k.Number (based_literal (decimal size) true based rest))

abbrev pub sized_or_decimal : ℕ → Bytes → Bytes → Option Based → Piece
sized_or_decimal len digits rest None = decimal_piece len digits
sized_or_decimal len digits rest (Some based) = sized_piece len digits based rest

-- a text that begins with a digit
unfoldable pub number_piece : Bytes → Piece
number_piece text =
    sized_or_decimal (number_len text) (take (number_len text) text) (drop (number_len text) text)
    (based_front (drop (number_len text) text))

unfoldable pub unsized_piece : Based → Bytes → Piece
unsized_piece based text =
    if fits_word based.radix (digits_in based text)
    then p.Take (based.before + based.len) (k.Number (based_literal 32 false based text))
    else p.Wrong X3 0

-- ---- marks (IEEE 1800-2017, 5.5), the longer ones first

abbrev pub first_mark : List (Bytes × Mark) → Bytes → Option (Mark × ℕ)
first_mark [] text = None
first_mark (m ∷ ms) text = if starts_with nat_eq text m.0 then Some (m.1, length m.0) else first_mark ms text

abbrev pub mark_or : Option (Mark × ℕ) → Piece → Piece
mark_or (Some mark) other = p.Take mark.1 (k.Mark mark.0)
mark_or None other = other

abbrev pub filling_or : Option Digit → Piece → Piece
filling_or (Some digit) other = p.Take 2 (k.Number (fill_literal digit))
filling_or None other = other

abbrev pub unsized_or : Option Based → Bytes → Piece
unsized_or (Some based) text = unsized_piece based text
unsized_or None text = filling_or (filling_front text) (mark_or (first_mark marks text) (p.Wrong X3 0))

-- a text that begins with `'`
unfoldable pub tick_piece : Bytes → Piece
tick_piece text = unsized_or (based_front text) text

-- ---- texts (IEEE 1800-2017, 5.9)

unfoldable pub is_escape : ℕ → Bool
is_escape b = b == 110 || b == 34 || b == 92

abbrev pub plus : ℕ → Option ℕ → Option ℕ
plus n (Some m) = Some (n + m)
plus n None = None

-- inside a text the flag tells that the byte before is an escaping backslash; the byte after one is that of an escape,
-- and any other byte is neither the closing quote nor a line feed
abbrev pub goes_inside : Bool → ℕ → Bool
goes_inside true b = is_escape b
goes_inside false b = not (b == 34 || b == 10)

abbrev pub escapes : Bool → ℕ → Bool
escapes escaped b = not escaped && b == 92

abbrev pub closes : Bool → ℕ → Option ℕ
closes escaped b = if not escaped && b == 34 then Some 0 else None

-- how many bytes stand before the closing quote, where the text is closed on its line and has known escapes alone
abbrev pub inside_len : Bool → Bytes → Option ℕ
inside_len escaped [] = None
inside_len escaped (b ∷ bs) = if goes_inside escaped b then plus 1 (inside_len (escapes escaped b) bs) else closes escaped b

abbrev pub escape_value : ℕ → ℕ
escape_value b = if b == 110 then 10 else b

-- what one byte inside a text says
unfoldable pub said : Bool → ℕ → Bytes
said true b = escape_value b ∷ []
said false b = if b == 92 then [] else b ∷ []

-- what a text says: each escape is replaced by what it stands for
abbrev pub text_value : Bool → Bytes → Bytes
text_value escaped [] = []
text_value escaped (b ∷ bs) = said escaped b ++ text_value (escapes escaped b) bs

unfoldable pub whole_text : Bytes → Piece
whole_text inside =
    if nat_lt (prefix_len (in_run run.Text) inside) (length inside) then p.Wrong X1 (1 + prefix_len (in_run run.Text) inside)
    else p.Take (length inside + 2) (k.Text (text_value false inside))

abbrev pub text_by : Bytes → Option ℕ → Piece
text_by text None = p.Wrong X3 0
text_by text (Some len) = whole_text (take len text)

-- what follows a `"`
unfoldable pub text_piece : Bytes → Piece
text_piece text = text_by text (inside_len false text)

-- ---- comments (IEEE 1800-2017, 5.4)

-- whether a text begins with these two bytes
unfoldable pub begins_with : ℕ → ℕ → Bytes → Bool
begins_with one two [] = false
begins_with one two (a ∷ []) = false
begins_with one two (a ∷ b ∷ bs) = a == one && b == two

-- how many bytes there are to the end of the next `*/`
abbrev pub closing : Bytes → Option ℕ
closing [] = None
closing (b ∷ bs) = if begins_with 42 47 (b ∷ bs) then Some 2 else plus 1 (closing bs)

abbrev pub block_by : Option ℕ → Piece
block_by None = p.Wrong X2 0
block_by (Some len) = p.Skip (2 + len)

-- a text that begins with any other mark
unfoldable pub sign_piece : Bytes → Piece
sign_piece text =
    if begins_with 47 47 text then p.Skip (2 + prefix_len (in_run run.Line) (drop 2 text))
    else if begins_with 47 42 text then block_by (closing (drop 2 text))
    else mark_or (first_mark marks text) (p.Wrong X1 0)

-- ---- directives

abbrev pub nettype_or_wrong : Option ℕ → Piece
nettype_or_wrong (Some len) = p.Skip len
nettype_or_wrong None = p.Wrong X5 0

abbrev pub directive_by : Option (TimeUnit × ℕ) → Option ℕ → Piece
directive_by (Some unit) other = p.Scale unit.1 unit.0
directive_by None other = nettype_or_wrong other

unfoldable pub directive_piece : Bytes → Piece
directive_piece text = directive_by (timescale text) (default_nettype text)

-- ---- all

abbrev pub piece_by : Sort → ℕ → Bytes → Piece
piece_by s.Blank b bs = p.Skip 1
piece_by s.Letter b bs = name_piece (b ∷ bs)
piece_by s.Digit b bs = number_piece (b ∷ bs)
piece_by s.Dollar b bs = system_piece bs
piece_by s.Quote b bs = text_piece bs
piece_by s.Tick b bs = tick_piece (b ∷ bs)
piece_by s.Grave b bs = directive_piece (b ∷ bs)
piece_by s.Sign b bs = sign_piece (b ∷ bs)
piece_by s.Bad b bs = p.Wrong X1 0

unfoldable pub piece : Bytes → Piece
piece [] = p.Wrong X1 0
piece (b ∷ bs) = piece_by (sort b) b bs
