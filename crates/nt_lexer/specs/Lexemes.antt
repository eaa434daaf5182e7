-- The lexemes that are taken by longest match, each by the shape of all its bytes.
use Rattle.std.specs.Prelude.{◌≡◌, ◌⊎◌, ℕ, ◌<◌, ◌≤◌, Bool, true, false, ◌||◌, ◌==◌, [], ◌∷◌, ◌++◌, length, take, Some, slice_get}
use Rattle.std.specs.List.{list_all}
use Rattle.nt_value.specs.declared.digit.Digit.{Digit}
use Rattle.nt_diag.specs.declared.rule.Rule.{Rule}
use Rattle.nt_diag.specs.declared.rule.Rule.TheVariants.{X1, X3, X4}
use Rattle.nt_lexer.specs.Bytes.{Bytes, sort, in_run}
use Rattle.nt_lexer.specs.Numbers.{radix_of, is_radix_digit, is_lone, is_underscore, goes_on, filling_of}
use Rattle.nt_lexer.specs.Pieces.{begins_with, piece}
use Rattle.nt_lexer.specs.Spellings.{marks}
use Rattle.nt_lexer.specs.declared.kinds.Mark.{Mark}
use Rattle.nt_lexer.specs.declared.kinds.Radix.{Radix}
use Rattle.nt_lexer.specs.declared.kinds.Sort.TheVariants as s
use Rattle.nt_lexer.specs.declared.kinds.Run.TheVariants as run
use Rattle.nt_lexer.specs.declared.kinds.Piece.{Piece}
use Rattle.nt_lexer.specs.declared.kinds.Piece.TheVariants as p

-- the classes of lexemes
pub data Class : Type 0 where
  white : Class
  line : Class
  name : Class
  system : Class
  decimal : Class
  based : Class
  filling : Class
  mark : Class

-- one byte of white space (IEEE 1800-2017, 5.3)
abbrev pub IsWhite : Bytes → Type 0
IsWhite [] = ⊥
IsWhite (b ∷ bs) = (sort b ≡ s.Blank) × (bs ≡ [])

-- a comment of one line (5.4)
abbrev pub IsLine : Bytes → Type 0
IsLine [] = ⊥
IsLine (a ∷ []) = ⊥
IsLine (a ∷ b ∷ bs) = (a ≡ 47) × (b ≡ 47) × (list_all (in_run run.Line) bs ≡ true)

-- a name (5.6)
abbrev pub IsName : Bytes → Type 0
IsName [] = ⊥
IsName (b ∷ bs) = (sort b ≡ s.Letter) × (list_all (in_run run.Name) bs ≡ true)

-- a system name (5.6.3)
abbrev pub IsSystem : Bytes → Type 0
IsSystem [] = ⊥
IsSystem (a ∷ bs) = (a ≡ 36) × IsName bs

-- a decimal number (5.7.1)
abbrev pub IsDecimal : Bytes → Type 0
IsDecimal [] = ⊥
IsDecimal (b ∷ bs) = (sort b ≡ s.Digit) × (list_all (in_run run.Number) bs ≡ true)

-- digits of a radix, or one x or z of a decimal literal, after the first of which `_` may stand
abbrev pub IsDigits : Radix → Bytes → Type 0
IsDigits radix [] = ⊥
IsDigits radix (d ∷ ds) =
    ((is_radix_digit radix d ≡ true) × (list_all (goes_on radix) ds ≡ true)) ⊎ ((is_lone radix d ≡ true) × (list_all is_underscore ds ≡ true))

-- the letter of a radix and its digits
abbrev pub IsTail : Bytes → Type 0
IsTail [] = ⊥
IsTail (b ∷ ds) = (radix : Radix) × (radix_of b ≡ Some radix) × IsDigits radix ds

abbrev pub AfterSign : Bool → Bytes → Bytes → Type 0
AfterSign true after all = IsTail after
AfterSign false after all = IsTail all

-- `'`, an s or none, a radix, and its digits
abbrev pub IsUnsized : Bytes → Type 0
IsUnsized [] = ⊥
IsUnsized (a ∷ []) = ⊥
IsUnsized (a ∷ b ∷ bs) = (a ≡ 39) × AfterSign (b == 115 || b == 83) bs (b ∷ bs)

abbrev pub IsSize : Bytes → Type 0
IsSize [] = Unit {0}
IsSize (b ∷ bs) = IsDecimal (b ∷ bs)

-- a based literal: a size or none, and what follows it (5.7.1)
pub record IsBased (text : Bytes) : Type 0 where
  pub size : Bytes
  pub rest : Bytes
  pub splits : text ≡ size ++ rest
  pub sized : IsSize size
  pub unsized : IsUnsized rest

-- a literal that fills its context (5.7.1)
abbrev pub IsFilling : Bytes → Type 0
IsFilling [] = ⊥
IsFilling (a ∷ []) = ⊥
IsFilling (a ∷ b ∷ bs) = (a ≡ 39) × ((digit : Digit) × (filling_of b ≡ Some digit)) × (bs ≡ [])

-- a mark of the table (5.5)
pub record IsMark (text : Bytes) : Type 0 where
  pub place : ℕ
  pub mark : Mark
  pub is : slice_get marks place ≡ Some (text, mark)

abbrev pub Is : Class → Bytes → Type 0
Is white text = IsWhite text
Is line text = IsLine text
Is name text = IsName text
Is system text = IsSystem text
Is decimal text = IsDecimal text
Is based text = IsBased text
Is filling text = IsFilling text
Is mark text = IsMark text

-- the first n bytes are a lexeme, and no more bytes at the front are one
pub record Longest (text : Bytes) (n : ℕ) : Type 0 where
  pub fits : n ≤ length text
  pub class : Class
  pub is : Is class (take n text)
  pub most : (other : Class) (m : ℕ) → m ≤ length text → Is other (take m text) → m ≤ n

-- no bytes at the front are a lexeme
pub record NoLexeme (text : Bytes) : Type 0 where
  pub none : (other : Class) (m : ℕ) → m ≤ length text → Is other (take m text) → ⊥

-- a text, a directive and a comment of several lines are taken from their opening to their end, and not by longest match
abbrev pub is_opened : Bytes → Bool
is_opened [] = true
is_opened (b ∷ bs) = b == 34 || b == 96 || begins_with 47 42 (b ∷ bs)

-- a byte with which no lexeme begins; a literal that begins no lexeme or is too wide; a name that is too long
abbrev pub WrongBy : Rule → Bytes → Type 0
WrongBy X1 text = NoLexeme text
WrongBy X3 text = NoLexeme text ⊎ ((n : ℕ) × Longest text n)
WrongBy X4 text = (n : ℕ) × Longest text n × (256 < n)
WrongBy _ text = ⊥

abbrev pub ByLongest : Bytes → Piece → Type 0
ByLongest text (p.Skip n) = Longest text n
ByLongest text (p.Take n kind) = Longest text n
ByLongest text (p.Scale n unit) = ⊥
ByLongest text (p.Wrong rule n) = WrongBy rule text

-- elsewhere each piece is the longest lexeme at its place
abbrev pub LongestMatch : Type 0
LongestMatch = (text : Bytes) → is_opened text ≡ false → ByLongest text (piece text)
