-- The tokens of a file, and its first fault.
use Rattle.std.specs.Prelude.{◌≡◌, ℕ, ◌+◌, ◌<◌, Bool, true, not, ◌==◌, nat_lt, if◌then◌else◌, List, [], ◌∷◌, ◌++◌, length, take, drop, reverse, Option, Some, None, IfSome, Result, Ok, Err}
use Rattle.std.specs.List.{prefix_len, count_by}
use Rattle.std.specs.declared.vec.Vec.{Vec}
use Rattle.std.specs.declared.alloc.Global.{Global}
use Rattle.nt_value.specs.Units.{IsUnit}
use Rattle.nt_value.specs.declared.place.Place.{Place}
use Rattle.nt_value.specs.declared.unit.Unit.{Unit as TimeUnit}
use Rattle.nt_diag.specs.declared.rule.Rule.{Rule}
use Rattle.nt_diag.specs.declared.rule.Rule.TheVariants.{X5, X7}
use Rattle.nt_diag.specs.declared.refusal.Refusal.{Refusal}
use Rattle.nt_diag.specs.declared.refusal.Fault.{Fault}
use Rattle.nt_diag.specs.declared.refusal.Fault.TheVariants as fault
use Rattle.nt_lexer.specs.Bytes.{Bytes}
use Rattle.nt_lexer.specs.Directives.{exponent}
use Rattle.nt_lexer.specs.Pieces.{piece}
use Rattle.nt_lexer.specs.declared.cut.TheConstants.{MOST_TOKENS}
use Rattle.nt_lexer.specs.declared.kinds.Head.{Head}
use Rattle.nt_lexer.specs.declared.kinds.Piece.{Piece}
use Rattle.nt_lexer.specs.declared.kinds.Piece.TheVariants as p
use Rattle.nt_lexer.specs.declared.kinds.TokenKind.TheVariants as k
use Rattle.nt_lexer.specs.declared.kinds.Token.{Token}

-- a line feed ends a line
abbrev pub is_end : ℕ → Bool
is_end b = b == 10

abbrev pub is_inside : ℕ → Bool
is_inside b = not (b == 10)

-- the place after these bytes of a file: lines and columns count from 1, and a line ends after its line feed
unfoldable pub place_after : ℕ → Bytes → Place
place_after file before =
    record { file = file; offset = length before; line = 1 + count_by is_end before; column = 1 + prefix_len is_inside (reverse before) }

abbrev pub place_at : ℕ → Bytes → ℕ → Place
place_at file bytes at = place_after file (take at bytes)

-- all files state one unit
abbrev pub agrees : Option TimeUnit → TimeUnit → Bool
agrees None unit = true
agrees (Some other) unit = exponent other == exponent unit

-- the unit that is stated is one
abbrev pub HasUnit : Head → Type 0
HasUnit head = IfSome head.unit IsUnit

-- what one piece does: so many bytes on, the head after it and its token, or a refusal so many bytes on
pub data Outcome : Type 0 where
  goes : ℕ → Head → List Token → Outcome
  stops : Rule → ℕ → Outcome

unfoldable pub outcome : Head → Place → Piece → Outcome
outcome head at (p.Skip n) = goes n head []
outcome head at (p.Scale n unit) = if agrees head.unit unit then goes n (record { unit = Some unit; count = head.count }) [] else stops X5 0
outcome head at (p.Take n kind) =
    if nat_lt head.count MOST_TOKENS then goes n (record { unit = head.unit; count = head.count + 1 }) (record { kind = kind; at = at } ∷ []) else stops X7 0
outcome head at (p.Wrong rule n) = stops rule n

abbrev pub next : ℕ → Bytes → ℕ → Head → Outcome
next file bytes at head = outcome head (place_at file bytes at) (piece (drop at bytes))

abbrev pub end_token : ℕ → Bytes → Token
end_token file bytes = record { kind = k.End; at = place_at file bytes (length bytes) }

-- from this offset and head on these are the tokens of the file, up to this head
pub data Lexes (file : ℕ) (bytes : Bytes) : ℕ → Head → List Token → Head → Type 0 where
  done : {at : ℕ} {head : Head} → at ≡ length bytes → Lexes file bytes at head (end_token file bytes ∷ []) head
  on : {at n : ℕ} {head after last : Head} {one rest : List Token} → at < length bytes → 0 < n → next file bytes at head ≡ goes n after one
      → Lexes file bytes (at + n) after rest last → Lexes file bytes at head (one ++ rest) last

-- from this offset and head on this is the first fault
pub data Stuck (file : ℕ) (bytes : Bytes) : ℕ → Head → Refusal → Type 0 where
  here : {at n : ℕ} {head : Head} {rule : Rule} → at < length bytes → next file bytes at head ≡ stops rule n
      → Stuck file bytes at head (record { rule = rule; place = place_at file bytes (at + n) })
  past : {at n : ℕ} {head after : Head} {one : List Token} {refusal : Refusal} → at < length bytes → 0 < n → next file bytes at head ≡ goes n after one
      → Stuck file bytes (at + n) after refusal → Stuck file bytes at head refusal

-- what `tokens` answers
abbrev pub Cuts : ℕ → Bytes → Head → Result (Vec Token Global) Fault → Head → Type 0
Cuts file bytes old (Ok v) new = Lexes file bytes 0 old v.items new
Cuts file bytes old (Err (fault.Refused refusal)) new = Stuck file bytes 0 old refusal × (new ≡ old)
Cuts file bytes old (Err (fault.OutOfMemory e)) new = new ≡ old
