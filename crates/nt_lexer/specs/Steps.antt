-- What the functions of src/ say of one piece.
use Rattle.std.specs.Prelude.{◌≡◌, ℕ, ◌<◌, ◌≤◌, Bool, true, false, not, ◌==◌, List, [], ◌∷◌, ◌++◌, length, take, drop, Result, Ok, Err}
use Rattle.std.specs.List.{list_all}
use Rattle.nt_value.specs.Units.{IsUnit}
use Rattle.nt_value.specs.declared.place.Place.{Place}
use Rattle.nt_diag.specs.declared.refusal.Fault.{Fault}
use Rattle.nt_diag.specs.declared.refusal.Fault.TheVariants as fault
use Rattle.nt_lexer.specs.Bytes.{Bytes}
use Rattle.nt_lexer.specs.Cuts.{goes, stops, outcome, place_after}
use Rattle.nt_lexer.specs.Pieces.{piece}
use Rattle.nt_lexer.specs.declared.kinds.Head.{Head}
use Rattle.nt_lexer.specs.declared.kinds.Piece.{Piece}
use Rattle.nt_lexer.specs.declared.kinds.Piece.TheVariants as p
use Rattle.nt_lexer.specs.declared.kinds.Token.{Token}

-- the place after these bytes, from the place before them
abbrev pub Moved : Place → Bytes → Place → Type 0
Moved start text end = (file : ℕ) (before : Bytes) → start ≡ place_after file before → end ≡ place_after file (before ++ text)

-- one piece taken: its length, the head after it, and its tokens at the end of the list
abbrev pub Steps : Bytes → Place → Head → List Token → Result ℕ Fault → Head → List Token → Type 0
Steps text at head found (Ok n) after now =
    (ts : List Token) × (outcome head at (piece text) ≡ goes n after ts) × (now ≡ found ++ ts) × (0 < n) × (n ≤ length text)
Steps text at head found (Err (fault.Refused refusal)) after now =
    (n : ℕ) × (outcome head at (piece text) ≡ stops refusal.rule n) × (n ≤ length text) × Moved at (take n text) refusal.place
Steps text at head found (Err (fault.OutOfMemory e)) after now = Unit {0}

-- a piece of a text of this many bytes: it stands in the text, and what isn't a fault takes a byte at least
abbrev pub IsPieceOf : ℕ → Piece → Type 0
IsPieceOf len (p.Skip n) = (0 < n) × (n ≤ len)
IsPieceOf len (p.Scale n unit) = (0 < n) × (n ≤ len) × IsUnit unit
IsPieceOf len (p.Take n kind) = (0 < n) × (n ≤ len)
IsPieceOf len (p.Wrong rule n) = n ≤ len

-- whether a spelling begins with another byte
abbrev pub begins_else : ℕ → Bytes → Bool
begins_else b [] = false
begins_else b (c ∷ cs) = not (c == b)

abbrev pub all_else : {A : Type 0} → ℕ → List (Bytes × A) → Bool
all_else b table = list_all (λ e. begins_else b e.0) table

-- all that begin with the byte stand from the one number on and below the other
pub record IsRange {A : Type 0} (table : List (Bytes × A)) (b : ℕ) (range : ℕ × ℕ) : Type 0 where
  pub ordered : range.0 ≤ range.1
  pub inside : range.1 ≤ length table
  pub before : all_else b (take range.0 table) ≡ true
  pub after : all_else b (drop range.1 table) ≡ true
