-- What it means to read a file, and laws of it.
use Rattle.std.specs.Prelude.{◌≡◌, ◌↔◌, ◌⊎◌, ℕ, Bool, true, false, ◌==◌, if◌then◌else◌, List, [], ◌∷◌, ◌++◌, length, Option, Some, None, Result, Ok, Err}
use Rattle.nt_value.specs.declared.place.Place.{Place}
use Rattle.nt_items.specs.declared.item.Item.{Item}
use Rattle.nt_items.specs.declared.item.Units.{Units}
use Rattle.nt_diag.specs.declared.rule.Rule.TheVariants.{S1, S3}
use Rattle.nt_diag.specs.declared.refusal.Fault.{Fault}
use Rattle.nt_diag.specs.declared.refusal.Fault.TheVariants as fault
use Rattle.nt_items.specs.Places.{ItemsPlaced}
use Rattle.nt_lexer.specs.Laws.{Ascending}
use Rattle.nt_lexer.specs.declared.kinds.Word.TheVariants as w
use Rattle.nt_lexer.specs.declared.kinds.TokenKind.{TokenKind}
use Rattle.nt_lexer.specs.declared.kinds.TokenKind.TheVariants as k
use Rattle.nt_lexer.specs.declared.kinds.Token.{Token}
use Rattle.nt_parse_expr.specs.declared.cursor.TheConstants.{LIMIT}
use Rattle.nt_read_expr.specs.Tables.{Tokens, start}
use Rattle.nt_read_expr.specs.Reader.{◌>>=◌, first}
use Rattle.nt_read_module.specs.Units.{Source}
use Rattle.nt_read_module.specs.Reader.{source, is_end}

-- All tokens but the end of the file derive these items, with at most so many open nodes over one another and so many links in a
-- chain (IEEE 1800-2017, A.1.2 source_text).
pub record Derives (limit : ℕ) (ts : Tokens) (xs : List Item) : Type 0 where
  pub front : Tokens
  pub last : Token
  pub split : ts ≡ front ++ last ∷ []
  pub is_last : last.kind ≡ k.End
  pub derives : Source limit front xs

-- a word of the standard that this language leaves out
abbrev pub is_left_out : TokenKind → Bool
is_left_out (k.Word w.LeftOut) = true
is_left_out _ = false

-- the place of the first left-out word
unfoldable pub first_left_out : Tokens → Option Place
first_left_out [] = None
first_left_out (t ∷ ts) = if is_left_out t.kind then Some t.at else first_left_out ts

-- where the file begins
abbrev pub file_start : Tokens → Place
file_start ts = record { file = (start ts).file; offset = 0; line = 1; column = 1 }

-- What reading a file answers: a file with a left-out word is refused at the first one, another that has no derivation at its start.
abbrev pub Reads : Tokens → Result Units Fault → Type 0
Reads ts (Ok units) = Derives LIMIT ts units.items × (first_left_out ts ≡ None)
Reads ts (Err (fault.Refused r)) =
    ((first_left_out ts ≡ Some r.place) × (r.rule ≡ S3))
    ⊎ ((first_left_out ts ≡ None) × ((xs : List Item) → Derives LIMIT ts xs → ⊥) × (r ≡ record { rule = S1; place = file_start ts }))
Reads ts (Err (fault.OutOfMemory e)) = Unit {0}

-- The items stand in the source as these tokens do, and in their order, where these are in the order of their offsets.
abbrev pub ItemsPlacedIn : Tokens → List Item → Type 0
ItemsPlacedIn ts xs = (file i j : ℕ) → Ascending file i j ts → ItemsPlaced file i i j xs

-- ---- the same as a function

-- what follows is the end of the file alone
abbrev pub ends : Tokens → Bool
ends ts = if length ts == 1 then is_end (first ts) else false

unfoldable pub read_source : ℕ → Tokens → Option (List Item)
read_source limit ts = do
  (xs, us) ← source limit ts
  if ends us then Some xs else None

-- there is at most one such list of items
abbrev pub OneSource : Type 0
OneSource = (limit : ℕ) (ts : Tokens) (xs ys : List Item) → Derives limit ts xs → Derives limit ts ys → xs ≡ ys

-- the reader finds it exactly where it is
abbrev pub SourceExactly : Type 0
SourceExactly = (limit : ℕ) (ts : Tokens) (xs : List Item) → (read_source limit ts ≡ Some xs) ↔ Derives limit ts xs

-- what is derived from tokens in the order of their offsets is so placed
abbrev pub EachItemPlace : Type 0
EachItemPlace = (limit : ℕ) (ts : Tokens) (xs : List Item) → Derives limit ts xs → ItemsPlacedIn ts xs
