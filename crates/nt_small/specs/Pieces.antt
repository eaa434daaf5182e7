-- A text cut into its pieces from the left.
use Rattle.std.specs.Prelude.{ℕ, Bool, false, ◌&&◌, List, [], ◌∷◌, if◌then◌else◌, suc}
use Rattle.nt_small.specs.Grammar.{is_white, is_word_byte}

-- whether a text begins with a byte of a word
abbrev pub starts_word : List ℕ → Bool
starts_word [] = false
starts_word (b ∷ bs) = is_word_byte b

abbrev pub join_front : ℕ → List (List ℕ) → List (List ℕ)
join_front b [] = (b ∷ []) ∷ []
join_front b (p ∷ ps) = (b ∷ p) ∷ ps

-- words, and other bytes one by one, without the white space
abbrev pub pieces_of : List ℕ → List (List ℕ)
pieces_of [] = []
pieces_of (b ∷ bs) = if is_white b then pieces_of bs else (if is_word_byte b && starts_word bs then join_front b (pieces_of bs) else (b ∷ []) ∷ pieces_of bs)

-- how many bytes of a word a text begins with
abbrev pub word_len : List ℕ → ℕ
word_len [] = 0
word_len (b ∷ bs) = if is_word_byte b then suc (word_len bs) else 0
