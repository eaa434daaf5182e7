-- The words of a run.
use Rattle.std.specs.Prelude.{◌≡◌, ◌≢◌, ℕ, ◌≤◌, List, [], ◌∷◌, length, codes, decimal, All, map, String, string_bytes, slice_index_or, slice_index}
use Rattle.std.specs.declared.alloc.Global.{Global}
use Rattle.nt_small.specs.Grammar.{IsName}

-- no control byte
abbrev pub IsPrintable : ℕ → Type 0
IsPrintable b = (32 ≤ b) × (b ≢ 127)

-- a word that may name a file: it is not empty and does not begin with a dash
abbrev pub IsFileWord : List ℕ → Type 0
IsFileWord word = (1 ≤ length word) × (slice_index word 0 ≢ 45) × All IsPrintable word

-- the one time limit that is taken today
abbrev pub IsLimit : ℕ → Type 0
IsLimit until = until ≡ 0

-- run FILE --top NAME --until T --workers 1
abbrev pub AreRunWords : List (List ℕ) → List ℕ → List ℕ → ℕ → Type 0
AreRunWords words file top until =
    (words ≡ codes "run" ∷ file ∷ codes "--top" ∷ top ∷ codes "--until" ∷ decimal until ∷ codes "--workers" ∷ codes "1" ∷ []) × IsFileWord file × IsName top × IsLimit until

abbrev pub texts_of : List (String Global) → List (List ℕ)
texts_of words = map string_bytes words

-- the words of eight that are fixed
abbrev pub HasRunForm : List (List ℕ) → Type 0
HasRunForm words =
    (slice_index_or words 0 [] ≡ codes "run") × (slice_index_or words 2 [] ≡ codes "--top") × (slice_index_or words 4 [] ≡ codes "--until") × (slice_index_or words 5 [] ≡ codes "0") × (slice_index_or words 6 [] ≡ codes "--workers") × (slice_index_or words 7 [] ≡ codes "1")
