-- What is written of a text where memory is refused on the way.
use Rattle.std.specs.Prelude.{◌≡◌, ℕ, List, ◌++◌}

-- a text gained a front of these bytes, perhaps all of them
abbrev pub GainsFront : List ℕ → List ℕ → List ℕ → Type 0
GainsFront before now bytes = (front : List ℕ) × (rest : List ℕ) × (now ≡ before ++ front) × (front ++ rest ≡ bytes)
