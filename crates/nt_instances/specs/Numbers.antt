-- The number of something in a list.
use Rattle.std.specs.Prelude.{ℕ, suc, Bool, if◌then◌else◌, List, [], ◌∷◌, Option, Some, None}

-- of the first that passes, where the list's first has number n
abbrev pub number_from : {A : Type 0} → (A → Bool) → ℕ → List A → Option ℕ
number_from passes n [] = None
number_from passes n (x ∷ xs) = if passes x then Some n else number_from passes (suc n) xs

abbrev pub number_of : {A : Type 0} → (A → Bool) → List A → Option ℕ
number_of passes xs = number_from passes 0 xs
