-- What a read gives of a file whose bytes are told.
use Rattle.std.specs.Prelude.{ℕ, List, ◌≡◌, ◌≤◌, length, take, drop, Option, IfSome, Result, IfOk}

-- the first n bytes of the buffer are those of the file from `at` on, and none only at the end
pub record GivesPart (file : List ℕ) (at : ℕ) (buffer : List ℕ) (n : ℕ) : Type 0 where
  pub part : take n buffer ≡ take n (drop at file)
  pub within : n ≤ length (drop at file)
  pub none_at_end : n ≡ 0 → length file ≤ at

-- a read that succeeded gave a part of the file, where the file is told
abbrev pub ReadsPart : {E : Type 0} → Option (List ℕ) → ℕ → List ℕ → Result ℕ E → Type 0
ReadsPart told at buffer result = IfOk result (λ n. IfSome told (λ file. GivesPart file at buffer n))

-- no file's told bytes change
abbrev pub SameFiles : (List ℕ → Option (List ℕ)) → (List ℕ → Option (List ℕ)) → Type 0
SameFiles before now = (path : List ℕ) → now path ≡ before path
