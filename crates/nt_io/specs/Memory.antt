-- What the files in memory and the sink in memory mean.
use Rattle.std.specs.Prelude.{ℕ, List, [], ◌∷◌, ◌+◌, ◌-◌, ◌^◌, Bool, Option, Some, None, Result, Ok, Err, Vec, String, if◌then◌else◌, min, nat_eq, string_bytes}
use Rattle.std.specs.List.{list_any}
use Rattle.std.specs.Str.{bytes_eq}
use Rattle.std.specs.declared.alloc.Global.{Global}
use Rattle.nt_io.specs.Sinks.{SinkMeaning}

-- the next number of a count, which stays at its last value, 2^64 - 1
abbrev pub next_count : ℕ → ℕ
next_count count = min (count + 1) (2 ^ 64 - 1)

-- whether the call of this number is one that fails
abbrev pub is_chosen : List ℕ → ℕ → Bool
is_chosen fails number = list_any (λ call. nat_eq call number) fails

-- whether the next call is one that fails, where there were so many before
abbrev pub next_fails : List ℕ → ℕ → Bool
next_fails fails calls = is_chosen fails (next_count calls)

-- how many calls have failed after a call with this result
abbrev pub failed_after : {T E : Type 0} → ℕ → Result T E → ℕ
failed_after failed (Ok value) = failed
failed_after failed (Err e) = next_count failed

pub record MemInputsMeaning : Type 0 where
  -- the path and the bytes of each file
  pub files : List (List ℕ × List ℕ)
  -- the most bytes that one read gives
  pub most : ℕ
  -- the numbers of the calls that fail
  pub fails : List ℕ
  -- how many calls there were
  pub calls : ℕ
  -- how many of them failed
  pub failed : ℕ

-- the path and the bytes of each file
abbrev pub listed : List (String Global × Vec ℕ Global) → List (List ℕ × List ℕ)
listed [] = []
listed (file ∷ files) = (string_bytes file.0, file.1.items) ∷ listed files

-- the bytes of the first file of a path
abbrev pub file_of : List (List ℕ × List ℕ) → List ℕ → Option (List ℕ)
file_of [] path = None
file_of (file ∷ files) path = if bytes_eq file.0 path then Some file.1 else file_of files path

pub record MemSinkMeaning : Type 0 where
  -- the bytes written so far
  pub written : List ℕ
  -- the path of the last open that succeeded, and empty before
  pub path : List ℕ
  -- how many bytes there is room for in all
  pub room : ℕ
  -- the most bytes that one put takes
  pub most : ℕ
  -- the numbers of the calls that fail, where opens and puts are numbered together
  pub fails : List ℕ
  -- how many calls there were
  pub calls : ℕ
  -- how many of them failed
  pub failed : ℕ

-- a sink in memory tells all that it holds, and has one count of failures
abbrev pub sink_meaning : MemSinkMeaning → SinkMeaning
sink_meaning m =
    record { written = Some m.written; path = Some m.path; faults = m.failed; open_faults = λ _. m.failed }
