-- What a call answers where nothing outside fails.
use Rattle.std.specs.Prelude.{◌≡◌, ◌⊎◌, ℕ, List, Option, Some}
use Rattle.nt_small.specs.Grammar.{Source, Says}
use Rattle.nettype_sim.specs.Words.{AreRunWords}
use Rattle.nettype_sim.specs.Outcomes.{NoRunWords}
use Rattle.nettype_sim.specs.declared.program.Status.{Status}
use Rattle.nettype_sim.specs.declared.program.Status.TheVariants.{Done, Usage, NotYet, OutOfMemory}

-- Words that are not those of a run are answered by Usage. Where they are, and the file's bytes are told, the answer is
-- Done for a text that says something of the module, and NotYet for another; or no memory was found.
pub record IsAnswered (status : Status) (words : List (List ℕ)) (bytes : List ℕ → Option (List ℕ)) : Type 0 where
  pub usage : NoRunWords words → status ≡ Usage
  pub done : (file top text : List ℕ) (until : ℕ) (s : Source) → AreRunWords words file top until → bytes file ≡ Some text → Says top text s → (status ≡ Done) ⊎ (status ≡ OutOfMemory)
  pub not_yet : (file top text : List ℕ) (until : ℕ) → AreRunWords words file top until → bytes file ≡ Some text → ((s : Source) → Says top text s → ⊥) → (status ≡ NotYet) ⊎ (status ≡ OutOfMemory)
