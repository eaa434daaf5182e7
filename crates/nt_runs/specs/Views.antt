-- What is seen of a slot.
use Rattle.std.specs.Prelude.{List, [], ◌∷◌, ◌++◌, Result, Ok, Err}
use Rattle.nt_semantics.specs.Execution.{Observation}
use Rattle.nt_runs.specs.declared.end.Seen.{Seen}

abbrev pub observed : Seen → Observation
observed seen = record { moment = seen.time; vars = seen.vars; nets = seen.nets; lines = seen.shown }

-- one slot more
abbrev pub and_then : List Observation → Seen → List Observation
and_then slots seen = slots ++ observed seen ∷ []

-- what is handed to a slot's end: it stands for one slot more, or breaks off within it
abbrev pub EndTakes : {A E : Type 0} → (old new broken : List Observation → Type 0) → Seen → Result A E → Type 0
EndTakes old new broken seen (Ok x) = (slots : List Observation) → old slots → new (and_then slots seen)
EndTakes old new broken seen (Err e) = (slots : List Observation) → old slots → broken (and_then slots seen)
