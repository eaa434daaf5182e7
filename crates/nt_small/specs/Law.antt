-- A text says at most one thing.
use Rattle.std.specs.Prelude.{◌≡◌, ℕ, List}
use Rattle.nt_small.specs.Grammar.{Source, Says}

-- two sources that a text says of one module are the same
abbrev pub SaysOne : Type 0
SaysOne = (top text : List ℕ) (s t : Source) → Says top text s → Says top text t → s ≡ t
