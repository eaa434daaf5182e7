-- Digits in their place in a leaf, as a value of that leaf (IEEE 1800-2017, 11.5.1).
use Rattle.std.specs.Prelude.{ℕ, Some, pos}
use Rattle.nt_design.specs.Parts.{Value, leaves_at, one, only, with_part}

abbrev pub digits_put : ℕ → ℕ → Value → Value → Value
digits_put first low new old = one (with_part (Some (pos low)) (only new) (only (leaves_at first 1 old)))
