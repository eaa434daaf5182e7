use Rattle.std.specs.Prelude.{◌≡◌}
use Rattle.nt_patterns.specs.Keys.{key_other}
use Rattle.nt_patterns.proofs.Kept.{FoundSo}
use Rattle.nt_patterns.proofs.found.others.Given as goal

abbrev pub invariant-loop-key : goal.invariant-loop-key
invariant-loop-key l = record { found : FoundSo key_other l.items l.key-index l.found; index : l.index ≡ l.key-index }
