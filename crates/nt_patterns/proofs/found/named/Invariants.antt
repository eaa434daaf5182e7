use Rattle.std.specs.Prelude.{◌≡◌}
use Rattle.nt_patterns.specs.Keys.{key_is}
use Rattle.nt_patterns.proofs.Kept.{FoundSo}
use Rattle.nt_patterns.proofs.found.named.Given as goal

abbrev pub invariant-loop-key : goal.invariant-loop-key
invariant-loop-key l = record { found : FoundSo (key_is l.name) l.items l.key-index l.found; index : l.index ≡ l.key-index }
