use Rattle.std.specs.Prelude.{◌≡◌, drop}
use Rattle.nt_typing.specs.Tables.{all_unkeyed}
use Rattle.nt_patterns.proofs.keys.are_unkeyed.Given as goal

abbrev pub invariant-loop-key : goal.invariant-loop-key
invariant-loop-key l = all_unkeyed l.items ≡ all_unkeyed (drop l.key-index l.items)
