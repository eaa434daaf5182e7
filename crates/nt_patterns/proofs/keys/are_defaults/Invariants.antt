use Rattle.std.specs.Prelude.{◌≡◌, ℕ, drop}
use Rattle.nt_kinds.specs.declared.kind.Kind.{Kind}
use Rattle.nt_typing.specs.Tables.{all_keyed}
use Rattle.nt_patterns.proofs.Serving.{element_slots}
use Rattle.nt_patterns.proofs.keys.are_defaults.Given as goal

abbrev pub invariant-loop-key : goal.invariant-loop-key
invariant-loop-key l = (n : ℕ) (element : Kind) → all_keyed (element_slots n element) l.items ≡ all_keyed (element_slots n element) (drop l.key-index l.items)
