use Rattle.std.specs.Prelude.{◌≡◌, drop}
use Rattle.nt_typing.specs.Tables.{all_keyed}
use Rattle.nt_patterns.proofs.Serving.{named_slots}
use Rattle.nt_patterns.proofs.keys.are_members.Given as goal

abbrev pub invariant-loop-key : goal.invariant-loop-key
invariant-loop-key l = all_keyed (named_slots l.members) l.items ≡ all_keyed (named_slots l.members) (drop l.key-index l.items)
