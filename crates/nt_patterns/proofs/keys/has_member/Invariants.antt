use Rattle.std.specs.Prelude.{◌≡◌, drop}
use Rattle.nt_typing.specs.Tables.{has_slot}
use Rattle.nt_patterns.proofs.Serving.{named_slots}
use Rattle.nt_patterns.proofs.keys.has_member.Given as goal

abbrev pub invariant-loop-own : goal.invariant-loop-own
invariant-loop-own l = has_slot (named_slots l.members) l.name ≡ has_slot (named_slots (drop l.own-index l.members)) l.name
