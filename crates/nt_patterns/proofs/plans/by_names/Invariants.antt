use Rattle.std.specs.Prelude.{drop}
use Rattle.nt_patterns.proofs.Serving.{named_slots}
use Rattle.nt_patterns.proofs.Planning.{Going}
use Rattle.nt_patterns.proofs.plans.by_names.Given as goal

abbrev pub invariant-loop-name : goal.invariant-loop-name
invariant-loop-name l = Going l.items (named_slots l.members) (named_slots (drop l.name-index l.members)) l.all.items
