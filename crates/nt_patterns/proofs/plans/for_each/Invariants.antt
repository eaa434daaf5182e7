use Rattle.std.specs.Prelude.{◌-◌}
use Rattle.nt_kinds.specs.declared.kind.Kind.{Kind}
use Rattle.nt_patterns.proofs.Serving.{element_slots}
use Rattle.nt_patterns.proofs.Planning.{Going}
use Rattle.nt_patterns.proofs.plans.for_each.Given as goal

abbrev pub invariant-loop-turn : goal.invariant-loop-turn
invariant-loop-turn l = (element : Kind) → Going l.items (element_slots l.count element) (element_slots (l.count - l._turn) element) l.all.items
