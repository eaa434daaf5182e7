use Rattle.std.proofs.Common.{take}
use Rattle.nt_types.specs.Parts.{Adds, all_parts}
use Rattle.nt_types.proofs.parts.add_items.Given as goal

abbrev pub invariant-loop-item : goal.invariant-loop-item
invariant-loop-item l = Adds l.fn.scope l.scope l.fn.all l.all (all_parts l.prefix (take l.item-index l.items))
