use Rattle.std.proofs.Common.{List}
use Rattle.nt_items.specs.declared.item.Item.{Item}
use Rattle.nt_unit_names.specs.Answers.{Holds}
use Rattle.nt_unit_names.specs.Faults.{unit_of}
use Rattle.nt_unit_names.proofs.Naming.{ScopeSoFar}
use Rattle.nt_unit_names.proofs.check.scope_fault.Given as goal

abbrev pub invariant-loop-item : goal.invariant-loop-item
invariant-loop-item l = (before : List Item) → Holds l.fn.names before → ScopeSoFar (unit_of l.units) before l.items l.item-index l.names l.least
