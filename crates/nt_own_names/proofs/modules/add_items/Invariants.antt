use Rattle.std.proofs.Common.{◌≡◌, ◌++◌, take}
use Rattle.std.specs.List.{flat_map}
use Rattle.nt_own_names.specs.Twice.{item_named}
use Rattle.nt_own_names.proofs.modules.add_items.Given as goal

abbrev pub invariant-loop-item : goal.invariant-loop-item
invariant-loop-item l = l.all ≡ l.fn.all ++ flat_map item_named (take l.item-index l.items)
