use Rattle.std.proofs.Common.{◌≡◌, take}
use Rattle.nt_items.proofs.copy.+copy_items.Given as goal

abbrev pub invariant-copy_items-loop-item : goal.invariant-copy_items-loop-item
invariant-copy_items-loop-item l = l.all ≡ take l.item-index l.items
