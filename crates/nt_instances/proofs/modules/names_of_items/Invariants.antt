use Rattle.std.proofs.Common.{◌≡◌, map, take}
use Rattle.std.specs.List.{flat_map}
use Rattle.nt_items.specs.declared.item.Item.TheViews.{out-Item}
use Rattle.nt_instances.specs.Modules.{param_name}
use Rattle.nt_instances.proofs.modules.names_of_items.Given as goal

abbrev pub invariant-loop-item : goal.invariant-loop-item
invariant-loop-item l = map (λ n. n.now) l.all.items ≡ flat_map (λ x. param_name (out-Item x)) (take l.item-index l.items)
