use Rattle.std.proofs.Common.{◌≡◌, ◌++◌, map, take}
use Rattle.nt_instances.specs.Modules.{modules_of}
use Rattle.nt_instances.proofs.modules.add_modules.Given as goal

abbrev pub invariant-loop-item : goal.invariant-loop-item
invariant-loop-item l = map (λ x. x.now) l.all.items ≡ map (λ x. x.now) l.fn.all.items ++ modules_of (take l.item-index l.items)
