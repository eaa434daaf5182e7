use Rattle.std.proofs.Common.{◌≡◌, ◌++◌, map, take}
use Rattle.nt_types.proofs.units.add_refs.Given as goal

abbrev pub invariant-loop-item : goal.invariant-loop-item
invariant-loop-item l = map (λ x. x.now) l.all.items ≡ map (λ x. x.now) l.fn.all.items ++ take l.item-index l.items
