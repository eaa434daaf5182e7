use Rattle.std.proofs.Common.{map, take}
use Rattle.nt_types.specs.Units.{AreParts}
use Rattle.nt_types.proofs.units.add_parts.Given as goal

abbrev pub invariant-loop-item : goal.invariant-loop-item
invariant-loop-item l = AreParts l.prefix l.packages.names (map (λ x. x.now) (take l.item-index l.unit)) l.fn.all l.all l.fn.first l.first l.fn.inner.items l.inner.items
