use Rattle.std.proofs.Common.{◌≡◌, ◌++◌, map, take}
use Rattle.nt_types.specs.Units.{all_imports}
use Rattle.nt_types.proofs.units.import_unit.Given as goal

abbrev pub invariant-loop-item : goal.invariant-loop-item
invariant-loop-item l = record {
  imports : l.scope.imports ≡ l.fn.scope.imports ++ all_imports l.packages.names (map (λ x. x.now) (take l.item-index l.unit));
  names : l.scope.names ≡ l.fn.scope.names;
}
