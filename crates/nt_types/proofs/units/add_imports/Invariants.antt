use Rattle.std.proofs.Common.{◌≡◌, ◌++◌, take}
use Rattle.nt_types.specs.Units.{all_imports}
use Rattle.nt_types.proofs.units.add_imports.Given as goal

abbrev pub invariant-loop-item : goal.invariant-loop-item
invariant-loop-item l = record {
  imports : l.scope.imports ≡ l.fn.scope.imports ++ all_imports l.packages.names (take l.item-index l.items);
  names : l.scope.names ≡ l.fn.scope.names;
}
