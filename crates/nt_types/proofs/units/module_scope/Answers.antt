use Rattle.nt_types.proofs.Adding.{adds_more}
use Rattle.nt_types.proofs.Scoping.{scope_told}
use Rattle.nt_types.proofs.units.module_scope.Goals as goal

pub returns : goal.returns
returns c =
    scope_told c.new-scope.ensures.names c.new-scope.ensures.imports (adds_more (adds_more c.in_ok-add_params.ensures c.in_ok-add_ports.ensures) c.in_ok-add_own_items.ensures)
    c.in_ok-add_imports.ensures.imports c.in_ok-add_imports.ensures.names
