use Rattle.nt_unit_names.proofs.Naming.{names_told}
use Rattle.nt_unit_names.proofs.check.least_fault.Goals as goal

pub returns : goal.returns
returns c = names_told c.args.units.now c.in_ok-unit.unit c.in_ok-packages.packages c.earlier.result c.in_ok-unit.ensures c.in_ok-packages.ensures c.earlier.ensures
