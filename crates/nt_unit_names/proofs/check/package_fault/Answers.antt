use Rattle.std.proofs.Common.{[]}
use Rattle.nt_unit_names.proofs.Naming.{package_told, seen_package, empty_scope}
use Rattle.nt_unit_names.proofs.check.package_fault.Goals as goal

pub returns-in_ok-fault-in-Package : goal.returns-in_ok-fault-in-Package
returns-in_ok-fault-in-Package c =
    package_told c.args.item.now c.in-Package.at c.in-Package.name (seen_package _ _ _ _ c.in-Package.is) ((rw c.as_slice.ensures at c.in_ok-fault-in-Package.ensures) [] (empty_scope c.new-names.ensures.names))
