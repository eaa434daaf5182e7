use Rattle.nt_diag.specs.Order.{Among}
use Rattle.nt_diag.proofs.Least.{Best}
use Rattle.nt_unit_names.specs.Faults.{PackagesFault, unit_of}
use Rattle.nt_unit_names.proofs.check.all_packages_fault.Given as goal

abbrev pub invariant-loop-file : goal.invariant-loop-file
invariant-loop-file l = Best (Among (PackagesFault (unit_of l.units)) l.file-index l.units) l.least
