use Rattle.nt_unit_names.specs.Faults.{unit_of}
use Rattle.nt_unit_names.proofs.Naming.{UnitSoFar}
use Rattle.nt_unit_names.proofs.check.unit_fault.Given as goal

abbrev pub invariant-loop-file : goal.invariant-loop-file
invariant-loop-file l = UnitSoFar (unit_of l.units) l.units l.file-index l.names l.least
