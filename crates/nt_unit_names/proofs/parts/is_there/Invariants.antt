use Rattle.std.proofs.Common.{◌≡◌, take}
use Rattle.nt_unit_names.specs.Items.{is_there}
use Rattle.nt_unit_names.specs.Faults.{unit_of}
use Rattle.nt_unit_names.proofs.parts.is_there.Given as goal

abbrev pub invariant-loop-file : goal.invariant-loop-file
invariant-loop-file l = l.found ≡ is_there (unit_of (take l.file-index l.units)) l.at l.scope l.name
