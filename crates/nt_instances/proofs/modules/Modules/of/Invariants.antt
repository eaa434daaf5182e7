use Rattle.std.proofs.Common.{◌≡◌, map, take}
use Rattle.nt_unit_names.specs.Faults.{unit_of}
use Rattle.nt_instances.specs.Modules.{modules_of}
use Rattle.nt_instances.proofs.modules.Modules.of.Given as goal

abbrev pub invariant-loop-file : goal.invariant-loop-file
invariant-loop-file l = map (λ x. x.now) l.all.items ≡ modules_of (unit_of (take l.file-index l.units))
