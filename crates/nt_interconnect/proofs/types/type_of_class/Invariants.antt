use Rattle.nt_interconnect.specs.Types.{TypeWithin}
use Rattle.nt_interconnect.proofs.types.type_of_class.Given as goal

abbrev pub invariant-loop-at : goal.invariant-loop-at
invariant-loop-at l = TypeWithin l.kinds l.at l.found
