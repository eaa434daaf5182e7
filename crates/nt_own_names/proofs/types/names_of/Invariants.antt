use Rattle.std.proofs.Common.{◌≡◌, take}
use Rattle.nt_own_names.specs.Twice.{member_names}
use Rattle.nt_own_names.proofs.types.names_of.Given as goal

abbrev pub invariant-loop-kind : goal.invariant-loop-kind
invariant-loop-kind l = l.all ≡ member_names (take l._kind-index l.members)
