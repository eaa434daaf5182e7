use Rattle.std.proofs.Common.{◌≡◌, take}
use Rattle.nt_ast.proofs.copy_types.+copy_types.Given as goal

abbrev pub invariant-copy_members-loop-kind : goal.invariant-copy_members-loop-kind
invariant-copy_members-loop-kind l = l.all ≡ take l.kind-index l.members
