use Rattle.std.proofs.Common.{◌≡◌, min, length, take}
use Rattle.nt_kinds.specs.Kinds.{member_leaves}
use Rattle.nt_kinds.proofs.limits.+size.Given as goal

abbrev pub invariant-members_size-loop-name : goal.invariant-members_size-loop-name
invariant-members_size-loop-name l = l.all ≡ min (length (member_leaves (take l._name-index l.members))) 65
