use Rattle.std.proofs.Common.{◌≡◌, min, take}
use Rattle.nt_kinds.specs.Kinds.{deepest}
use Rattle.nt_kinds.proofs.limits.+depth.Given as goal

abbrev pub invariant-members_depth-loop-name : goal.invariant-members_depth-loop-name
invariant-members_depth-loop-name l = l.all ≡ min (deepest (take l._name-index l.members)) 65
