use Rattle.std.proofs.Common.{◌≡◌, ◌++◌, take, replicate}
use Rattle.std.specs.List.{flat_map}
use Rattle.nt_kinds.specs.Kinds.{leaves, member_leaves}
use Rattle.nt_kinds.proofs.leaves.+push.Given as goal

abbrev pub invariant-push_leaves-loop-index : goal.invariant-push_leaves-loop-index
invariant-push_leaves-loop-index l = l.all.items ≡ l.fn.all.items ++ flat_map (λ s. s) (replicate l._index (leaves l.element))

abbrev pub invariant-push_members-loop-name : goal.invariant-push_members-loop-name
invariant-push_members-loop-name l = l.all.items ≡ l.fn.all.items ++ member_leaves (take l._name-index l.members)
