use Rattle.std.proofs.Common.{◌≡◌, ◌≤◌, ◌-◌, drop, replicate}
use Rattle.std.specs.Prelude.{slice_get}
use Rattle.std.specs.List.{flat_map}
use Rattle.nt_kinds.specs.Kinds.{leaves, member_leaves}
use Rattle.nt_kinds.proofs.leaves.+at.Given as goal

abbrev pub invariant-leaf_at-loop-index : goal.invariant-leaf_at-loop-index
invariant-leaf_at-loop-index l = record {
  low : l.rest ≤ l.at;
  is : slice_get (leaves l.kind) l.at ≡ slice_get (flat_map (λ s. s) (replicate (l._index-end - l._index) (leaves l.element))) l.rest;
}

abbrev pub invariant-member_leaf-loop-name : goal.invariant-member_leaf-loop-name
invariant-member_leaf-loop-name l = record {
  low : l.rest ≤ l.at;
  is : slice_get (member_leaves l.members) l.at ≡ slice_get (member_leaves (drop l._name-index l.members)) l.rest;
}
