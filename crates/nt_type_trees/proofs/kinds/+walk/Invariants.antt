use Rattle.nt_type_trees.proofs.Walking.{MembersSoFar}
use Rattle.nt_type_trees.proofs.kinds.+walk.Given as goal

abbrev pub invariant-members_of-loop-tree : goal.invariant-members_of-loop-tree
invariant-members_of-loop-tree g l = MembersSoFar (g.T.Lookup.sees l.names) (g.T.Types.means l.names) l.members l.tree-index l.all
