use Rattle.nt_type_trees.proofs.Walking.{DimsSoFar}
use Rattle.nt_type_trees.proofs.bounds.dimensions.Given as goal

abbrev pub invariant-loop-left : goal.invariant-loop-left
invariant-loop-left g l = DimsSoFar (g.L.Lookup.sees l.known) l.dims l.left-index l.all
