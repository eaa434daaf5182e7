use Rattle.std.proofs.Common.{◌≡◌, drop}
use Rattle.std.specs.List.{list_any}
use Rattle.nt_sensitivity.specs.Readers.{is_reader}
use Rattle.nt_sensitivity.proofs.reads.+trees.Given as goal

abbrev pub invariant-some_reads-loop-tree : goal.invariant-some_reads-loop-tree
invariant-some_reads-loop-tree l = list_any (is_reader l.object) (drop l.tree-index l.trees) ≡ list_any (is_reader l.object) l.trees
