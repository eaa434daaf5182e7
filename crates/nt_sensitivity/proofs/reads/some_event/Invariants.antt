use Rattle.std.proofs.Common.{◌≡◌, drop}
use Rattle.std.specs.List.{list_any}
use Rattle.nt_design.specs.declared.tree.Tree.{Tree}
use Rattle.nt_value.specs.declared.kind.Edge.{Edge}
use Rattle.nt_sensitivity.specs.Readers.{is_reader}
use Rattle.nt_sensitivity.proofs.reads.some_event.Given as goal

abbrev pub invariant-loop-tree : goal.invariant-loop-tree
invariant-loop-tree l = list_any (λ (e : Edge × Tree). is_reader l.object e.1) (drop l.tree-index l.on) ≡ list_any (λ (e : Edge × Tree). is_reader l.object e.1) l.on
