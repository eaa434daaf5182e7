use Rattle.std.proofs.Common.{◌≡◌, List, drop}
use Rattle.std.specs.List.{list_any}
use Rattle.nt_design.specs.declared.tree.Tree.{Tree}
use Rattle.nt_design.specs.declared.act.Act.{Act}
use Rattle.nt_sensitivity.specs.Readers.{is_reader}
use Rattle.nt_sensitivity.proofs.reads.some_item.Given as goal

abbrev pub invariant-loop-items : goal.invariant-loop-items
invariant-loop-items l = list_any (λ (arm : List Tree × Act). list_any (is_reader l.object) arm.0) (drop l.items-index l.arms) ≡ list_any (λ (arm : List Tree × Act). list_any (is_reader l.object) arm.0) l.arms
