use Rattle.std.proofs.Common.{◌≡◌, List, drop}
use Rattle.std.specs.List.{list_any}
use Rattle.nt_design.specs.declared.tree.Tree.{Tree}
use Rattle.nt_design.specs.declared.act.Act.{Act}
use Rattle.nt_sensitivity.specs.Readers.{act_is_reader}
use Rattle.nt_sensitivity.proofs.reads.+acts.Given as goal

abbrev pub invariant-some_act-loop-act : goal.invariant-some_act-loop-act
invariant-some_act-loop-act l = list_any (act_is_reader l.object) (drop l.act-index l.acts) ≡ list_any (act_is_reader l.object) l.acts

abbrev pub invariant-some_arm-loop-act : goal.invariant-some_arm-loop-act
invariant-some_arm-loop-act l = list_any (λ (arm : List Tree × Act). act_is_reader l.object arm.1) (drop l.act-index l.arms) ≡ list_any (λ (arm : List Tree × Act). act_is_reader l.object arm.1) l.arms
