use Rattle.std.proofs.Common.{◌≡◌, take}
use Rattle.nt_design.proofs.copies_of_acts.+copy_act.Given as goal

abbrev pub invariant-loop-item : goal.invariant-loop-item
invariant-loop-item l = l.copies ≡ take l.item-index l.item-items

abbrev pub invariant-loop-arm : goal.invariant-loop-arm
invariant-loop-arm l = l.copies ≡ take l.arm-index l.arm-items

abbrev pub invariant-loop-branch : goal.invariant-loop-branch
invariant-loop-branch l = l.copies ≡ take l.branch-index l.branch-items
