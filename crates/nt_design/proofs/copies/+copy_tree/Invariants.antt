use Rattle.std.proofs.Common.{◌≡◌, take}
use Rattle.nt_design.proofs.copies.+copy_tree.Given as goal

abbrev pub invariant-loop-part : goal.invariant-loop-part
invariant-loop-part l = l.copies ≡ take l.part-index l.part-items

abbrev pub invariant-loop-member : goal.invariant-loop-member
invariant-loop-member l = l.copies ≡ take l.member-index l.member-items

abbrev pub invariant-loop-arg : goal.invariant-loop-arg
invariant-loop-arg l = l.copies ≡ take l.arg-index l.arg-items
