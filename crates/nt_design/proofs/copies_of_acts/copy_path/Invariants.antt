use Rattle.std.proofs.Common.{◌≡◌, take}
use Rattle.nt_design.proofs.copies_of_acts.copy_path.Given as goal

abbrev pub invariant-loop-pick : goal.invariant-loop-pick
invariant-loop-pick l = l.copies ≡ take l.pick-index l.path
