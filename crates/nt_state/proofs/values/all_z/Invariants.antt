use Rattle.std.proofs.Common.{◌≡◌, ◌-◌, ◌++◌, replicate}
use Rattle.nt_value.specs.declared.digit.Digit.TheVariants.{Z, Zero}
use Rattle.nt_state.proofs.values.all_z.Given as goal

abbrev pub invariant-loop-at : goal.invariant-loop-at
invariant-loop-at l = l.bits ≡ record { leaf = l.fn.leaf; digits = replicate l.at Z ++ replicate (l.fn.leaf.width - l.at) Zero }
