use Rattle.std.proofs.Common.{◌≡◌, ◌++◌, map, take}
use Rattle.nt_value.specs.Values.{default_value}
use Rattle.nt_eval.proofs.run.entered.Given as goal

abbrev pub invariant-loop-shape : goal.invariant-loop-shape
invariant-loop-shape l = l.locals ≡ l.initial.locals ++ map default_value (take l.shape-index l.shape-items)
