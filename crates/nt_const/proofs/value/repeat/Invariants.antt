use Rattle.std.proofs.Common.{◌≡◌}
use Rattle.nt_const.specs.Tables.{times}
use Rattle.nt_const.proofs.value.repeat.Given as goal

abbrev pub invariant-loop-i : goal.invariant-loop-i
invariant-loop-i l = l.all ≡ times l._i l.a
