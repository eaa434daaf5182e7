use Rattle.std.proofs.Common.{take, All}
use Rattle.nt_value.specs.Digits.{IsFilled}
use Rattle.nt_value.proofs.value.Value.new.Given as goal

abbrev pub invariant-loop-bits : goal.invariant-loop-bits
invariant-loop-bits l = All IsFilled (take l.bits-index l.bits-items)
