use Rattle.std.proofs.Common.{◌≡◌, ◌<◌, ◌^◌, take}
use Rattle.nt_small.specs.Elaboration.{number_of_digits}
use Rattle.nt_small.proofs.numbers.number.Given as goal

abbrev pub invariant-loop-digit : goal.invariant-loop-digit
invariant-loop-digit l = (l.number ≡ number_of_digits (take l.digit-index l.digits)) × (l.number < 10 ^ l.digit-index)
