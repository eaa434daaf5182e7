use Rattle.std.proofs.Common.{◌≡◌, false, drop, get_or}
use Rattle.std.specs.List.{list_any}
use Rattle.nt_uses.proofs.chains.has_flagged.Given as goal

abbrev pub invariant-loop-number : goal.invariant-loop-number
invariant-loop-number l = list_any (λ j. get_or l.flags j false) l.calls ≡ list_any (λ j. get_or l.flags j false) (drop l.number-index l.calls)
