use Rattle.std.proofs.Common.{◌≡◌, take}
use Rattle.nt_kinds.proofs.copies.+copy_kind.Given as goal

abbrev pub invariant-loop-name : goal.invariant-loop-name
invariant-loop-name l = l.all ≡ take l.name-index l.name-items
