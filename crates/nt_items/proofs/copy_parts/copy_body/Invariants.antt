use Rattle.std.proofs.Common.{◌≡◌, take}
use Rattle.nt_items.proofs.copy_parts.copy_body.Given as goal

abbrev pub invariant-loop-stmt : goal.invariant-loop-stmt
invariant-loop-stmt l = l.all ≡ take l.stmt-index l.body
