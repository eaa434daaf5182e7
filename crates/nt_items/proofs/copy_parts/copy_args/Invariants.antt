use Rattle.std.proofs.Common.{◌≡◌, take}
use Rattle.nt_items.proofs.copy_parts.copy_args.Given as goal

abbrev pub invariant-loop-kind : goal.invariant-loop-kind
invariant-loop-kind l = l.all ≡ take l.kind-index l.args
