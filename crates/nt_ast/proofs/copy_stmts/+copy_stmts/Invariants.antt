use Rattle.std.proofs.Common.{◌≡◌, take}
use Rattle.nt_ast.proofs.copy_stmts.+copy_stmts.Given as goal

abbrev pub invariant-copy_arms-loop-items : goal.invariant-copy_arms-loop-items
invariant-copy_arms-loop-items l = l.all ≡ take l.items-index l.arms

abbrev pub invariant-copy_block-loop-item : goal.invariant-copy_block-loop-item
invariant-copy_block-loop-item l = l.all ≡ take l.item-index l.items
