use Rattle.std.proofs.Common.{◌≡◌, take}
use Rattle.nt_ast.proofs.copy.+copy.Given as goal

abbrev pub invariant-copy_all-loop-part : goal.invariant-copy_all-loop-part
invariant-copy_all-loop-part l = l.all ≡ take l.part-index l.parts

abbrev pub invariant-copy_keyed-loop-key : goal.invariant-copy_keyed-loop-key
invariant-copy_keyed-loop-key l = l.all ≡ take l.key-index l.parts
