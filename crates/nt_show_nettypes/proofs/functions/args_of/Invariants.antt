use Rattle.std.proofs.Common.{◌≤◌, length}
use Rattle.std.specs.Prelude.{All}
use Rattle.nt_kinds.specs.Kinds.{leaves}
use Rattle.nt_show_nettypes.proofs.functions.args_of.Given as goal

abbrev pub invariant-loop-tree : goal.invariant-loop-tree
invariant-loop-tree l = All (λ k. length (leaves k) ≤ 64) l.all
