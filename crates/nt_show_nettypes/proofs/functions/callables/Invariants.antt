use Rattle.std.specs.Prelude.{All}
use Rattle.nt_nettype.specs.Resolvers.{IsWithin}
use Rattle.nt_show_nettypes.proofs.functions.callables.Given as goal

abbrev pub invariant-loop-k : goal.invariant-loop-k
invariant-loop-k l = All IsWithin l.all.items
