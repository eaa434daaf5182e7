use Rattle.std.specs.List.{All}
use Rattle.nt_merge.specs.Classes.{Within}
use Rattle.nt_merge.proofs.tests.chain.Given as goal

abbrev pub invariant-loop-k : goal.invariant-loop-k
invariant-loop-k l = All (Within 16384) l.links.items
