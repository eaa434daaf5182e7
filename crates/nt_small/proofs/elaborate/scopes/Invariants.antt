use Rattle.std.proofs.Common.{◌≡◌, take}
use Rattle.nt_small.specs.Elaboration.{scopes_of}
use Rattle.nt_small.proofs.elaborate.scopes.Given as goal

abbrev pub invariant-loop-at : goal.invariant-loop-at
invariant-loop-at l = l.scopes ≡ scopes_of l.top (take l.at l.table.names)
