use Rattle.std.proofs.Common.{◌≡◌, drop}
use Rattle.nt_semantics.specs.Wake.{some_match}
use Rattle.nt_sensitivity.proofs.edges.some_match.Given as goal

abbrev pub invariant-loop-at : goal.invariant-loop-at
invariant-loop-at l = some_match (drop l.at l.on) (drop l.at l.kept) (drop l.at l.new) ≡ some_match l.on l.kept l.new
