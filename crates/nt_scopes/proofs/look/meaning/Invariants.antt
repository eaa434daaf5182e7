use Rattle.std.proofs.Common.{map, drop}
use Rattle.nt_scopes.proofs.Looking.{Rest}
use Rattle.nt_scopes.proofs.look.meaning.Given as goal

abbrev pub invariant-loop-scope : goal.invariant-loop-scope
invariant-loop-scope l = Rest l.scopes l.at l.name (map (λ s. s.now) l.chain) (map (λ s. s.now) (drop l.scope-index l.chain))
