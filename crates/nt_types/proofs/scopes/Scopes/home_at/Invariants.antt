use Rattle.std.proofs.Common.{◌≡◌, drop, None}
use Rattle.nt_types.specs.Units.{home_in}
use Rattle.nt_types.proofs.scopes.Scopes.home_at.Given as goal

abbrev pub invariant-loop-home : goal.invariant-loop-home
invariant-loop-home l = home_in l.self.homes l.at None ≡ home_in (drop l.home-index l.self.homes) l.at l.found
