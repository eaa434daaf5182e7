use Rattle.std.proofs.Common.{◌≡◌, ◌+◌, ◌≤◌, drop}
use Rattle.nt_nettype.specs.Nettypes.{number_at}
use Rattle.nt_nettype.proofs.nettype.number.Given as goal

abbrev pub invariant-loop-what : goal.invariant-loop-what
invariant-loop-what l = (number_at l.whats l.at ≡ l.count + number_at (drop l.what-index l.whats) l.at) × (l.count ≤ l.what-index)
