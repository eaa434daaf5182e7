use Rattle.std.proofs.Common.{◌≡◌, drop}
use Rattle.nt_nettype.specs.Nettypes.{nettype_at}
use Rattle.nt_nettype.proofs.nettype.find.Given as goal

abbrev pub invariant-loop-one : goal.invariant-loop-one
invariant-loop-one l = nettype_at l.before l.at ≡ nettype_at (drop l.one-index l.before) l.at
