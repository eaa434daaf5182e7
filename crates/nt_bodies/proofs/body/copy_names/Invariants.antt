use Rattle.std.proofs.Common.{◌≡◌, take}
use Rattle.nt_bodies.proofs.body.copy_names.Given as goal

abbrev pub invariant-loop-name : goal.invariant-loop-name
invariant-loop-name l = l.all ≡ take l.name-index l.names
