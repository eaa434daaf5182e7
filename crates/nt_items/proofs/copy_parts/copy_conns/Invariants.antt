use Rattle.std.proofs.Common.{◌≡◌, take}
use Rattle.nt_items.proofs.copy_parts.copy_conns.Given as goal

abbrev pub invariant-loop-conn : goal.invariant-loop-conn
invariant-loop-conn l = l.all ≡ take l.conn-index l.conns
