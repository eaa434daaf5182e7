use Rattle.std.proofs.Common.{◌≡◌, take}
use Rattle.nt_items.proofs.copy_parts.copy_ports.Given as goal

abbrev pub invariant-loop-port : goal.invariant-loop-port
invariant-loop-port l = l.all ≡ take l.port-index l.ports
