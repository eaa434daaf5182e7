use Rattle.std.proofs.Common.{take, map}
use Rattle.nt_types.specs.Parts.{Adds, port_part}
use Rattle.nt_types.proofs.parts.add_ports.Given as goal

abbrev pub invariant-loop-port : goal.invariant-loop-port
invariant-loop-port l = Adds l.fn.scope l.scope l.fn.all l.all (map port_part (take l.port-index l.ports))
