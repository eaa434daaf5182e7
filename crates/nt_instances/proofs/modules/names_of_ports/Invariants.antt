use Rattle.std.proofs.Common.{◌≡◌, map, take}
use Rattle.nt_instances.proofs.modules.names_of_ports.Given as goal

abbrev pub invariant-loop-port : goal.invariant-loop-port
invariant-loop-port l = map (λ n. n.now) l.all.items ≡ map (λ p. (p.what).name) (take l.port-index l.ports)
