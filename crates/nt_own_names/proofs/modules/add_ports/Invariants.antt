use Rattle.std.proofs.Common.{◌≡◌, ◌++◌, map, take}
use Rattle.nt_own_names.specs.Twice.{named}
use Rattle.nt_own_names.proofs.modules.add_ports.Given as goal

abbrev pub invariant-loop-port : goal.invariant-loop-port
invariant-loop-port l = l.all ≡ l.fn.all ++ map (λ p. named p.what) (take l.port-index l.ports)
