use Rattle.std.proofs.Common.{◌≡◌, map, drop}
use Rattle.std.specs.Str.{bytes_eq}
use Rattle.nt_instances.specs.Numbers.{number_from, number_of}
use Rattle.nt_instances.proofs.conns.number_of.Given as goal

abbrev pub invariant-loop-number : goal.invariant-loop-number
invariant-loop-number l = number_of (bytes_eq l.name) (map (λ n. n.now) l.names) ≡ number_from (bytes_eq l.name) l.number (map (λ n. n.now) (drop l.number l.names))
