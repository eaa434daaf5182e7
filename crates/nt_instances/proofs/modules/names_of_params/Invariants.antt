use Rattle.std.proofs.Common.{◌≡◌, map, take}
use Rattle.nt_instances.proofs.modules.names_of_params.Given as goal

abbrev pub invariant-loop-kind : goal.invariant-loop-kind
invariant-loop-kind l = map (λ n. n.now) l.all.items ≡ map (λ p. (p.1).name) (take l._kind-index l.params)
