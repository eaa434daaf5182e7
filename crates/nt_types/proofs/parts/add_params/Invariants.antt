use Rattle.std.proofs.Common.{take, map, None}
use Rattle.nt_types.specs.Parts.{Adds, param_part}
use Rattle.nt_types.proofs.parts.add_params.Given as goal

abbrev pub invariant-loop-kind : goal.invariant-loop-kind
invariant-loop-kind l = Adds l.fn.scope l.scope l.fn.all l.all (map (λ p. param_part None p.1) (take l._kind-index l.params))
