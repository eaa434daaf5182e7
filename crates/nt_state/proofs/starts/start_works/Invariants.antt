use Rattle.std.proofs.Common.{◌≡◌, map, take}
use Rattle.nt_design.specs.declared.process.Proc.{Proc}
use Rattle.nt_semantics.specs.State.{start_work}
use Rattle.nt_state.proofs.starts.start_works.Given as goal

abbrev pub invariant-loop-proc : goal.invariant-loop-proc
invariant-loop-proc l = l.works.items ≡ map (λ (p : Proc). start_work p.kind p) (take l.proc-index l.procs)
