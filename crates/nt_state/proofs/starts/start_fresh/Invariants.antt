use Rattle.std.proofs.Common.{◌≡◌, map, take}
use Rattle.std.specs.Prelude.{not}
use Rattle.nt_design.specs.declared.process.Proc.{Proc}
use Rattle.nt_semantics.specs.State.{is_comb}
use Rattle.nt_state.proofs.starts.start_fresh.Given as goal

abbrev pub invariant-loop-proc : goal.invariant-loop-proc
invariant-loop-proc l = l.fresh ≡ map (λ (p : Proc). not (is_comb p.kind)) (take l.proc-index l.procs)
