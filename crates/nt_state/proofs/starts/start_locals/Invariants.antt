use Rattle.std.proofs.Common.{◌≡◌, map, take}
use Rattle.nt_value.specs.Values.{default_value}
use Rattle.nt_design.specs.declared.process.Proc.{Proc}
use Rattle.nt_state.proofs.starts.start_locals.Given as goal

abbrev pub invariant-loop-proc : goal.invariant-loop-proc
invariant-loop-proc l = l.locals.items ≡ map (λ (p : Proc). map default_value p.locals) (take l.proc-index l.procs)
