use Rattle.std.proofs.Common.{◌≡◌, map, take}
use Rattle.std.specs.Prelude.{if◌then◌else◌}
use Rattle.nt_design.specs.declared.process.Proc.{Proc}
use Rattle.nt_semantics.specs.State.{is_comb}
use Rattle.nt_semantics.specs.declared.standing.Standing.TheVariants.{Ready, Unbegun}
use Rattle.nt_state.proofs.starts.start_standings.Given as goal

abbrev pub invariant-loop-proc : goal.invariant-loop-proc
invariant-loop-proc l = l.standings ≡ map (λ (p : Proc). if is_comb p.kind then Unbegun else Ready) (take l.proc-index l.procs)
