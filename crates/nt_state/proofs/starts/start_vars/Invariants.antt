use Rattle.std.proofs.Common.{◌≡◌, map, take}
use Rattle.nt_design.specs.declared.object.Var.{Var}
use Rattle.nt_state.proofs.starts.start_vars.Given as goal

abbrev pub invariant-loop-var : goal.invariant-loop-var
invariant-loop-var l = l.values ≡ map (λ (var : Var). var.start) (take l.var-index l.vars)
