use Rattle.std.proofs.Common.{◌^◌, ap, subst, sym, ◌∙◌}
use Rattle.std.specs.Prelude.{slice_set}
use Rattle.nt_design.specs.declared.object.Object.TheVariants as object
use Rattle.nt_semantics.specs.State.{MachineState}
use Rattle.nt_semantics.specs.StateFits.{AtMost, IsStateOf}
use Rattle.nt_semantics.specs.Wake as wakes
use Rattle.nt_changes.proofs.Writing.{few_vars, put_is, put_state}
use Rattle.nt_changes.proofs.writes.put_var.Goals as goal

pub wake_if-requires-clause-state : goal.wake_if-requires-clause-state
wake_if-requires-clause-state c =
    subst (IsStateOf c.args.design.now) (sym c.set_var.ensures) (put_state c.args.design.now c.args.state.now c.args.put.now c.var-old.result.now c.in_ok-new.new c.requires.state c.requires.put c.var-old.ensures c.in_ok-new.ensures)

pub wake_if-requires-clause-few : goal.wake_if-requires-clause-few
wake_if-requires-clause-few c =
    subst (λ (m : MachineState). AtMost (2 ^ 62) m) (sym c.set_var.ensures) (few_vars (2 ^ 62) c.args.state.now (slice_set c.args.state.now.vars c.args.put.now.var c.in_ok-new.new) c.requires.few)

pub returns : goal.returns
returns c =
    put_is c.args.design.now c.args.state.now c.wake_if.new.state c.args.put.now c.var-old.result.now c.in_ok-new.new c.matches-changed.result c.var-old.ensures c.in_ok-new.ensures c.matches-changed.ensures
    (c.in_ok-wake_if.ensures ∙ ap (λ (m : MachineState). wakes.wake c.args.design.now (object.Var c.args.put.now.var) c.matches-changed.result m) c.set_var.ensures)
