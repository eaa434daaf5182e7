use Rattle.std.proofs.Common.{◌^◌, ap, subst, sym, ◌∙◌}
use Rattle.std.specs.Prelude.{slice_set}
use Rattle.nt_design.specs.declared.object.Object.TheVariants as object
use Rattle.nt_semantics.specs.State.{MachineState}
use Rattle.nt_semantics.specs.StateFits.{AtMost, IsStateOf}
use Rattle.nt_semantics.specs.Wake as wakes
use Rattle.nt_changes.proofs.Writing.{few_nets, net_is, net_state}
use Rattle.nt_changes.proofs.writes.set_net.Goals as goal

pub wake_if-requires-clause-state : goal.wake_if-requires-clause-state
wake_if-requires-clause-state c =
    subst (IsStateOf c.args.design.now) (sym c.set_net.ensures) (net_state c.args.design.now c.args.state.now c.args.net c.args.new c.requires.state c.requires.value)

pub wake_if-requires-clause-few : goal.wake_if-requires-clause-few
wake_if-requires-clause-few c =
    subst (λ (m : MachineState). AtMost (2 ^ 62) m) (sym c.set_net.ensures) (few_nets (2 ^ 62) c.args.state.now (slice_set c.args.state.now.nets c.args.net c.args.new) c.requires.few)

pub returns : goal.returns
returns c =
    net_is c.args.design.now c.args.state.now c.wake_if.new.state c.args.net c.net.result.now c.args.new c.matches-changed.result c.net.ensures c.matches-changed.ensures
    (c.in_ok-wake_if.ensures ∙ ap (λ (m : MachineState). wakes.wake c.args.design.now (object.Net c.args.net) c.matches-changed.result m) c.set_net.ensures)
