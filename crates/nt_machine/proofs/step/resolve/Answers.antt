use Rattle.std.proofs.Common.{◌∙◌, Some, ap, sym, subst}
use Rattle.nt_machine.specs.Plain.{IsPlainState}
use Rattle.nt_semantics.specs.State.{MachineState}
use Rattle.nt_semantics.specs.StateFits.{IsStateOf}
use Rattle.nt_machine.proofs.Steps.{resolves, resolves_keeps, net_within, step_resolves, same_net, published_still}
use Rattle.nt_machine.proofs.step.resolve.Goals as goal

pub net_at-requires : goal.net_at-requires
net_at-requires c =
    let x = resolves c.args.design.now c.args.state.now c.args.net c.args.order.now c.requires.allowed in
    (net_within c.args.design.now c.args.state.now c.args.net x.net c.requires.design c.requires.state x.here).at_net

pub resolution-requires-clause-driven : goal.resolution-requires-clause-driven
resolution-requires-clause-driven c =
    (net_within c.args.design.now c.args.state.now c.args.net c.net_at.result.now c.requires.design c.requires.state c.net_at.ensures).driven

pub resolution-requires-clause-order : goal.resolution-requires-clause-order
resolution-requires-clause-order c =
    (same_net c.args.design.now c.args.state.now c.args.net c.args.order.now c.net_at.result.now c.requires.allowed c.net_at.ensures).0

pub publish-requires-clause-net : goal.publish-requires-clause-net
publish-requires-clause-net c =
    (net_within c.args.design.now c.args.state.now c.args.net c.net_at.result.now c.requires.design c.requires.state c.net_at.ensures).at_value

pub publish-requires-clause-count : goal.publish-requires-clause-count
publish-requires-clause-count c =
    (net_within c.args.design.now c.args.state.now c.args.net c.net_at.result.now c.requires.design c.requires.state c.net_at.ensures).at_count

pub returns-clause-step : goal.returns-clause-step
returns-clause-step c =
    let x = same_net c.args.design.now c.args.state.now c.args.net c.args.order.now c.net_at.result.now c.requires.allowed c.net_at.ensures in
    step_resolves c.args.design.now c.args.state.now c.args.net c.args.order.now c.net_at.result.now c.in_ok-value.value c.requires.plain_design c.requires.plain x.1 c.net_at.ensures x.0 (c.in_ok-value.ensures c.args.design.now) ∙ ap (λ (s : MachineState). Some s) (sym c.publish.ensures)

pub returns-clause-state : goal.returns-clause-state
returns-clause-state c =
    let x = same_net c.args.design.now c.args.state.now c.args.net c.args.order.now c.net_at.result.now c.requires.allowed c.net_at.ensures in
    subst (IsStateOf c.args.design.now) (sym c.publish.ensures) (resolves_keeps c.args.design.now c.args.state.now c.args.net c.net_at.result.now c.args.order.now c.in_ok-value.value c.requires.design c.requires.plain_design c.requires.state c.net_at.ensures x.0 (c.in_ok-value.ensures c.args.design.now))

pub returns-clause-plain : goal.returns-clause-plain
returns-clause-plain c =
    subst IsPlainState (sym c.publish.ensures) (published_still c.args.state.now c.args.net c.in_ok-value.value c.requires.plain)
