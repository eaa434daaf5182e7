use Rattle.std.proofs.Common.{◌∙◌, Some, ap, subst, arith, sym, []}
use Rattle.nt_machine.specs.Plain.{IsPlainState}
use Rattle.nt_semantics.specs.State.{MachineState}
use Rattle.nt_semantics.specs.StateFits.{IsStateOf}
use Rattle.nt_semantics.specs.declared.event.Event.TheVariants.{Resolve}
use Rattle.nt_machine.proofs.Steps.{evaluates, evaluates_keeps, assign_within, step_evaluates, given_value, value_given, driven_still, driven_as}
use Rattle.nt_machine.proofs.step.evaluate.Goals as goal

pub assign_at-driver-requires : goal.assign_at-driver-requires
assign_at-driver-requires c =
    let x = evaluates c.args.design.now c.args.state.now c.args.assign c.requires.allowed in
    (assign_within c.args.design.now c.args.state.now c.args.assign x.assign c.requires.design c.requires.plain_design c.requires.state x.here).at_assign

pub unreachable-requires : goal.unreachable-requires
unreachable-requires c =
    value_given c.args.design.now.functions c.state.inside.env c.assign_at-driver.result.now (c.requires.plain_design.assigns c.args.assign c.assign_at-driver.result.now c.assign_at-driver.ensures) (c.meaning.ensures.too_long (c.in-Err-TooLong.is ∙ ap (λ e. Rattle.std.proofs.Common.Err e) c.in-Err-TooLong.field-0-is))

pub drive-requires-clause-slot : goal.drive-requires-clause-slot
drive-requires-clause-slot c =
    (assign_within c.args.design.now c.args.state.now c.args.assign c.assign_at-driver.result.now c.requires.design c.requires.plain_design c.requires.state c.assign_at-driver.ensures).at_slot

pub drive-requires-clause-assign : goal.drive-requires-clause-assign
drive-requires-clause-assign c =
    (assign_within c.args.design.now c.args.state.now c.args.assign c.assign_at-driver.result.now c.requires.design c.requires.plain_design c.requires.state c.assign_at-driver.ensures).at_count

pub drive-requires-clause-net : goal.drive-requires-clause-net
drive-requires-clause-net c =
    let within = assign_within c.args.design.now c.args.state.now c.args.assign c.assign_at-driver.result.now c.requires.design c.requires.plain_design c.requires.state c.assign_at-driver.ensures in
    omega (arith, c.target_net.ensures, within.at_net)

pub drive-requires-clause-few : goal.drive-requires-clause-few
drive-requires-clause-few c = omega (arith, c.requires.few (Resolve c.target_net.result []))

pub returns-clause-step : goal.returns-clause-step
returns-clause-step c =
    let x = evaluates c.args.design.now c.args.state.now c.args.assign c.requires.allowed in
    let k = c.requires.plain_design.assigns c.args.assign c.assign_at-driver.result.now c.assign_at-driver.ensures in
    step_evaluates c.args.design.now c.args.state.now c.args.assign c.assign_at-driver.result.now k x.active c.assign_at-driver.ensures ∙ ap (λ (s : MachineState). Some s) (driven_as c.args.state.now c.drive.new.self c.args.assign _ _ _ _ c.target_net.ensures (given_value c.args.design.now.functions c.state.inside.env c.assign_at-driver.result.now k c.in-Ok.value c.in-Ok.ensures.value) c.drive.ensures)

pub returns-clause-state : goal.returns-clause-state
returns-clause-state c =
    let k = c.requires.plain_design.assigns c.args.assign c.assign_at-driver.result.now c.assign_at-driver.ensures in
    subst (IsStateOf c.args.design.now) (driven_as c.args.state.now c.drive.new.self c.args.assign _ _ _ _ c.target_net.ensures (given_value c.args.design.now.functions c.state.inside.env c.assign_at-driver.result.now k c.in-Ok.value c.in-Ok.ensures.value) c.drive.ensures) (evaluates_keeps c.args.design.now c.args.state.now c.args.assign c.assign_at-driver.result.now k c.requires.design c.requires.plain_design c.requires.state c.assign_at-driver.ensures)

pub returns-clause-plain : goal.returns-clause-plain
returns-clause-plain c =
    subst IsPlainState (sym c.drive.ensures) (driven_still c.args.state.now c.args.assign c.target_net.result c.in-Ok.value c.requires.plain)
