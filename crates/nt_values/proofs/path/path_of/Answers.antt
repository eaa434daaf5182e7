use Rattle.std.proofs.Common.{◌+◌, drop, ap, sym, ◌∙◌, subst, arith}
use Rattle.std.specs.Prelude.{All}
use Rattle.std.proofs.lemmas.Result.{err_from_is_err_and}
use Rattle.nt_design.specs.Statements.{path_of, step_of}
use Rattle.nt_parts.specs.Steps.{IsStep, step_at, steps_at}
use Rattle.nt_values.proofs.Paths.{all_steps, no_steps, steps_more}
use Rattle.nt_values.proofs.Told.{Rest, all_done, got, item_done, item_stops, whole}
use Rattle.nt_values.specs.Typed.{world_in}
use Rattle.nt_values.proofs.path.path_of.Goals as goal

pub loop-pick-init : goal.loop-pick-init
loop-pick-init g c =
    record {
      fewer = omega arith;
      may = subst (All IsStep) (sym c.new-steps.ensures) no_steps;
      so_far = rw c.new-steps.ensures (whole (path_of (g.C.Caller.calls c.args.caller.now) (world_in c.args.world.now) c.args.path.now c.args.locals.now c.args.left));
    }

pub step_of-requires-clause-typed : goal.step_of-requires-clause-typed
step_of-requires-clause-typed g c =
    let each = c.requires.typed.each c.loop-pick.pick-index c.pick-item.result (got c.args.path.now c.loop-pick.pick-index c.pick-item.result c.loop-pick-test.true c.pick-item.is) in
    record { scope = c.requires.typed.scope; stands = c.requires.typed.stands; whole = each.0; part = each.1; is = each.2 }

pub returns-in_err-step-clause-value : goal.returns-in_err-step-clause-value
returns-in_err-step-clause-value g c =
    let p = err_from_is_err_and c.from_residual.result c.from_residual.ensures.1 in
    rw (p.1, p.2) (item_stops (step_of (g.C.Caller.calls c.args.caller.now) (world_in c.args.world.now)) c.args.path.now c.args.locals.now c.args.left c.args.left (steps_at c.loop-pick.steps) c.loop-pick.pick-index c.loop-pick.turns c.pick-item.result c.in_err-step.field-0.0 c.loop-pick-test.true c.pick-item.is c.loop-pick.invariant.so_far c.in_err-step.ensures.value)

pub loop-pick-preserved : goal.loop-pick-preserved
loop-pick-preserved g c =
    let few = c.loop-pick.invariant.fewer in
    let more = c.in_ok-step.ensures.value.1 in
    record {
      fewer = omega (arith, few, more);
      may = subst (All IsStep) (sym c.in_ok-push.ensures.ok) (all_steps c.loop-pick.steps c.in_ok-step.step c.loop-pick.invariant.may c.in_ok-step.ensures.step);
      so_far = subst (λ l. Rest (step_of (g.C.Caller.calls c.args.caller.now) (world_in c.args.world.now)) c.args.path.now c.args.locals.now c.args.left l (drop (c.loop-pick.pick-index + 1) c.args.path.now) c.in_ok-step.l)
          (sym (ap steps_at c.in_ok-push.ensures.ok ∙ steps_more c.loop-pick.steps c.in_ok-step.step))
          (item_done (step_of (g.C.Caller.calls c.args.caller.now) (world_in c.args.world.now)) c.args.path.now c.args.locals.now c.args.left (steps_at c.loop-pick.steps) c.loop-pick.pick-index c.loop-pick.turns c.pick-item.result (step_at c.in_ok-step.step) c.in_ok-step.l c.loop-pick-test.true c.pick-item.is c.loop-pick.invariant.so_far c.in_ok-step.ensures.value.0);
    }

pub returns-clause-value : goal.returns-clause-value
returns-clause-value g c =
    (all_done (step_of (g.C.Caller.calls c.args.caller.now) (world_in c.args.world.now)) c.args.path.now c.args.locals.now c.args.left (steps_at c.loop-pick.steps) c.loop-pick.pick-index c.loop-pick.turns c.loop-pick-test.false c.loop-pick.invariant.so_far, c.loop-pick.invariant.fewer)
