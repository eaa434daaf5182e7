use Rattle.std.proofs.Common.{map, ap, sym, ◌∙◌, arith, subst}
use Rattle.std.specs.Prelude.{Err}
use Rattle.std.proofs.lemmas.Result.{err_from_is_err_and}
use Rattle.nt_design.specs.Expressions.{value_of}
use Rattle.nt_design.specs.Statements.{is_among}
use Rattle.nt_values.specs.Tells.{Tells}
use Rattle.nt_values.specs.Typed.{world_in}
use Rattle.nt_acts.proofs.Chosen.{arm_end, arm_found, arm_on, arm_stops}
use Rattle.nt_acts.proofs.cases.arm_of.Goals as goal

pub returns-in_err-found-clause-value : goal.returns-in_err-found-clause-value
returns-in_err-found-clause-value g c =
    let p = err_from_is_err_and c.from_residual.result c.from_residual.ensures.1 in
    rw (p.1, p.2) (arm_stops (g.C.Caller.calls c.args.caller.now) (world_in c.args.world.now) c.args.test.now c.args.arms.now c.args.locals.now c.args.left c.args.left c.loop-at.at c.loop-at.turns c.index-arms-at.result c.in_err-found.field-0.0 c.loop-at-test.true c.index-arms-at.is c.loop-at.invariant.so_far
    (subst (λ items. Tells c.loop-at.turns (is_among c.args.test.now (map (value_of (g.C.Caller.calls c.args.caller.now) (world_in c.args.world.now)) items) c.args.locals.now c.loop-at.turns) (Err c.in_err-found.field-0.0)) (c.as_slice.ensures ∙ ap (λ arm. arm.0) (sym c.index-arms-at.is)) c.in_err-found.ensures))

pub returns-then-found-clause-value : goal.returns-then-found-clause-value
returns-then-found-clause-value g c =
    let few = c.loop-at.invariant.fewer in
    let more = c.in_ok-found.ensures.1 in
    (arm_found (g.C.Caller.calls c.args.caller.now) (world_in c.args.world.now) c.args.test.now c.args.arms.now c.args.locals.now c.args.left c.loop-at.at c.loop-at.turns c.index-arms-at.result c.in_ok-found.found c.in_ok-found.l c.loop-at-test.true c.index-arms-at.is c.loop-at.invariant.so_far (ap (λ arm. is_among c.args.test.now (map (value_of (g.C.Caller.calls c.args.caller.now) (world_in c.args.world.now)) arm.0) c.args.locals.now c.loop-at.turns) c.index-arms-at.is ∙ (sym (ap (λ items. is_among c.args.test.now (map (value_of (g.C.Caller.calls c.args.caller.now) (world_in c.args.world.now)) items) c.args.locals.now c.loop-at.turns) c.as_slice.ensures) ∙ c.in_ok-found.ensures.0)) c.if-found.true, omega (arith, few, more))

pub loop-at-preserved : goal.loop-at-preserved
loop-at-preserved g c =
    let few = c.loop-at.invariant.fewer in
    let more = c.in_ok-found.ensures.1 in
    record {
      fewer = omega (arith, few, more);
      so_far = arm_on (g.C.Caller.calls c.args.caller.now) (world_in c.args.world.now) c.args.test.now c.args.arms.now c.args.locals.now c.args.left c.loop-at.at c.loop-at.turns c.index-arms-at.result c.in_ok-found.found c.in_ok-found.l c.loop-at-test.true c.index-arms-at.is c.loop-at.invariant.so_far (ap (λ arm. is_among c.args.test.now (map (value_of (g.C.Caller.calls c.args.caller.now) (world_in c.args.world.now)) arm.0) c.args.locals.now c.loop-at.turns) c.index-arms-at.is ∙ (sym (ap (λ items. is_among c.args.test.now (map (value_of (g.C.Caller.calls c.args.caller.now) (world_in c.args.world.now)) items) c.args.locals.now c.loop-at.turns) c.as_slice.ensures) ∙ c.in_ok-found.ensures.0)) c.if-found.false;
    }

pub returns-clause-value : goal.returns-clause-value
returns-clause-value g c = (arm_end (g.C.Caller.calls c.args.caller.now) (world_in c.args.world.now) c.args.test.now c.args.arms.now c.args.locals.now c.args.left c.loop-at.at c.loop-at.turns c.loop-at-test.false c.loop-at.invariant.so_far, c.loop-at.invariant.fewer)
