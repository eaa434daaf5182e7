use Rattle.std.proofs.Common.{rules, ◌<◌, ◌+◌, ◌-◌, ◌*◌, List, [], ◌∷◌, drop, refl, ap, sym, subst, ◌∙◌, arith}
use Rattle.std.specs.Prelude.{IfSome, get_or, length, Option, Some, None, Ok, Err, option_copied, option_map, option_to_list, slice_set}
use Rattle.std.proofs.lemmas.Result.{err_from_is_err_and}
use Rattle.nt_value.specs.Digits.{is_one}
use Rattle.nt_design.proofs.Acts.{does_assign, does_block, does_break, does_call, does_continue, does_delay, does_display, does_event, does_finish, does_for, does_foreach, does_forever, does_nonblocking, does_null, does_repeat, does_return, does_wait, does_while}
use Rattle.nt_design.proofs.Frame.{two}
use Rattle.nt_design.specs.Expressions.{value_of, values_of}
use Rattle.nt_design.specs.Parts.{Value, int_value, test_of}
use Rattle.nt_design.specs.Sizes.{act_size, acts_size, or_zero}
use Rattle.nt_design.specs.Statements.{assign, count_of, do_all, does, each_of, loop, nothing, on_next, or_nothing, repeat_of}
use Rattle.nt_design.specs.Turns.{Timed, and_then}
use Rattle.nt_design.specs.declared.act.Act as act
use Rattle.nt_design.specs.declared.act.Act.TheViews as view
use Rattle.nt_design.specs.declared.act.Flow.{Flow}
use Rattle.nt_design.specs.declared.act.Flow.TheVariants.{Next}
use Rattle.nt_values.proofs.Told.{follows, got, more_turns, stops, told_by}
use Rattle.nt_values.specs.Tells.{Tells}
use Rattle.nt_values.specs.Typed.{world_in}
use Rattle.nt_acts.specs.Arms.{arm_at}
use Rattle.nt_acts.specs.Doable.{Doable, Fits, with_locals}
use Rattle.nt_acts.specs.Endings.{once, step_or_nothing, test_or_always, then_step}
use Rattle.nt_acts.specs.Spans.{index_of}
use Rattle.nt_acts.proofs.Inner.{act_at, arm_act, arms_size, doable_as, first_act, for_first, in_assign, in_block, in_call, in_case, in_for, in_foreach, in_forever, in_if, in_repeat, in_return, in_while, other_act, other_acts, size_block, size_case, size_for, size_foreach, size_forever, size_if, size_repeat, size_while, test_typed, tests_typed}
use Rattle.nt_acts.proofs.Kept.{act_kept, act_smaller, arm_does, arm_smaller, arms_sized, assign_kept, assign_next, case_alike, case_typed, chosen_arm, count_kept, does_case, does_if, falls, fewer, fewer_on, kept_all, last_turn, maybe_arm, moved, once_kept, turn_kept}
use Rattle.nt_acts.proofs.Turned.{counted_ends, counted_last, counted_on, counted_stops, done_last, done_on, done_stops, jumps, looped_ends, looped_first, looped_on, looped_stops, pick_off, pick_on, repeated_ends, repeated_first, repeated_last, repeated_on, repeated_stops, test_said, test_stops}
use Rattle.nt_acts.proofs.does.+deeds.Goals as goal

pub do_all-loop-act-init : goal.do_all-loop-act-init
do_all-loop-act-init g t c =
    record { fewer = omega arith; kept = λ shapes h. h; so_far = refl }

pub do_all-does-requires : goal.do_all-does-requires
do_all-does-requires g t c κs within =
    let few = c.loop-act.invariant.fewer in
    (falls (4 * act_size c.act-item.result + 3) t (4 * acts_size c.args.acts.now) (act_smaller c.args.acts.now c.loop-act.act-index c.act-item.result c.loop-act-test.true c.act-item.is) c.decreases, (search rules, (c.requires.may, (act_at c.args.acts.now c.loop-act.act-index c.act-item.result (moved c.requires.typed c.loop-act.locals (c.loop-act.invariant.kept c.requires.typed.scope.locals c.requires.typed.stands.kept)) c.loop-act-test.true c.act-item.is, omega (arith, few, c.requires.few)))))

pub do_all-returns-in_err-flow : goal.do_all-returns-in_err-flow
do_all-returns-in_err-flow g t c =
    let p = err_from_is_err_and c.from_residual.result c.from_residual.ensures.1 in
    rw (p.1, p.2) (done_stops (g.C.Caller.calls c.args.caller.now) (world_in c.args.world.now) c.args.name c.args.acts.now c.args.locals.now c.args.left c.args.left c.loop-act.turns c.loop-act.act-index c.loop-act.locals c.does.new.locals c.does.new.locals c.loop-act.turns c.act-item.result c.in_err-flow.field-0.0 c.loop-act-test.true c.act-item.is c.loop-act.invariant.so_far c.in_err-flow.ensures)

pub do_all-loop-act-preserved : goal.do_all-loop-act-preserved
do_all-loop-act-preserved g t c =
    let few = c.loop-act.invariant.fewer in
    let more = c.in_ok-flow.ensures.1 in
    record {
      fewer = omega (arith, few, more);
      kept = kept_all c.requires.typed.scope.locals c.args.locals.now c.does.new.locals c.requires.typed.stands.kept (act_kept c.requires.typed c.act-item.result (subst (Fits c.requires.typed.scope c.requires.typed.result) (sym c.act-item.is) (c.requires.typed.fit c.loop-act.act-index c.act-item.result c.loop-act-test.true)) c.loop-act.locals c.does.new.locals c.in_ok-flow.flow c.loop-act.turns c.in_ok-flow.l (c.loop-act.invariant.kept c.requires.typed.scope.locals c.requires.typed.stands.kept) c.in_ok-flow.ensures.0);
      so_far = done_on (g.C.Caller.calls c.args.caller.now) (world_in c.args.world.now) c.args.name c.args.acts.now c.args.locals.now c.args.left c.loop-act.act-index c.loop-act.locals c.does.new.locals c.loop-act.turns c.in_ok-flow.l c.act-item.result c.in_ok-flow.flow c.loop-act-test.true c.act-item.is c.loop-act.invariant.so_far c.in_ok-flow.ensures.0 ∙ ap (λ flow. on_next flow (do_all (g.C.Caller.calls c.args.caller.now) (world_in c.args.world.now) c.args.name (drop (c.loop-act.act-index + 1) c.args.acts.now)) c.does.new.locals c.in_ok-flow.l) c.in-Next.is;
    }

pub do_all-returns-in_default : goal.do_all-returns-in_default
do_all-returns-in_default g t c =
    let few = c.loop-act.invariant.fewer in
    let more = c.in_ok-flow.ensures.1 in
    (done_on (g.C.Caller.calls c.args.caller.now) (world_in c.args.world.now) c.args.name c.args.acts.now c.args.locals.now c.args.left c.loop-act.act-index c.loop-act.locals c.does.new.locals c.loop-act.turns c.in_ok-flow.l c.act-item.result c.in_ok-flow.flow c.loop-act-test.true c.act-item.is c.loop-act.invariant.so_far c.in_ok-flow.ensures.0 ∙ jumps c.in_ok-flow.flow (do_all (g.C.Caller.calls c.args.caller.now) (world_in c.args.world.now) c.args.name (drop (c.loop-act.act-index + 1) c.args.acts.now)) c.does.new.locals c.in_ok-flow.l c.in_default.not-Next, omega (arith, few, more))

pub do_all-returns : goal.do_all-returns
do_all-returns g t c =
    (done_last (g.C.Caller.calls c.args.caller.now) (world_in c.args.world.now) c.args.name c.args.acts.now c.args.locals.now c.args.left c.loop-act.act-index c.loop-act.locals c.loop-act.turns c.loop-act-test.false c.loop-act.invariant.so_far, c.loop-act.invariant.fewer)

pub does-returns-in-Null : goal.does-returns-in-Null
does-returns-in-Null g t c =
    ((ap (λ a. does (g.C.Caller.calls c.args.caller.now) (world_in c.args.world.now) c.args.name a c.args.locals.now c.args.left) (c.in-Null.is) ∙ does_null (g.C.Caller.calls c.args.caller.now) (world_in c.args.world.now) c.args.name c.in-Null.at c.args.locals.now c.args.left), omega arith)

pub does-returns-in-Break : goal.does-returns-in-Break
does-returns-in-Break g t c =
    ((ap (λ a. does (g.C.Caller.calls c.args.caller.now) (world_in c.args.world.now) c.args.name a c.args.locals.now c.args.left) (c.in-Break.is) ∙ does_break (g.C.Caller.calls c.args.caller.now) (world_in c.args.world.now) c.args.name c.in-Break.at c.args.locals.now c.args.left), omega arith)

pub does-returns-in-Continue : goal.does-returns-in-Continue
does-returns-in-Continue g t c =
    ((ap (λ a. does (g.C.Caller.calls c.args.caller.now) (world_in c.args.world.now) c.args.name a c.args.locals.now c.args.left) (c.in-Continue.is) ∙ does_continue (g.C.Caller.calls c.args.caller.now) (world_in c.args.world.now) c.args.name c.in-Continue.at c.args.locals.now c.args.left), omega arith)

pub does-returns-in-Finish : goal.does-returns-in-Finish
does-returns-in-Finish g t c =
    ((ap (λ a. does (g.C.Caller.calls c.args.caller.now) (world_in c.args.world.now) c.args.name a c.args.locals.now c.args.left) (c.in-Finish.is) ∙ does_finish (g.C.Caller.calls c.args.caller.now) (world_in c.args.world.now) c.args.name c.in-Finish.at c.args.locals.now c.args.left), omega arith)

pub does-returns-in-Nonblocking : goal.does-returns-in-Nonblocking
does-returns-in-Nonblocking g t c =
    ((ap (λ a. does (g.C.Caller.calls c.args.caller.now) (world_in c.args.world.now) c.args.name a c.args.locals.now c.args.left) (c.in-Nonblocking.is) ∙ does_nonblocking (g.C.Caller.calls c.args.caller.now) (world_in c.args.world.now) c.args.name c.in-Nonblocking.left c.in-Nonblocking.right c.in-Nonblocking.at c.args.locals.now c.args.left), omega arith)

pub does-returns-in-Delay : goal.does-returns-in-Delay
does-returns-in-Delay g t c =
    ((ap (λ a. does (g.C.Caller.calls c.args.caller.now) (world_in c.args.world.now) c.args.name a c.args.locals.now c.args.left) (c.in-Delay.is) ∙ does_delay (g.C.Caller.calls c.args.caller.now) (world_in c.args.world.now) c.args.name c.in-Delay.amount c.in-Delay.body c.in-Delay.at c.args.locals.now c.args.left), omega arith)

pub does-returns-in-Event : goal.does-returns-in-Event
does-returns-in-Event g t c =
    ((ap (λ a. does (g.C.Caller.calls c.args.caller.now) (world_in c.args.world.now) c.args.name a c.args.locals.now c.args.left) (c.in-Event.is) ∙ does_event (g.C.Caller.calls c.args.caller.now) (world_in c.args.world.now) c.args.name c.in-Event.any c.in-Event.on c.in-Event.body c.in-Event.at c.args.locals.now c.args.left), omega arith)

pub does-returns-in-Wait : goal.does-returns-in-Wait
does-returns-in-Wait g t c =
    ((ap (λ a. does (g.C.Caller.calls c.args.caller.now) (world_in c.args.world.now) c.args.name a c.args.locals.now c.args.left) (c.in-Wait.is) ∙ does_wait (g.C.Caller.calls c.args.caller.now) (world_in c.args.world.now) c.args.name c.in-Wait.test c.in-Wait.body c.in-Wait.at c.args.locals.now c.args.left), omega arith)

pub does-returns-in-Display : goal.does-returns-in-Display
does-returns-in-Display g t c =
    ((ap (λ a. does (g.C.Caller.calls c.args.caller.now) (world_in c.args.world.now) c.args.name a c.args.locals.now c.args.left) (c.in-Display.is) ∙ does_display (g.C.Caller.calls c.args.caller.now) (world_in c.args.world.now) c.args.name c.in-Display.text c.in-Display.args c.in-Display.at c.args.locals.now c.args.left), omega arith)

pub does-do_all-requires : goal.does-do_all-requires
does-do_all-requires g t c κs within =
    let is = c.in-Block.is ∙ ap (λ items. view.Block items c.in-Block.at) (sym c.as_slice.ensures) in
    let size = ap act_size is ∙ size_block c.as_slice.result.now c.in-Block.at in
    (falls (4 * acts_size c.as_slice.result.now) t (4 * act_size c.args.act.now + 3) (omega (arith, size)) c.decreases, (search rules, (c.requires.may, (in_block c.as_slice.result.now c.in-Block.at (doable_as _ _ is c.requires.typed), c.requires.few))))

pub does-returns-in-Block : goal.does-returns-in-Block
does-returns-in-Block g t c =
    told_by _ _ _ _ (ap (λ a. does (g.C.Caller.calls c.args.caller.now) (world_in c.args.world.now) c.args.name a c.args.locals.now c.args.left) (c.in-Block.is ∙ ap (λ items. view.Block items c.in-Block.at) (sym c.as_slice.ensures)) ∙ does_block (g.C.Caller.calls c.args.caller.now) (world_in c.args.world.now) c.args.name c.as_slice.result.now c.in-Block.at c.args.locals.now c.args.left) c.do_all.ensures

pub does-assigned-requires-clause-typed : goal.does-assigned-requires-clause-typed
does-assigned-requires-clause-typed g t c =
    in_assign c.in-Assign.to c.in-Assign.right c.in-Assign.at (doable_as _ _ (c.in-Assign.is) c.requires.typed)

pub does-returns-in-Assign : goal.does-returns-in-Assign
does-returns-in-Assign g t c =
    told_by _ _ _ _ (ap (λ a. does (g.C.Caller.calls c.args.caller.now) (world_in c.args.world.now) c.args.name a c.args.locals.now c.args.left) (c.in-Assign.is) ∙ does_assign (g.C.Caller.calls c.args.caller.now) (world_in c.args.world.now) c.args.name c.in-Assign.to c.in-Assign.right c.in-Assign.at c.args.locals.now c.args.left) c.assigned.ensures

pub does-if_does-requires : goal.does-if_does-requires
does-if_does-requires g t c κs within =
    let is = c.in-If.is ∙ ap (λ first. view.If c.in-If.test first c.in-If.no c.in-If.at) (sym c.get.ensures) in
    let size = ap act_size is ∙ size_if c.in-If.test c.get.result.now c.in-If.no c.in-If.at in
    (falls (4 * (act_size c.get.result.now + or_zero (option_map act_size c.in-If.no)) + 5) t (4 * act_size c.args.act.now + 3) (omega (arith, size)) c.decreases, (search rules, (c.requires.may, (in_if c.in-If.test c.get.result.now c.in-If.no c.in-If.at (doable_as _ _ is c.requires.typed), c.requires.few))))

pub does-returns-in-If : goal.does-returns-in-If
does-returns-in-If g t c =
    told_by _ _ _ _ (ap (λ a. does (g.C.Caller.calls c.args.caller.now) (world_in c.args.world.now) c.args.name a c.args.locals.now c.args.left) (c.in-If.is ∙ ap (λ first. view.If c.in-If.test first c.in-If.no c.in-If.at) (sym c.get.ensures)) ∙ does_if (g.C.Caller.calls c.args.caller.now) (world_in c.args.world.now) c.args.name c.in-If.test c.get.result.now c.in-If.no c.in-If.at c.args.locals.now c.args.left) c.if_does.ensures

pub does-case_does-requires : goal.does-case_does-requires
does-case_does-requires g t c κs within =
    let is = c.in-Case.is ∙ ap (λ arms. view.Case c.in-Case.test arms c.in-Case.other c.in-Case.at) (sym c.as_slice-in-Case.ensures) in
    let size = ap act_size is ∙ size_case c.in-Case.test c.as_slice-in-Case.result.now c.in-Case.other c.in-Case.at in
    let arms = arms_sized c.as_slice-in-Case.result.now in
    (falls (4 * (arms_size c.as_slice-in-Case.result.now + or_zero (option_map act_size c.in-Case.other)) + 5) t (4 * act_size c.args.act.now + 3) (omega (arith, size, arms)) c.decreases, (search rules, (c.requires.may, (in_case c.in-Case.test c.as_slice-in-Case.result.now c.in-Case.other c.in-Case.at (doable_as _ _ is c.requires.typed), c.requires.few))))

pub does-returns-in-Case : goal.does-returns-in-Case
does-returns-in-Case g t c =
    told_by _ _ _ _ (ap (λ a. does (g.C.Caller.calls c.args.caller.now) (world_in c.args.world.now) c.args.name a c.args.locals.now c.args.left) (c.in-Case.is ∙ ap (λ arms. view.Case c.in-Case.test arms c.in-Case.other c.in-Case.at) (sym c.as_slice-in-Case.ensures)) ∙ does_case (g.C.Caller.calls c.args.caller.now) (world_in c.args.world.now) c.args.name c.in-Case.test c.as_slice-in-Case.result.now c.in-Case.other c.in-Case.at c.args.locals.now c.args.left) c.case_does.ensures

pub does-loops-requires : goal.does-loops-requires
does-loops-requires g t c κs within =
    let is = c.in-While.is ∙ ap (λ body. view.While c.in-While.test body c.in-While.at) (sym c.get-in-While.ensures) in
    let size = ap act_size is ∙ size_while c.in-While.test c.get-in-While.result.now c.in-While.at in
    (falls (4 * (act_size c.get-in-While.result.now + 0) + 6) t (4 * act_size c.args.act.now + 3) (omega (arith, size)) c.decreases, (search rules, (c.requires.may, (in_while c.in-While.test c.get-in-While.result.now c.in-While.at (doable_as _ _ is c.requires.typed), c.requires.few))))

pub does-returns-in-While : goal.does-returns-in-While
does-returns-in-While g t c =
    told_by _ _ _ _ (ap (λ a. does (g.C.Caller.calls c.args.caller.now) (world_in c.args.world.now) c.args.name a c.args.locals.now c.args.left) (c.in-While.is ∙ ap (λ body. view.While c.in-While.test body c.in-While.at) (sym c.get-in-While.ensures)) ∙ does_while (g.C.Caller.calls c.args.caller.now) (world_in c.args.world.now) c.args.name c.in-While.test c.get-in-While.result.now c.in-While.at c.args.locals.now c.args.left) c.loops.ensures

pub does-value_of-requires-clause-typed : goal.does-value_of-requires-clause-typed
does-value_of-requires-clause-typed g t c =
    rw c.as_slice-in-Repeat.ensures (test_typed c.in-Repeat.count (c.in-Repeat.body ∷ []) (in_repeat c.in-Repeat.count c.in-Repeat.body c.in-Repeat.at (doable_as _ _ (c.in-Repeat.is) c.requires.typed)))

pub does-returns-in_err-number-in-Repeat : goal.does-returns-in_err-number-in-Repeat
does-returns-in_err-number-in-Repeat g t c =
    let p = err_from_is_err_and c.from_residual.result c.from_residual.ensures.1 in
    rw (p.1, p.2) (stops c.args.left c.args.left _ (value_of (g.C.Caller.calls c.args.caller.now) (world_in c.args.world.now) c.in-Repeat.count c.args.locals.now c.args.left) _ c.in_err-number-in-Repeat.field-0.0 (ap (λ a. does (g.C.Caller.calls c.args.caller.now) (world_in c.args.world.now) c.args.name a c.args.locals.now c.args.left) (c.in-Repeat.is) ∙ does_repeat (g.C.Caller.calls c.args.caller.now) (world_in c.args.world.now) c.args.name c.in-Repeat.count c.in-Repeat.body c.in-Repeat.at c.args.locals.now c.args.left) (subst (λ ls. Tells c.args.left (value_of (g.C.Caller.calls c.args.caller.now) (world_in c.args.world.now) c.in-Repeat.count ls c.args.left) (Err c.in_err-number-in-Repeat.field-0.0)) c.as_slice-in-Repeat.ensures c.in_err-number-in-Repeat.ensures))

pub does-repeats-requires : goal.does-repeats-requires
does-repeats-requires g t c κs within =
    let is = c.in-Repeat.is ∙ ap (λ body. view.Repeat c.in-Repeat.count body c.in-Repeat.at) (sym c.get-in-Repeat.ensures) in
    let size = ap act_size is ∙ size_repeat c.in-Repeat.count c.get-in-Repeat.result.now c.in-Repeat.at in
    let few = c.in_ok-number-in-Repeat.ensures.1 in
    (falls (4 * act_size c.get-in-Repeat.result.now + 5) t (4 * act_size c.args.act.now + 3) (omega (arith, size)) c.decreases, (search rules, (c.requires.may, (first_act (c.in-Repeat.count ∷ []) c.get-in-Repeat.result.now [] (in_repeat c.in-Repeat.count c.get-in-Repeat.result.now c.in-Repeat.at (doable_as _ _ is c.requires.typed)), omega (arith, few, c.requires.few)))))

pub does-returns-in_ok-number-in-Repeat : goal.does-returns-in_ok-number-in-Repeat
does-returns-in_ok-number-in-Repeat g t c =
    let n = c.count_of-many.ensures ∙ ap count_of c.index_of.ensures in
    follows c.args.left c.in_ok-number-in-Repeat.turns _ (value_of (g.C.Caller.calls c.args.caller.now) (world_in c.args.world.now) c.in-Repeat.count c.args.locals.now c.args.left) _ c.in_ok-number-in-Repeat.number _ (ap (λ a. does (g.C.Caller.calls c.args.caller.now) (world_in c.args.world.now) c.args.name a c.args.locals.now c.args.left) (c.in-Repeat.is ∙ ap (λ body. view.Repeat c.in-Repeat.count body c.in-Repeat.at) (sym c.get-in-Repeat.ensures)) ∙ does_repeat (g.C.Caller.calls c.args.caller.now) (world_in c.args.world.now) c.args.name c.in-Repeat.count c.get-in-Repeat.result.now c.in-Repeat.at c.args.locals.now c.args.left)
    (ap (λ ls. value_of (g.C.Caller.calls c.args.caller.now) (world_in c.args.world.now) c.in-Repeat.count ls c.args.left) (sym c.as_slice-in-Repeat.ensures) ∙ c.in_ok-number-in-Repeat.ensures.0) c.in_ok-number-in-Repeat.ensures.1
    (subst (λ k. Tells c.in_ok-number-in-Repeat.turns (repeat_of k (does (g.C.Caller.calls c.args.caller.now) (world_in c.args.world.now) c.args.name c.get-in-Repeat.result.now) c.args.locals.now c.in_ok-number-in-Repeat.turns) (with_locals c.repeats.new.locals c.repeats.result)) n c.repeats.ensures)

pub does-assigned-requires-in-For-clause-typed : goal.does-assigned-requires-in-For-clause-typed
does-assigned-requires-in-For-clause-typed g t c =
    in_assign c.in-For.to c.in-For.first c.in-For.at (for_first c.in-For.fresh c.in-For.to c.in-For.first c.in-For.test c.in-For.step c.in-For.body c.in-For.at (doable_as _ _ (c.in-For.is) c.requires.typed))

pub does-returns-in_err-_flow-in-For : goal.does-returns-in_err-_flow-in-For
does-returns-in_err-_flow-in-For g t c =
    let p = err_from_is_err_and c.from_residual-in_err-_flow-in-For.result c.from_residual-in_err-_flow-in-For.ensures.1 in
    rw (p.1, p.2) (stops c.args.left c.args.left _ (assign (g.C.Caller.calls c.args.caller.now) (world_in c.args.world.now) c.in-For.to c.in-For.first c.args.locals.now c.args.left) _ c.in_err-_flow-in-For.field-0.0 (ap (λ a. does (g.C.Caller.calls c.args.caller.now) (world_in c.args.world.now) c.args.name a c.args.locals.now c.args.left) (c.in-For.is) ∙ does_for (g.C.Caller.calls c.args.caller.now) (world_in c.args.world.now) c.args.name c.in-For.fresh c.in-For.to c.in-For.first c.in-For.test c.in-For.step c.in-For.body c.in-For.at c.args.locals.now c.args.left) c.in_err-_flow-in-For.ensures)

pub does-loops-requires-in-For : goal.does-loops-requires-in-For
does-loops-requires-in-For g t c κs within =
    let is = c.in-For.is ∙ two (λ next body. view.For c.in-For.fresh c.in-For.to c.in-For.first c.in-For.test next body c.in-For.at) (sym c.get-in-For.ensures) (sym c.get-in-For-2.ensures) in
    let size = ap act_size is ∙ size_for c.in-For.fresh c.in-For.to c.in-For.first c.in-For.test c.get-in-For.result.now c.get-in-For-2.result.now c.in-For.at in
    let few = c.in_ok-_flow-in-For.ensures.1 in
    (falls (4 * (act_size c.get-in-For-2.result.now + act_size c.get-in-For.result.now) + 6) t (4 * act_size c.args.act.now + 3) (omega (arith, size)) c.decreases, (search rules, (c.requires.may, (moved (in_for c.in-For.fresh c.in-For.to c.in-For.first c.in-For.test c.get-in-For.result.now c.get-in-For-2.result.now c.in-For.at (doable_as _ _ is c.requires.typed)) c.assigned-in-For.new.locals (kept_all (for_first c.in-For.fresh c.in-For.to c.in-For.first c.in-For.test c.in-For.step c.in-For.body c.in-For.at (doable_as _ _ (c.in-For.is) c.requires.typed)).scope.locals c.args.locals.now c.assigned-in-For.new.locals (for_first c.in-For.fresh c.in-For.to c.in-For.first c.in-For.test c.in-For.step c.in-For.body c.in-For.at (doable_as _ _ (c.in-For.is) c.requires.typed)).stands.kept (assign_kept c.in-For.to c.in-For.first c.in-For.at (for_first c.in-For.fresh c.in-For.to c.in-For.first c.in-For.test c.in-For.step c.in-For.body c.in-For.at (doable_as _ _ (c.in-For.is) c.requires.typed)) c.assigned-in-For.new.locals c.in_ok-_flow-in-For._flow c.args.left c.in_ok-_flow-in-For.turns c.in_ok-_flow-in-For.ensures.0) (in_for c.in-For.fresh c.in-For.to c.in-For.first c.in-For.test c.get-in-For.result.now c.get-in-For-2.result.now c.in-For.at (doable_as _ _ is c.requires.typed)).scope.locals (in_for c.in-For.fresh c.in-For.to c.in-For.first c.in-For.test c.get-in-For.result.now c.get-in-For-2.result.now c.in-For.at (doable_as _ _ is c.requires.typed)).stands.kept), omega (arith, few, c.requires.few)))))

pub does-returns-in_ok-_flow-in-For : goal.does-returns-in_ok-_flow-in-For
does-returns-in_ok-_flow-in-For g t c =
    let next = assign_next (g.C.Caller.calls c.args.caller.now) (world_in c.args.world.now) c.in-For.to c.in-For.first c.args.locals.now c.assigned-in-For.new.locals c.in_ok-_flow-in-For._flow c.args.left c.in_ok-_flow-in-For.turns c.in_ok-_flow-in-For.ensures.0 in
    follows c.args.left c.in_ok-_flow-in-For.turns _ (assign (g.C.Caller.calls c.args.caller.now) (world_in c.args.world.now) c.in-For.to c.in-For.first c.args.locals.now c.args.left) _ (c.assigned-in-For.new.locals, c.in_ok-_flow-in-For._flow) _ (ap (λ a. does (g.C.Caller.calls c.args.caller.now) (world_in c.args.world.now) c.args.name a c.args.locals.now c.args.left) (c.in-For.is ∙ two (λ next body. view.For c.in-For.fresh c.in-For.to c.in-For.first c.in-For.test next body c.in-For.at) (sym c.get-in-For.ensures) (sym c.get-in-For-2.ensures)) ∙ does_for (g.C.Caller.calls c.args.caller.now) (world_in c.args.world.now) c.args.name c.in-For.fresh c.in-For.to c.in-For.first c.in-For.test c.get-in-For.result.now c.get-in-For-2.result.now c.in-For.at c.args.locals.now c.args.left) c.in_ok-_flow-in-For.ensures.0 c.in_ok-_flow-in-For.ensures.1
    (told_by c.in_ok-_flow-in-For.turns _ _ _ (ap {B = Timed (List Value × Flow)} (λ flow. on_next flow (loop (value_of (g.C.Caller.calls c.args.caller.now) (world_in c.args.world.now) c.in-For.test) (does (g.C.Caller.calls c.args.caller.now) (world_in c.args.world.now) c.args.name c.get-in-For.result.now) (does (g.C.Caller.calls c.args.caller.now) (world_in c.args.world.now) c.args.name c.get-in-For-2.result.now)) c.assigned-in-For.new.locals c.in_ok-_flow-in-For.turns) next) c.loops-in-For.ensures)

pub does-loops-requires-in-Forever : goal.does-loops-requires-in-Forever
does-loops-requires-in-Forever g t c κs within =
    let is = c.in-Forever.is ∙ ap (λ body. view.Forever body c.in-Forever.at) (sym c.get-in-Forever.ensures) in
    let size = ap act_size is ∙ size_forever c.get-in-Forever.result.now c.in-Forever.at in
    (falls (4 * (act_size c.get-in-Forever.result.now + 0) + 6) t (4 * act_size c.args.act.now + 3) (omega (arith, size)) c.decreases, (search rules, (c.requires.may, (in_forever c.get-in-Forever.result.now c.in-Forever.at (doable_as _ _ is c.requires.typed), c.requires.few))))

pub does-returns-in-Forever : goal.does-returns-in-Forever
does-returns-in-Forever g t c =
    told_by _ _ _ _ (ap (λ a. does (g.C.Caller.calls c.args.caller.now) (world_in c.args.world.now) c.args.name a c.args.locals.now c.args.left) (c.in-Forever.is ∙ ap (λ body. view.Forever body c.in-Forever.at) (sym c.get-in-Forever.ensures)) ∙ does_forever (g.C.Caller.calls c.args.caller.now) (world_in c.args.world.now) c.args.name c.get-in-Forever.result.now c.in-Forever.at c.args.locals.now c.args.left) c.loops-in-Forever.ensures

pub does-each-requires : goal.does-each-requires
does-each-requires g t c κs within =
    let is = c.in-Foreach.is ∙ ap (λ body. view.Foreach c.in-Foreach.bounds c.in-Foreach.index body c.in-Foreach.at) (sym c.get-in-Foreach.ensures) in
    let size = ap act_size is ∙ size_foreach c.in-Foreach.bounds c.in-Foreach.index c.get-in-Foreach.result.now c.in-Foreach.at in
    (falls (4 * act_size c.get-in-Foreach.result.now + 5) t (4 * act_size c.args.act.now + 3) (omega (arith, size)) c.decreases, (search rules, (c.requires.may, (in_foreach c.in-Foreach.bounds c.in-Foreach.index c.get-in-Foreach.result.now c.in-Foreach.at (doable_as _ _ is c.requires.typed), (c.requires.few, c.span_of-span.ensures.span)))))

pub does-returns-in-Foreach : goal.does-returns-in-Foreach
does-returns-in-Foreach g t c =
    told_by _ _ _ _ (ap (λ a. does (g.C.Caller.calls c.args.caller.now) (world_in c.args.world.now) c.args.name a c.args.locals.now c.args.left) (c.in-Foreach.is ∙ ap (λ body. view.Foreach c.in-Foreach.bounds c.in-Foreach.index body c.in-Foreach.at) (sym c.get-in-Foreach.ensures)) ∙ does_foreach (g.C.Caller.calls c.args.caller.now) (world_in c.args.world.now) c.args.name c.in-Foreach.bounds c.in-Foreach.index c.get-in-Foreach.result.now c.in-Foreach.at c.args.locals.now c.args.left) (subst (λ indices. Tells c.args.left (each_of indices c.in-Foreach.index (does (g.C.Caller.calls c.args.caller.now) (world_in c.args.world.now) c.args.name c.get-in-Foreach.result.now) c.args.locals.now c.args.left) (with_locals c.each.new.locals c.each.result)) c.span_of-span.ensures.indices c.each.ensures)

pub does-returned-requires-clause-typed : goal.does-returned-requires-clause-typed
does-returned-requires-clause-typed g t c =
    in_return c.in-Return.value c.in-Return.at (doable_as _ _ (c.in-Return.is) c.requires.typed)

pub does-returns-in-Return : goal.does-returns-in-Return
does-returns-in-Return g t c =
    told_by _ _ _ _ (ap (λ a. does (g.C.Caller.calls c.args.caller.now) (world_in c.args.world.now) c.args.name a c.args.locals.now c.args.left) (c.in-Return.is) ∙ does_return (g.C.Caller.calls c.args.caller.now) (world_in c.args.world.now) c.args.name c.in-Return.value c.in-Return.at c.args.locals.now c.args.left) c.returned.ensures

pub does-called-requires-clause-typed : goal.does-called-requires-clause-typed
does-called-requires-clause-typed g t c =
    rw c.as_slice-in-Call-2.ensures (in_call c.in-Call.function c.as_slice-in-Call.result.now c.in-Call.at (doable_as _ _ (c.in-Call.is ∙ ap (λ args. act.Call c.in-Call.function args c.in-Call.at) (sym c.as_slice-in-Call.ensures)) c.requires.typed))

pub does-returns-in-Call : goal.does-returns-in-Call
does-returns-in-Call g t c =
    told_by _ _ _ _ (ap (λ a. does (g.C.Caller.calls c.args.caller.now) (world_in c.args.world.now) c.args.name a c.args.locals.now c.args.left) (c.in-Call.is ∙ ap (λ args. act.Call c.in-Call.function args c.in-Call.at) (sym c.as_slice-in-Call.ensures)) ∙ does_call (g.C.Caller.calls c.args.caller.now) (world_in c.args.world.now) c.args.name c.in-Call.function c.as_slice-in-Call.result.now c.in-Call.at c.args.locals.now c.args.left) (subst (λ ls. Tells c.args.left (and_then (values_of (g.C.Caller.calls c.args.caller.now) (world_in c.args.world.now) c.as_slice-in-Call.result.now ls c.args.left) (λ vs l. and_then (g.C.Caller.calls c.args.caller.now c.in-Call.function vs l) (λ v k. nothing ls k))) (with_locals ls c.called.result)) c.as_slice-in-Call-2.ensures c.called.ensures)

pub maybe_does-does-requires : goal.maybe_does-does-requires
maybe_does-does-requires g t c κs within =
    let is = c.in-Some.is ∙ ap Some (sym c.get.ensures) in
    let size = ap (λ o. or_zero (option_map act_size o)) is in
    (falls (4 * act_size c.get.result.now + 3) t (4 * or_zero (option_map act_size c.args.act.now) + 4) (omega (arith, size)) c.decreases, (search rules, (c.requires.may, (subst (λ o. Doable (g.C.Caller.signatures c.args.caller.now) (g.C.Caller.calls c.args.caller.now) (world_in c.args.world.now) c.args.name c.args.locals.now [] (option_to_list o)) is c.requires.typed, c.requires.few))))

pub if_does-goes_on-requires-clause-typed : goal.if_does-goes_on-requires-clause-typed
if_does-goes_on-requires-clause-typed g t c =
    rw c.as_slice.ensures (tests_typed (c.args.test.now ∷ []) (c.args.yes.now ∷ option_to_list c.args.no.now) c.requires.typed)

pub if_does-returns-in_err-on : goal.if_does-returns-in_err-on
if_does-returns-in_err-on g t c =
    let p = err_from_is_err_and c.from_residual.result c.from_residual.ensures.1 in
    rw (p.1, p.2) (test_stops c.args.left c.args.left (value_of (g.C.Caller.calls c.args.caller.now) (world_in c.args.world.now) c.args.test.now c.args.locals.now c.args.left) _ c.in_err-on.field-0.0 (subst (λ ls. Tells c.args.left (and_then (value_of (g.C.Caller.calls c.args.caller.now) (world_in c.args.world.now) c.args.test.now ls c.args.left) (λ t l. Some (is_one (test_of t), l))) (Err c.in_err-on.field-0.0)) c.as_slice.ensures c.in_err-on.ensures))

pub if_does-does-requires : goal.if_does-does-requires
if_does-does-requires g t c κs within =
    let few = c.in_ok-on.ensures.1 in
    (falls (4 * act_size c.args.yes.now + 3) t (4 * (act_size c.args.yes.now + or_zero (option_map act_size c.args.no.now)) + 5) (omega arith) c.decreases, (search rules, (c.requires.may, (first_act (c.args.test.now ∷ []) c.args.yes.now (option_to_list c.args.no.now) c.requires.typed, omega (arith, few, c.requires.few)))))

pub if_does-maybe_does-requires : goal.if_does-maybe_does-requires
if_does-maybe_does-requires g t c κs within =
    let few = c.in_ok-on.ensures.1 in
    (falls (4 * or_zero (option_map act_size c.args.no.now) + 4) t (4 * (act_size c.args.yes.now + or_zero (option_map act_size c.args.no.now)) + 5) (omega arith) c.decreases, (search rules, (c.requires.may, (other_acts (c.args.test.now ∷ []) c.args.yes.now (option_to_list c.args.no.now) c.requires.typed, omega (arith, few, c.requires.few)))))

pub if_does-returns-then-on : goal.if_does-returns-then-on
if_does-returns-then-on g t c =
    let said = (test_said (value_of (g.C.Caller.calls c.args.caller.now) (world_in c.args.world.now) c.args.test.now c.args.locals.now c.args.left) c.in_ok-on.on c.in_ok-on.turns (ap (λ ls. and_then (value_of (g.C.Caller.calls c.args.caller.now) (world_in c.args.world.now) c.args.test.now ls c.args.left) (λ t l. Some (is_one (test_of t), l))) (sym c.as_slice.ensures) ∙ c.in_ok-on.ensures.0)) in
    follows c.args.left c.in_ok-on.turns _ (value_of (g.C.Caller.calls c.args.caller.now) (world_in c.args.world.now) c.args.test.now c.args.locals.now c.args.left) _ said.0 _ refl said.1 c.in_ok-on.ensures.1 (told_by c.in_ok-on.turns _ _ _ (pick_on (test_of said.0) ((does (g.C.Caller.calls c.args.caller.now) (world_in c.args.world.now) c.args.name c.args.yes.now) c.args.locals.now c.in_ok-on.turns) ((or_nothing (option_map (does (g.C.Caller.calls c.args.caller.now) (world_in c.args.world.now) c.args.name) c.args.no.now)) c.args.locals.now c.in_ok-on.turns) (said.2 ∙ c.if-on.true)) c.does.ensures)

pub if_does-returns-else-on : goal.if_does-returns-else-on
if_does-returns-else-on g t c =
    let said = (test_said (value_of (g.C.Caller.calls c.args.caller.now) (world_in c.args.world.now) c.args.test.now c.args.locals.now c.args.left) c.in_ok-on.on c.in_ok-on.turns (ap (λ ls. and_then (value_of (g.C.Caller.calls c.args.caller.now) (world_in c.args.world.now) c.args.test.now ls c.args.left) (λ t l. Some (is_one (test_of t), l))) (sym c.as_slice.ensures) ∙ c.in_ok-on.ensures.0)) in
    follows c.args.left c.in_ok-on.turns _ (value_of (g.C.Caller.calls c.args.caller.now) (world_in c.args.world.now) c.args.test.now c.args.locals.now c.args.left) _ said.0 _ refl said.1 c.in_ok-on.ensures.1 (told_by c.in_ok-on.turns _ _ _ (pick_off (test_of said.0) ((does (g.C.Caller.calls c.args.caller.now) (world_in c.args.world.now) c.args.name c.args.yes.now) c.args.locals.now c.in_ok-on.turns) ((or_nothing (option_map (does (g.C.Caller.calls c.args.caller.now) (world_in c.args.world.now) c.args.name) c.args.no.now)) c.args.locals.now c.in_ok-on.turns) (said.2 ∙ c.if-on.false)) c.maybe_does.ensures)

pub case_does-value_of-requires-clause-typed : goal.case_does-value_of-requires-clause-typed
case_does-value_of-requires-clause-typed g t c =
    rw c.as_slice.ensures (case_typed c.args.test.now c.args.arms.now c.args.other.now c.requires.typed)

pub case_does-returns-in_err-value : goal.case_does-returns-in_err-value
case_does-returns-in_err-value g t c =
    let p = err_from_is_err_and c.from_residual.result c.from_residual.ensures.1 in
    rw (p.1, p.2) (stops c.args.left c.args.left _ (value_of (g.C.Caller.calls c.args.caller.now) (world_in c.args.world.now) c.args.test.now c.args.locals.now c.args.left) _ c.in_err-value.field-0.0 refl (subst (λ ls. Tells c.args.left (value_of (g.C.Caller.calls c.args.caller.now) (world_in c.args.world.now) c.args.test.now ls c.args.left) (Err c.in_err-value.field-0.0)) c.as_slice.ensures c.in_err-value.ensures))

pub case_does-arm_of-requires-clause-typed : goal.case_does-arm_of-requires-clause-typed
case_does-arm_of-requires-clause-typed g t c =
    rw c.as_slice-2.ensures (case_alike c.args.test.now c.args.arms.now c.args.other.now c.requires.typed c.in_ok-value.value c.args.left c.in_ok-value.l (ap (λ ls. value_of (g.C.Caller.calls c.args.caller.now) (world_in c.args.world.now) c.args.test.now ls c.args.left) (sym c.as_slice.ensures) ∙ c.in_ok-value.ensures.0))

pub case_does-returns-in_err-arm : goal.case_does-returns-in_err-arm
case_does-returns-in_err-arm g t c =
    let p = err_from_is_err_and c.from_residual-in_err-arm.result c.from_residual-in_err-arm.ensures.1 in
    rw (p.1, p.2) (follows c.args.left c.in_ok-value.l _ (value_of (g.C.Caller.calls c.args.caller.now) (world_in c.args.world.now) c.args.test.now c.args.locals.now c.args.left) _ c.in_ok-value.value (Err c.in_err-arm.field-0.0) refl (ap (λ ls. value_of (g.C.Caller.calls c.args.caller.now) (world_in c.args.world.now) c.args.test.now ls c.args.left) (sym c.as_slice.ensures) ∙ c.in_ok-value.ensures.0) c.in_ok-value.ensures.1 (stops c.in_ok-value.l c.in_ok-value.l _ (arm_at (g.C.Caller.calls c.args.caller.now) (world_in c.args.world.now) c.in_ok-value.value c.args.arms.now 0 c.args.locals.now c.in_ok-value.l) _ c.in_err-arm.field-0.0 (chosen_arm (g.C.Caller.calls c.args.caller.now) (world_in c.args.world.now) c.args.name c.in_ok-value.value c.args.arms.now (or_nothing (option_map (does (g.C.Caller.calls c.args.caller.now) (world_in c.args.world.now) c.args.name) c.args.other.now)) c.args.locals.now c.in_ok-value.l) (subst (λ ls. Tells c.in_ok-value.l (arm_at (g.C.Caller.calls c.args.caller.now) (world_in c.args.world.now) c.in_ok-value.value c.args.arms.now 0 ls c.in_ok-value.l) (Err c.in_err-arm.field-0.0)) c.as_slice-2.ensures c.in_err-arm.ensures.value)))

pub once-does-requires : goal.once-does-requires
once-does-requires g t c κs within =
    (falls (4 * act_size c.args.body.now + 3) t (4 * act_size c.args.body.now + 4) (omega arith) c.decreases, (search rules, (c.requires.may, (c.requires.typed, omega (arith, c.requires.few)))))

pub once-returns-then-left-eq0-clause-value : goal.once-returns-then-left-eq0-clause-value
once-returns-then-left-eq0-clause-value g t c =
    ap (λ n. once (does (g.C.Caller.calls c.args.caller.now) (world_in c.args.world.now) c.args.name c.args.body.now) c.args.locals.now n) c.if-left-eq0.true

pub once-returns-clause-value : goal.once-returns-clause-value
once-returns-clause-value g t c =
    let e = last_turn c.args.left c.if-left-eq0.false in
    told_by c.args.left _ _ _ (ap (λ n. once (does (g.C.Caller.calls c.args.caller.now) (world_in c.args.world.now) c.args.name c.args.body.now) c.args.locals.now n) e) (more_turns (c.args.left - 1) c.args.left _ _ (omega arith) (c.end_of.ensures (c.args.left - 1) c.does.new.locals ((does (g.C.Caller.calls c.args.caller.now) (world_in c.args.world.now) c.args.name c.args.body.now) c.args.locals.now (c.args.left - 1)) c.does.ensures))

pub once-returns-clause-spent : goal.once-returns-clause-spent
once-returns-clause-spent g t c =
    let less = last_turn c.args.left c.if-left-eq0.false in
    fewer (c.args.left - 1) c.args.left c.does.new.locals _ c.end_of.result (omega (arith, less)) (c.end_of.ensures (c.args.left - 1) c.does.new.locals ((does (g.C.Caller.calls c.args.caller.now) (world_in c.args.world.now) c.args.name c.args.body.now) c.args.locals.now (c.args.left - 1)) c.does.ensures)

pub turn-goes_on-requires-clause-typed : goal.turn-goes_on-requires-clause-typed
turn-goes_on-requires-clause-typed g t c =
    rw c.as_slice.ensures (tests_typed (option_to_list (option_copied c.args.test)) (c.args.body.now ∷ option_to_list (option_copied c.args.step)) c.requires.typed)

pub turn-returns-in_err-on-clause-value : goal.turn-returns-in_err-on-clause-value
turn-returns-in_err-on-clause-value g t c =
    let p = err_from_is_err_and c.from_residual.result c.from_residual.ensures.1 in
    rw (p.1, p.2) (test_stops c.args.left c.args.left ((test_or_always (g.C.Caller.calls c.args.caller.now) (world_in c.args.world.now) (option_copied c.args.test)) c.args.locals.now c.args.left) _ c.in_err-on.field-0.0 (subst (λ ls. Tells c.args.left (and_then ((test_or_always (g.C.Caller.calls c.args.caller.now) (world_in c.args.world.now) (option_copied c.args.test)) ls c.args.left) (λ t l. Some (is_one (test_of t), l))) (Err c.in_err-on.field-0.0)) c.as_slice.ensures c.in_err-on.ensures))

pub turn-returns-then-not-on-clause-value : goal.turn-returns-then-not-on-clause-value
turn-returns-then-not-on-clause-value g t c =
    let said = (test_said ((test_or_always (g.C.Caller.calls c.args.caller.now) (world_in c.args.world.now) (option_copied c.args.test)) c.args.locals.now c.args.left) c.in_ok-on.on c.in_ok-on.turns (ap (λ ls. and_then ((test_or_always (g.C.Caller.calls c.args.caller.now) (world_in c.args.world.now) (option_copied c.args.test)) ls c.args.left) (λ t l. Some (is_one (test_of t), l))) (sym c.as_slice.ensures) ∙ c.in_ok-on.ensures.0)) in
    follows c.args.left c.in_ok-on.turns _ ((test_or_always (g.C.Caller.calls c.args.caller.now) (world_in c.args.world.now) (option_copied c.args.test)) c.args.locals.now c.args.left) _ said.0 (Ok ((c.args.locals.now, Some Next), c.in_ok-on.turns)) refl said.1 c.in_ok-on.ensures.1 (told_by c.in_ok-on.turns _ (Some ((c.args.locals.now, Some Next), c.in_ok-on.turns)) (Ok ((c.args.locals.now, Some Next), c.in_ok-on.turns)) (pick_off (test_of said.0) (and_then (once (does (g.C.Caller.calls c.args.caller.now) (world_in c.args.world.now) c.args.name c.args.body.now) c.args.locals.now c.in_ok-on.turns) (λ e k. then_step e.1 (step_or_nothing (option_map (does (g.C.Caller.calls c.args.caller.now) (world_in c.args.world.now) c.args.name) (option_copied c.args.step))) e.0 k)) (Some ((c.args.locals.now, Some Next), c.in_ok-on.turns)) (said.2 ∙ c.if-not-on.true)) (refl, omega arith))

pub turn-once-requires : goal.turn-once-requires
turn-once-requires g t c κs within =
    let few = c.in_ok-on.ensures.1 in
    (falls (4 * act_size c.args.body.now + 4) t (4 * (act_size c.args.body.now + or_zero (option_map act_size (option_copied c.args.step))) + 5) (omega arith) c.decreases, (search rules, (c.requires.may, (first_act (option_to_list (option_copied c.args.test)) c.args.body.now (option_to_list (option_copied c.args.step)) c.requires.typed, omega (arith, few, c.requires.few)))))

pub turn-returns-in_err-end-clause-value : goal.turn-returns-in_err-end-clause-value
turn-returns-in_err-end-clause-value g t c =
    let p = err_from_is_err_and c.from_residual-in_err-end.result c.from_residual-in_err-end.ensures.1 in
    rw (p.1, p.2) (let said = (test_said ((test_or_always (g.C.Caller.calls c.args.caller.now) (world_in c.args.world.now) (option_copied c.args.test)) c.args.locals.now c.args.left) c.in_ok-on.on c.in_ok-on.turns (ap (λ ls. and_then ((test_or_always (g.C.Caller.calls c.args.caller.now) (world_in c.args.world.now) (option_copied c.args.test)) ls c.args.left) (λ t l. Some (is_one (test_of t), l))) (sym c.as_slice.ensures) ∙ c.in_ok-on.ensures.0)) in
    follows c.args.left c.in_ok-on.turns _ ((test_or_always (g.C.Caller.calls c.args.caller.now) (world_in c.args.world.now) (option_copied c.args.test)) c.args.locals.now c.args.left) _ said.0 (Err c.in_err-end.field-0.0) refl said.1 c.in_ok-on.ensures.1 (told_by c.in_ok-on.turns _ _ (Err c.in_err-end.field-0.0) (pick_on (test_of said.0) (and_then (once (does (g.C.Caller.calls c.args.caller.now) (world_in c.args.world.now) c.args.name c.args.body.now) c.args.locals.now c.in_ok-on.turns) (λ e k. then_step e.1 (step_or_nothing (option_map (does (g.C.Caller.calls c.args.caller.now) (world_in c.args.world.now) c.args.name) (option_copied c.args.step))) e.0 k)) (Some ((c.args.locals.now, Some Next), c.in_ok-on.turns)) (said.2 ∙ c.if-not-on.false)) (stops c.in_ok-on.turns c.in_ok-on.turns _ (once (does (g.C.Caller.calls c.args.caller.now) (world_in c.args.world.now) c.args.name c.args.body.now) c.args.locals.now c.in_ok-on.turns) _ c.in_err-end.field-0.0 refl c.in_err-end.ensures.value)))

pub turn-returns-in-Some-clause-value : goal.turn-returns-in-Some-clause-value
turn-returns-in-Some-clause-value g t c =
    let said = (test_said ((test_or_always (g.C.Caller.calls c.args.caller.now) (world_in c.args.world.now) (option_copied c.args.test)) c.args.locals.now c.args.left) c.in_ok-on.on c.in_ok-on.turns (ap (λ ls. and_then ((test_or_always (g.C.Caller.calls c.args.caller.now) (world_in c.args.world.now) (option_copied c.args.test)) ls c.args.left) (λ t l. Some (is_one (test_of t), l))) (sym c.as_slice.ensures) ∙ c.in_ok-on.ensures.0)) in
    follows c.args.left c.in_ok-on.turns _ ((test_or_always (g.C.Caller.calls c.args.caller.now) (world_in c.args.world.now) (option_copied c.args.test)) c.args.locals.now c.args.left) _ said.0 (Ok ((c.once.new.locals, Some c.in-Some.flow), c.in_ok-end.l)) refl said.1 c.in_ok-on.ensures.1 (told_by c.in_ok-on.turns _ _ (Ok ((c.once.new.locals, Some c.in-Some.flow), c.in_ok-end.l)) (pick_on (test_of said.0) (and_then (once (does (g.C.Caller.calls c.args.caller.now) (world_in c.args.world.now) c.args.name c.args.body.now) c.args.locals.now c.in_ok-on.turns) (λ e k. then_step e.1 (step_or_nothing (option_map (does (g.C.Caller.calls c.args.caller.now) (world_in c.args.world.now) c.args.name) (option_copied c.args.step))) e.0 k)) (Some ((c.args.locals.now, Some Next), c.in_ok-on.turns)) (said.2 ∙ c.if-not-on.false)) (follows c.in_ok-on.turns c.in_ok-end.l _ (once (does (g.C.Caller.calls c.args.caller.now) (world_in c.args.world.now) c.args.name c.args.body.now) c.args.locals.now c.in_ok-on.turns) _ (c.once.new.locals, c.in_ok-end.end) (Ok ((c.once.new.locals, Some c.in-Some.flow), c.in_ok-end.l)) refl c.in_ok-end.ensures.value.0 c.in_ok-end.ensures.value.1 ((ap {B = Timed (List Value × Option Flow)} (λ o. then_step o (step_or_nothing (option_map (does (g.C.Caller.calls c.args.caller.now) (world_in c.args.world.now) c.args.name) (option_copied c.args.step))) c.once.new.locals c.in_ok-end.l) c.in-Some.is, omega arith))))

pub turn-returns-in-None-step-clause-value : goal.turn-returns-in-None-step-clause-value
turn-returns-in-None-step-clause-value g t c =
    let said = (test_said ((test_or_always (g.C.Caller.calls c.args.caller.now) (world_in c.args.world.now) (option_copied c.args.test)) c.args.locals.now c.args.left) c.in_ok-on.on c.in_ok-on.turns (ap (λ ls. and_then ((test_or_always (g.C.Caller.calls c.args.caller.now) (world_in c.args.world.now) (option_copied c.args.test)) ls c.args.left) (λ t l. Some (is_one (test_of t), l))) (sym c.as_slice.ensures) ∙ c.in_ok-on.ensures.0)) in
    follows c.args.left c.in_ok-on.turns _ ((test_or_always (g.C.Caller.calls c.args.caller.now) (world_in c.args.world.now) (option_copied c.args.test)) c.args.locals.now c.args.left) _ said.0 (Ok ((c.once.new.locals, None), c.in_ok-end.l)) refl said.1 c.in_ok-on.ensures.1 (told_by c.in_ok-on.turns _ _ (Ok ((c.once.new.locals, None), c.in_ok-end.l)) (pick_on (test_of said.0) (and_then (once (does (g.C.Caller.calls c.args.caller.now) (world_in c.args.world.now) c.args.name c.args.body.now) c.args.locals.now c.in_ok-on.turns) (λ e k. then_step e.1 (step_or_nothing (option_map (does (g.C.Caller.calls c.args.caller.now) (world_in c.args.world.now) c.args.name) (option_copied c.args.step))) e.0 k)) (Some ((c.args.locals.now, Some Next), c.in_ok-on.turns)) (said.2 ∙ c.if-not-on.false)) (follows c.in_ok-on.turns c.in_ok-end.l _ (once (does (g.C.Caller.calls c.args.caller.now) (world_in c.args.world.now) c.args.name c.args.body.now) c.args.locals.now c.in_ok-on.turns) _ (c.once.new.locals, c.in_ok-end.end) (Ok ((c.once.new.locals, None), c.in_ok-end.l)) refl c.in_ok-end.ensures.value.0 c.in_ok-end.ensures.value.1 ((two {C = Timed (List Value × Option Flow)} (λ o s. then_step o (step_or_nothing (option_map (does (g.C.Caller.calls c.args.caller.now) (world_in c.args.world.now) c.args.name) (option_copied s))) c.once.new.locals c.in_ok-end.l) c.in-None.is c.in-None-step.is, omega arith))))

pub turn-returns-in-None-step-clause-spent : goal.turn-returns-in-None-step-clause-spent
turn-returns-in-None-step-clause-spent g t c =
    let few = c.in_ok-on.ensures.1 in
    let less = c.in_ok-end.ensures.spent in
    λ none. omega (arith, few, less)

pub turn-does-requires : goal.turn-does-requires
turn-does-requires g t c κs within =
    let few = c.in_ok-on.ensures.1 in
    let more = c.in_ok-end.ensures.value.1 in
    let size = ap (λ o. or_zero (option_map act_size (option_copied o))) c.in-Some-step.is in
    (falls (4 * act_size c.in-Some-step.next.now + 3) t (4 * (act_size c.args.body.now + or_zero (option_map act_size (option_copied c.args.step))) + 5) (omega (arith, size)) c.decreases, (search rules, (c.requires.may, (subst (λ o. Doable (g.C.Caller.signatures c.args.caller.now) (g.C.Caller.calls c.args.caller.now) (world_in c.args.world.now) c.args.name c.once.new.locals [] (option_to_list (option_copied o))) c.in-Some-step.is (moved (other_acts (option_to_list (option_copied c.args.test)) c.args.body.now (option_to_list (option_copied c.args.step)) c.requires.typed) c.once.new.locals (kept_all c.requires.typed.scope.locals c.args.locals.now c.once.new.locals c.requires.typed.stands.kept (once_kept c.requires.typed c.args.body.now (c.requires.typed.fit 0 c.args.body.now (omega arith)) c.args.locals.now c.once.new.locals c.in_ok-end.end c.in_ok-on.turns c.in_ok-end.l c.requires.typed.stands.kept c.in_ok-end.ensures.value.0) (other_acts (option_to_list (option_copied c.args.test)) c.args.body.now (option_to_list (option_copied c.args.step)) c.requires.typed).scope.locals (other_acts (option_to_list (option_copied c.args.test)) c.args.body.now (option_to_list (option_copied c.args.step)) c.requires.typed).stands.kept)), omega (arith, few, more, c.requires.few)))))

pub turn-returns-in-Some-step-clause-value : goal.turn-returns-in-Some-step-clause-value
turn-returns-in-Some-step-clause-value g t c =
    let said = (test_said ((test_or_always (g.C.Caller.calls c.args.caller.now) (world_in c.args.world.now) (option_copied c.args.test)) c.args.locals.now c.args.left) c.in_ok-on.on c.in_ok-on.turns (ap (λ ls. and_then ((test_or_always (g.C.Caller.calls c.args.caller.now) (world_in c.args.world.now) (option_copied c.args.test)) ls c.args.left) (λ t l. Some (is_one (test_of t), l))) (sym c.as_slice.ensures) ∙ c.in_ok-on.ensures.0)) in
    follows c.args.left c.in_ok-on.turns _ ((test_or_always (g.C.Caller.calls c.args.caller.now) (world_in c.args.world.now) (option_copied c.args.test)) c.args.locals.now c.args.left) _ said.0 _ refl said.1 c.in_ok-on.ensures.1 (told_by c.in_ok-on.turns _ _ _ (pick_on (test_of said.0) (and_then (once (does (g.C.Caller.calls c.args.caller.now) (world_in c.args.world.now) c.args.name c.args.body.now) c.args.locals.now c.in_ok-on.turns) (λ e k. then_step e.1 (step_or_nothing (option_map (does (g.C.Caller.calls c.args.caller.now) (world_in c.args.world.now) c.args.name) (option_copied c.args.step))) e.0 k)) (Some ((c.args.locals.now, Some Next), c.in_ok-on.turns)) (said.2 ∙ c.if-not-on.false)) (follows c.in_ok-on.turns c.in_ok-end.l _ (once (does (g.C.Caller.calls c.args.caller.now) (world_in c.args.world.now) c.args.name c.args.body.now) c.args.locals.now c.in_ok-on.turns) _ (c.once.new.locals, c.in_ok-end.end) _ refl c.in_ok-end.ensures.value.0 c.in_ok-end.ensures.value.1 (told_by c.in_ok-end.l _ _ _ (two {C = Timed (List Value × Option Flow)} (λ o s. then_step o (step_or_nothing (option_map (does (g.C.Caller.calls c.args.caller.now) (world_in c.args.world.now) c.args.name) (option_copied s))) c.once.new.locals c.in_ok-end.l) c.in-None.is c.in-Some-step.is) (c.passed.ensures c.in_ok-end.l c.does.new.locals ((does (g.C.Caller.calls c.args.caller.now) (world_in c.args.world.now) c.args.name c.in-Some-step.next.now) c.once.new.locals c.in_ok-end.l) c.does.ensures))))

pub turn-returns-in-Some-step-clause-spent : goal.turn-returns-in-Some-step-clause-spent
turn-returns-in-Some-step-clause-spent g t c =
    let few = c.in_ok-on.ensures.1 in
    let less = c.in_ok-end.ensures.spent in
    fewer_on c.in_ok-end.l c.args.left c.does.new.locals _ c.passed.result (omega (arith, few, less)) (c.passed.ensures c.in_ok-end.l c.does.new.locals ((does (g.C.Caller.calls c.args.caller.now) (world_in c.args.world.now) c.args.name c.in-Some-step.next.now) c.once.new.locals c.in_ok-end.l) c.does.ensures)

pub loops-loop-end-init : goal.loops-loop-end-init
loops-loop-end-init g t c =
    record { fewer = omega arith; kept = λ shapes h. h; so_far = looped_first (test_or_always (g.C.Caller.calls c.args.caller.now) (world_in c.args.world.now) (option_copied c.args.test)) (step_or_nothing (option_map (does (g.C.Caller.calls c.args.caller.now) (world_in c.args.world.now) c.args.name) (option_copied c.args.step))) (does (g.C.Caller.calls c.args.caller.now) (world_in c.args.world.now) c.args.name c.args.body.now) c.args.locals.now c.args.left }

pub loops-turn-requires : goal.loops-turn-requires
loops-turn-requires g t c κs within =
    let few = c.loop-end.invariant.fewer in
    (falls (4 * (act_size c.args.body.now + or_zero (option_map act_size (option_copied c.args.step))) + 5) t (4 * (act_size c.args.body.now + or_zero (option_map act_size (option_copied c.args.step))) + 6) (omega arith) c.decreases, (search rules, (c.requires.may, (moved c.requires.typed c.loop-end.locals (c.loop-end.invariant.kept c.requires.typed.scope.locals c.requires.typed.stands.kept), omega (arith, few, c.requires.few)))))

pub loops-returns-in_err-end : goal.loops-returns-in_err-end
loops-returns-in_err-end g t c =
    let p = err_from_is_err_and c.from_residual.result c.from_residual.ensures.1 in
    rw (p.1, p.2) (looped_stops (test_or_always (g.C.Caller.calls c.args.caller.now) (world_in c.args.world.now) (option_copied c.args.test)) (step_or_nothing (option_map (does (g.C.Caller.calls c.args.caller.now) (world_in c.args.world.now) c.args.name) (option_copied c.args.step))) (does (g.C.Caller.calls c.args.caller.now) (world_in c.args.world.now) c.args.name c.args.body.now) c.args.locals.now c.args.left c.args.left c.loop-end.turns c.loop-end.locals c.turn.new.locals c.turn.new.locals c.loop-end.turns c.in_err-end.field-0.0 c.loop-end.invariant.so_far c.in_err-end.ensures.value)

pub loops-returns-in-Some : goal.loops-returns-in-Some
loops-returns-in-Some g t c =
    let few = c.loop-end.invariant.fewer in
    let more = c.in_ok-end.ensures.value.1 in
    (looped_ends (test_or_always (g.C.Caller.calls c.args.caller.now) (world_in c.args.world.now) (option_copied c.args.test)) (step_or_nothing (option_map (does (g.C.Caller.calls c.args.caller.now) (world_in c.args.world.now) c.args.name) (option_copied c.args.step))) (does (g.C.Caller.calls c.args.caller.now) (world_in c.args.world.now) c.args.name c.args.body.now) c.args.locals.now c.args.left c.loop-end.locals c.turn.new.locals c.loop-end.turns c.in_ok-end.l c.in_ok-end.end c.in-Some.flow c.loop-end.invariant.so_far c.in_ok-end.ensures.value.0 c.in-Some.is, omega (arith, few, more))

pub loops-loop-end-preserved : goal.loops-loop-end-preserved
loops-loop-end-preserved g t c =
    let few = c.loop-end.invariant.fewer in
    let more = c.in_ok-end.ensures.value.1 in
    record {
      fewer = omega (arith, few, more);
      kept = kept_all c.requires.typed.scope.locals c.args.locals.now c.turn.new.locals c.requires.typed.stands.kept (turn_kept (test_or_always (g.C.Caller.calls c.args.caller.now) (world_in c.args.world.now) (option_copied c.args.test)) c.args.body.now (option_copied c.args.step) c.requires.typed c.loop-end.locals c.turn.new.locals c.in_ok-end.end c.loop-end.turns c.in_ok-end.l (c.loop-end.invariant.kept c.requires.typed.scope.locals c.requires.typed.stands.kept) c.in_ok-end.ensures.value.0);
      so_far = looped_on (test_or_always (g.C.Caller.calls c.args.caller.now) (world_in c.args.world.now) (option_copied c.args.test)) (step_or_nothing (option_map (does (g.C.Caller.calls c.args.caller.now) (world_in c.args.world.now) c.args.name) (option_copied c.args.step))) (does (g.C.Caller.calls c.args.caller.now) (world_in c.args.world.now) c.args.name c.args.body.now) c.args.locals.now c.args.left c.loop-end.locals c.turn.new.locals c.loop-end.turns c.in_ok-end.l c.in_ok-end.end c.loop-end.invariant.so_far c.in_ok-end.ensures.value.0 c.in-None.is (c.in_ok-end.ensures.spent c.in-None.is);
    }

pub loops-loop-end-smaller : goal.loops-loop-end-smaller
loops-loop-end-smaller g t c =
    c.in_ok-end.ensures.spent c.in-None.is

pub repeats-loop-turn-init : goal.repeats-loop-turn-init
repeats-loop-turn-init g t c =
    record { fewer = omega arith; kept = λ shapes h. h; so_far = repeated_first c.args.count (does (g.C.Caller.calls c.args.caller.now) (world_in c.args.world.now) c.args.name c.args.body.now) c.args.locals.now c.args.left }

pub repeats-once-requires : goal.repeats-once-requires
repeats-once-requires g t c κs within =
    let few = c.loop-turn.invariant.fewer in
    (falls (4 * act_size c.args.body.now + 4) t (4 * act_size c.args.body.now + 5) (omega arith) c.decreases, (search rules, (c.requires.may, (moved c.requires.typed c.loop-turn.locals (c.loop-turn.invariant.kept c.requires.typed.scope.locals c.requires.typed.stands.kept), omega (arith, few, c.requires.few)))))

pub repeats-returns-in_err-end : goal.repeats-returns-in_err-end
repeats-returns-in_err-end g t c =
    let p = err_from_is_err_and c.from_residual.result c.from_residual.ensures.1 in
    rw (p.1, p.2) (repeated_stops c.args.count (does (g.C.Caller.calls c.args.caller.now) (world_in c.args.world.now) c.args.name c.args.body.now) c.args.locals.now c.args.left c.args.left c.loop-turn.turns c.loop-turn._turn c.loop-turn.locals c.once.new.locals c.once.new.locals c.loop-turn.turns c.in_err-end.field-0.0 c.loop-turn-test.true c.loop-turn.invariant.so_far c.in_err-end.ensures.value)

pub repeats-returns-in-Some : goal.repeats-returns-in-Some
repeats-returns-in-Some g t c =
    let few = c.loop-turn.invariant.fewer in
    let more = c.in_ok-end.ensures.value.1 in
    (repeated_ends c.args.count (does (g.C.Caller.calls c.args.caller.now) (world_in c.args.world.now) c.args.name c.args.body.now) c.args.locals.now c.args.left c.loop-turn._turn c.loop-turn.locals c.once.new.locals c.loop-turn.turns c.in_ok-end.l c.in_ok-end.end c.in-Some.flow c.loop-turn-test.true c.loop-turn.invariant.so_far c.in_ok-end.ensures.value.0 c.in-Some.is, omega (arith, few, more))

pub repeats-loop-turn-preserved : goal.repeats-loop-turn-preserved
repeats-loop-turn-preserved g t c =
    let few = c.loop-turn.invariant.fewer in
    let more = c.in_ok-end.ensures.value.1 in
    record {
      fewer = omega (arith, few, more);
      kept = kept_all c.requires.typed.scope.locals c.args.locals.now c.once.new.locals c.requires.typed.stands.kept (once_kept c.requires.typed c.args.body.now (c.requires.typed.fit 0 c.args.body.now (omega arith)) c.loop-turn.locals c.once.new.locals c.in_ok-end.end c.loop-turn.turns c.in_ok-end.l (c.loop-turn.invariant.kept c.requires.typed.scope.locals c.requires.typed.stands.kept) c.in_ok-end.ensures.value.0);
      so_far = repeated_on c.args.count (does (g.C.Caller.calls c.args.caller.now) (world_in c.args.world.now) c.args.name c.args.body.now) c.args.locals.now c.args.left c.loop-turn._turn c.loop-turn.locals c.once.new.locals c.loop-turn.turns c.in_ok-end.l c.in_ok-end.end c.loop-turn-test.true c.loop-turn.invariant.so_far c.in_ok-end.ensures.value.0 c.in-None.is;
    }

pub repeats-returns : goal.repeats-returns
repeats-returns g t c =
    (repeated_last c.args.count (does (g.C.Caller.calls c.args.caller.now) (world_in c.args.world.now) c.args.name c.args.body.now) c.args.locals.now c.args.left c.loop-turn._turn c.loop-turn.locals c.loop-turn.turns c.loop-turn-test.false c.loop-turn.invariant.so_far, c.loop-turn.invariant.fewer)

pub each-loop-k-init : goal.each-loop-k-init
each-loop-k-init g t c =
    record { fewer = omega arith; kept = λ shapes h. h; so_far = refl }

pub each-once-requires : goal.each-once-requires
each-once-requires g t c κs within =
    let few = c.loop-k.invariant.fewer in
    (falls (4 * act_size c.args.body.now + 4) t (4 * act_size c.args.body.now + 5) (omega arith) c.decreases, (search rules, (c.requires.may, (moved c.requires.typed.doable c.put.new.locals (count_kept c.requires.typed c.loop-k.locals c.put.new.locals (index_of c.args.span c.loop-k.k) (c.loop-k.invariant.kept c.requires.typed.doable.scope.locals c.requires.typed.doable.stands.kept) (c.put.ensures ∙ ap (slice_set c.loop-k.locals c.args.at) (c.in_ok-int_value.ensures ∙ ap int_value c.index.ensures))), omega (arith, few, c.requires.few)))))

pub each-returns-in_err-end : goal.each-returns-in_err-end
each-returns-in_err-end g t c =
    let p = err_from_is_err_and c.from_residual-in_err-end.result c.from_residual-in_err-end.ensures.1 in
    rw (p.1, p.2) (counted_stops c.args.span c.args.at (does (g.C.Caller.calls c.args.caller.now) (world_in c.args.world.now) c.args.name c.args.body.now) c.args.locals.now c.args.left c.args.left c.loop-k.turns c.loop-k.k c.loop-k.locals c.put.new.locals c.once.new.locals c.once.new.locals c.loop-k.turns c.in_err-end.field-0.0 c.loop-k-test.true (c.put.ensures ∙ ap (slice_set c.loop-k.locals c.args.at) (c.in_ok-int_value.ensures ∙ ap int_value c.index.ensures)) c.loop-k.invariant.so_far c.in_err-end.ensures.value)

pub each-returns-in-Some : goal.each-returns-in-Some
each-returns-in-Some g t c =
    let few = c.loop-k.invariant.fewer in
    let more = c.in_ok-end.ensures.value.1 in
    (counted_ends c.args.span c.args.at (does (g.C.Caller.calls c.args.caller.now) (world_in c.args.world.now) c.args.name c.args.body.now) c.args.locals.now c.args.left c.loop-k.k c.loop-k.locals c.put.new.locals c.once.new.locals c.loop-k.turns c.in_ok-end.l c.in_ok-end.end c.in-Some.flow c.loop-k-test.true (c.put.ensures ∙ ap (slice_set c.loop-k.locals c.args.at) (c.in_ok-int_value.ensures ∙ ap int_value c.index.ensures)) c.loop-k.invariant.so_far c.in_ok-end.ensures.value.0 c.in-Some.is, omega (arith, few, more))

pub each-loop-k-preserved : goal.each-loop-k-preserved
each-loop-k-preserved g t c =
    let few = c.loop-k.invariant.fewer in
    let more = c.in_ok-end.ensures.value.1 in
    record {
      fewer = omega (arith, few, more);
      kept = kept_all c.requires.typed.doable.scope.locals c.args.locals.now c.once.new.locals c.requires.typed.doable.stands.kept (once_kept c.requires.typed.doable c.args.body.now (c.requires.typed.doable.fit 0 c.args.body.now (omega arith)) c.put.new.locals c.once.new.locals c.in_ok-end.end c.loop-k.turns c.in_ok-end.l (count_kept c.requires.typed c.loop-k.locals c.put.new.locals (index_of c.args.span c.loop-k.k) (c.loop-k.invariant.kept c.requires.typed.doable.scope.locals c.requires.typed.doable.stands.kept) (c.put.ensures ∙ ap (slice_set c.loop-k.locals c.args.at) (c.in_ok-int_value.ensures ∙ ap int_value c.index.ensures))) c.in_ok-end.ensures.value.0);
      so_far = counted_on c.args.span c.args.at (does (g.C.Caller.calls c.args.caller.now) (world_in c.args.world.now) c.args.name c.args.body.now) c.args.locals.now c.args.left c.loop-k.k c.loop-k.locals c.put.new.locals c.once.new.locals c.loop-k.turns c.in_ok-end.l c.in_ok-end.end c.loop-k-test.true (c.put.ensures ∙ ap (slice_set c.loop-k.locals c.args.at) (c.in_ok-int_value.ensures ∙ ap int_value c.index.ensures)) c.loop-k.invariant.so_far c.in_ok-end.ensures.value.0 c.in-None.is;
    }

pub each-returns : goal.each-returns
each-returns g t c =
    (counted_last c.args.span c.args.at (does (g.C.Caller.calls c.args.caller.now) (world_in c.args.world.now) c.args.name c.args.body.now) c.args.locals.now c.args.left c.loop-k.k c.loop-k.locals c.loop-k.turns c.loop-k-test.false c.loop-k.invariant.so_far, c.loop-k.invariant.fewer)

pub case_does-does-requires : goal.case_does-does-requires
case_does-does-requires g t c κs within =
    let inside = subst (λ o. IfSome o (λ at. at < length c.args.arms.now)) c.in-Some.is c.in_ok-arm.ensures.inside in
    let size = arm_smaller c.args.arms.now c.in-Some.at (get_or c.args.arms.now c.in-Some.at c.index-arms-at.result) inside (ap (λ d. get_or c.args.arms.now c.in-Some.at d) c.index-arms-at.is) in
    let few = c.in_ok-value.ensures.1 in
    let more = c.in_ok-arm.ensures.value.1 in
    (falls (4 * act_size (get_or c.args.arms.now c.in-Some.at c.index-arms-at.result).1 + 3) t (4 * (arms_size c.args.arms.now + or_zero (option_map act_size c.args.other.now)) + 5) (omega (arith, size)) c.decreases, (search rules, (c.requires.may, (arm_act c.args.test.now c.args.arms.now c.args.other.now c.in-Some.at (get_or c.args.arms.now c.in-Some.at c.index-arms-at.result) c.requires.typed inside (ap (λ d. get_or c.args.arms.now c.in-Some.at d) c.index-arms-at.is), omega (arith, few, more, c.requires.few)))))

pub case_does-maybe_does-requires : goal.case_does-maybe_does-requires
case_does-maybe_does-requires g t c κs within =
    let few = c.in_ok-value.ensures.1 in
    let more = c.in_ok-arm.ensures.value.1 in
    (falls (4 * or_zero (option_map act_size c.args.other.now) + 4) t (4 * (arms_size c.args.arms.now + or_zero (option_map act_size c.args.other.now)) + 5) (omega arith) c.decreases, (search rules, (c.requires.may, (other_act c.args.test.now c.args.arms.now c.args.other.now c.requires.typed, omega (arith, few, more, c.requires.few)))))

pub case_does-returns-in-Some : goal.case_does-returns-in-Some
case_does-returns-in-Some g t c =
    let inside = subst (λ o. IfSome o (λ at. at < length c.args.arms.now)) c.in-Some.is c.in_ok-arm.ensures.inside in
    follows c.args.left c.in_ok-value.l _ (value_of (g.C.Caller.calls c.args.caller.now) (world_in c.args.world.now) c.args.test.now c.args.locals.now c.args.left) _ c.in_ok-value.value _ refl (ap (λ ls. value_of (g.C.Caller.calls c.args.caller.now) (world_in c.args.world.now) c.args.test.now ls c.args.left) (sym c.as_slice.ensures) ∙ c.in_ok-value.ensures.0) c.in_ok-value.ensures.1 (follows c.in_ok-value.l c.in_ok-arm.k _ (arm_at (g.C.Caller.calls c.args.caller.now) (world_in c.args.world.now) c.in_ok-value.value c.args.arms.now 0 c.args.locals.now c.in_ok-value.l) _ c.in_ok-arm.arm _ (chosen_arm (g.C.Caller.calls c.args.caller.now) (world_in c.args.world.now) c.args.name c.in_ok-value.value c.args.arms.now (or_nothing (option_map (does (g.C.Caller.calls c.args.caller.now) (world_in c.args.world.now) c.args.name) c.args.other.now)) c.args.locals.now c.in_ok-value.l) (ap (λ ls. arm_at (g.C.Caller.calls c.args.caller.now) (world_in c.args.world.now) c.in_ok-value.value c.args.arms.now 0 ls c.in_ok-value.l) (sym c.as_slice-2.ensures) ∙ c.in_ok-arm.ensures.value.0) c.in_ok-arm.ensures.value.1 (told_by c.in_ok-arm.k _ _ _ (ap {B = Timed (List Value × Flow)} (λ o. arm_does (g.C.Caller.calls c.args.caller.now) (world_in c.args.world.now) c.args.name c.args.arms.now o (or_nothing (option_map (does (g.C.Caller.calls c.args.caller.now) (world_in c.args.world.now) c.args.name) c.args.other.now)) c.args.locals.now c.in_ok-arm.k) c.in-Some.is ∙ ap {B = Timed (List Value × Flow)} (λ o. maybe_arm (g.C.Caller.calls c.args.caller.now) (world_in c.args.world.now) c.args.name o c.args.locals.now c.in_ok-arm.k) (got c.args.arms.now c.in-Some.at (get_or c.args.arms.now c.in-Some.at c.index-arms-at.result) inside (ap (λ d. get_or c.args.arms.now c.in-Some.at d) c.index-arms-at.is))) c.does.ensures))

pub case_does-returns : goal.case_does-returns
case_does-returns g t c =
    follows c.args.left c.in_ok-value.l _ (value_of (g.C.Caller.calls c.args.caller.now) (world_in c.args.world.now) c.args.test.now c.args.locals.now c.args.left) _ c.in_ok-value.value _ refl (ap (λ ls. value_of (g.C.Caller.calls c.args.caller.now) (world_in c.args.world.now) c.args.test.now ls c.args.left) (sym c.as_slice.ensures) ∙ c.in_ok-value.ensures.0) c.in_ok-value.ensures.1 (follows c.in_ok-value.l c.in_ok-arm.k _ (arm_at (g.C.Caller.calls c.args.caller.now) (world_in c.args.world.now) c.in_ok-value.value c.args.arms.now 0 c.args.locals.now c.in_ok-value.l) _ c.in_ok-arm.arm _ (chosen_arm (g.C.Caller.calls c.args.caller.now) (world_in c.args.world.now) c.args.name c.in_ok-value.value c.args.arms.now (or_nothing (option_map (does (g.C.Caller.calls c.args.caller.now) (world_in c.args.world.now) c.args.name) c.args.other.now)) c.args.locals.now c.in_ok-value.l) (ap (λ ls. arm_at (g.C.Caller.calls c.args.caller.now) (world_in c.args.world.now) c.in_ok-value.value c.args.arms.now 0 ls c.in_ok-value.l) (sym c.as_slice-2.ensures) ∙ c.in_ok-arm.ensures.value.0) c.in_ok-arm.ensures.value.1 (told_by c.in_ok-arm.k _ _ _ (ap {B = Timed (List Value × Flow)} (λ o. arm_does (g.C.Caller.calls c.args.caller.now) (world_in c.args.world.now) c.args.name c.args.arms.now o (or_nothing (option_map (does (g.C.Caller.calls c.args.caller.now) (world_in c.args.world.now) c.args.name) c.args.other.now)) c.args.locals.now c.in_ok-arm.k) c.in-None.is) c.maybe_does.ensures))
