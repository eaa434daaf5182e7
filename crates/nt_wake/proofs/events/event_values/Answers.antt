use Rattle.std.proofs.Common.{◌∙◌}
use Rattle.std.specs.Prelude.{Err}
use Rattle.std.proofs.lemmas.Result.{err_from_is_err_and}
use Rattle.nt_values.proofs.Told.{all_done, got, item_stops, told_by}
use Rattle.nt_values.specs.Typed.{world_in}
use Rattle.nt_wake.proofs.Fused.{event_value, events_are, tree_there}
use Rattle.nt_wake.proofs.events.event_values.Goals as goal

pub value_of-requires-clause-typed : goal.value_of-requires-clause-typed
value_of-requires-clause-typed g c =
    let each = c.requires.typed.each c.loop-event.event-index c.event-item.result.1 (tree_there c.args.on.now c.loop-event.event-index c.event-item.result (got c.args.on.now c.loop-event.event-index c.event-item.result c.loop-event-test.true c.event-item.is)) in
    record { scope = c.requires.typed.scope; stands = c.requires.typed.stands; shape = each.0; is = each.1 }

pub returns-in_err-value : goal.returns-in_err-value
returns-in_err-value g c =
    let p = err_from_is_err_and c.from_residual.result c.from_residual.ensures.1 in
    rw (p.1, p.2) (told_by c.args.left _ _ (Err c.in_err-value.field-0.0) (events_are (g.C.Caller.calls c.args.caller.now) (world_in c.args.world.now) c.args.on.now c.args.locals.now c.args.left)
    (item_stops (event_value (g.C.Caller.calls c.args.caller.now) (world_in c.args.world.now)) c.args.on.now c.args.locals.now c.args.left c.args.left c.loop-event.values c.loop-event.event-index c.loop-event.turns c.event-item.result c.in_err-value.field-0.0 c.loop-event-test.true c.event-item.is c.loop-event.invariant.so_far c.in_err-value.ensures))

pub returns : goal.returns
returns g c = (
  events_are (g.C.Caller.calls c.args.caller.now) (world_in c.args.world.now) c.args.on.now c.args.locals.now c.args.left
      ∙ all_done (event_value (g.C.Caller.calls c.args.caller.now) (world_in c.args.world.now)) c.args.on.now c.args.locals.now c.args.left c.loop-event.values c.loop-event.event-index c.loop-event.turns c.loop-event-test.false c.loop-event.invariant.so_far,
  c.loop-event.invariant.fewer,
)
