use Rattle.std.proofs.Common.{sym, ◌∙◌, arith}
use Rattle.std.proofs.lemmas.Result.{err_from_is_err_and}
use Rattle.nt_value.specs.Values.{shape_of}
use Rattle.nt_design.specs.Expressions.{value_of}
use Rattle.nt_values.proofs.Told.{got}
use Rattle.nt_values.specs.Typed.{world_in}
use Rattle.nt_acts.proofs.Chosen.{among_end, among_found, among_on, among_stops, item_like}
use Rattle.nt_acts.proofs.cases.is_among.Goals as goal

pub value_of-requires-clause-typed : goal.value_of-requires-clause-typed
value_of-requires-clause-typed g c =
    record {
      scope = c.requires.typed.scope;
      stands = c.requires.typed.stands;
      shape = shape_of c.args.test.now;
      is = c.requires.typed.same c.loop-item.item-index c.item-item.result (got c.args.items.now c.loop-item.item-index c.item-item.result c.loop-item-test.true c.item-item.is);
    }

pub returns-in_err-value : goal.returns-in_err-value
returns-in_err-value g c =
    let p = err_from_is_err_and c.from_residual.result c.from_residual.ensures.1 in
    rw (p.1, p.2) (among_stops (value_of (g.C.Caller.calls c.args.caller.now) (world_in c.args.world.now)) c.args.test.now c.args.items.now c.args.locals.now c.args.left c.args.left c.loop-item.item-index c.loop-item.turns c.item-item.result c.in_err-value.field-0.0 c.loop-item-test.true c.item-item.is c.loop-item.invariant.so_far c.in_err-value.ensures)

pub is_same_value-requires : goal.is_same_value-requires
is_same_value-requires g c together =
    item_like c.requires.typed.scope c.requires.typed.stands c.args.test.now c.in_ok-value.value c.item-item.result c.loop-item.turns c.in_ok-value.l
    (c.requires.typed.same c.loop-item.item-index c.item-item.result (got c.args.items.now c.loop-item.item-index c.item-item.result c.loop-item-test.true c.item-item.is)) c.in_ok-value.ensures.0

pub returns-then-is_same_value : goal.returns-then-is_same_value
returns-then-is_same_value g c =
    let few = c.loop-item.invariant.fewer in
    let more = c.in_ok-value.ensures.1 in
    (among_found (value_of (g.C.Caller.calls c.args.caller.now) (world_in c.args.world.now)) c.args.test.now c.args.items.now c.args.locals.now c.args.left c.loop-item.item-index c.loop-item.turns c.item-item.result c.in_ok-value.value c.in_ok-value.l c.loop-item-test.true c.item-item.is c.loop-item.invariant.so_far c.in_ok-value.ensures.0 (sym c.is_same_value.ensures ∙ c.if-is_same_value.true), omega (arith, few, more))

pub loop-item-preserved : goal.loop-item-preserved
loop-item-preserved g c =
    let few = c.loop-item.invariant.fewer in
    let more = c.in_ok-value.ensures.1 in
    record {
      fewer = omega (arith, few, more);
      so_far = among_on (value_of (g.C.Caller.calls c.args.caller.now) (world_in c.args.world.now)) c.args.test.now c.args.items.now c.args.locals.now c.args.left c.loop-item.item-index c.loop-item.turns c.item-item.result c.in_ok-value.value c.in_ok-value.l c.loop-item-test.true c.item-item.is c.loop-item.invariant.so_far c.in_ok-value.ensures.0 (sym c.is_same_value.ensures ∙ c.if-is_same_value.false);
    }

pub returns : goal.returns
returns g c = (among_end (value_of (g.C.Caller.calls c.args.caller.now) (world_in c.args.world.now)) c.args.test.now c.args.items.now c.args.locals.now c.args.left c.loop-item.item-index c.loop-item.turns c.loop-item-test.false c.loop-item.invariant.so_far, c.loop-item.invariant.fewer)
