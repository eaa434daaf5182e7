use Rattle.std.proofs.Common.{refl, subst}
use Rattle.std.specs.Prelude.{option_copied, option_to_list}
use Rattle.nt_values.specs.Typed.{AllTyped, world_in}
use Rattle.nt_acts.proofs.plain.goes_on.Goals as goal

pub value_of-requires-clause-typed : goal.value_of-requires-clause-typed
value_of-requires-clause-typed g c =
    let all = subst (λ o. AllTyped (g.C.Caller.signatures c.args.caller.now) (g.C.Caller.calls c.args.caller.now) (world_in c.args.world.now) c.args.locals.now (option_to_list (option_copied o))) c.in-Some.is c.requires.typed in
    let each = all.each 0 c.in-Some.test.now refl in
    record { scope = all.scope; stands = all.stands; shape = each.0; is = each.1 }
