use Rattle.std.proofs.Common.{rules, ◌≡◌, ◌∙◌, ap, length, refl, sym}
use Rattle.std.proofs.lemmas.Bool.{ltb-true}
use Rattle.std.proofs.lemmas.Option.{slice_get_read}
use Rattle.std.specs.Prelude.{[], Some, slice_get}
use Rattle.nt_call_show.specs.Functions.{place}
use Rattle.nt_call_show.proofs.Whole.{all_own}
use Rattle.nt_call_show.proofs.given.Goals as goal

pub may_call-requires : goal.may_call-requires
may_call-requires c =
    let found : slice_get c.args.design.now.functions c.args.number ≡ Some c.in-Some.function.now =
    ap (λ functions. slice_get functions c.args.number) (sym c.as_slice.ensures)
    ∙ slice_get_read c.as_slice.result.now (length c.as_slice.result.now) c.args.number c.in-Some.function.now refl (ltb-true _ _ (sym c.in-Some.ensures.lookup.0)) c.in-Some.ensures.lookup.1 in
    record { own = all_own [] place c.args.design.now.functions c.requires.functions c.args.number c.in-Some.function.now found }

pub call-requires-clause-may : goal.call-requires-clause-may
call-requires-clause-may c =
    let found : slice_get c.args.design.now.functions c.args.number ≡ Some c.in-Some.function.now =
    ap (λ functions. slice_get functions c.args.number) (sym c.as_slice.ensures)
    ∙ slice_get_read c.as_slice.result.now (length c.as_slice.result.now) c.args.number c.in-Some.function.now refl (ltb-true _ _ (sym c.in-Some.ensures.lookup.0)) c.in-Some.ensures.lookup.1 in
    (c.in-Some.function.now, found, search rules)
