use Rattle.std.proofs.Common.{[], ap, sym, ◌∙◌, subst}
use Rattle.std.specs.Prelude.{slice_set}
use Rattle.std.proofs.lemmas.Option.{get_or_from_slice_get}
use Rattle.nt_design.specs.Parts.{written}
use Rattle.nt_parts.specs.Steps.{IsWrite, steps_at}
use Rattle.nt_acts.proofs.Locals.{set_none}
use Rattle.nt_acts.proofs.forms.write.Goals as goal

pub returns-in-None : goal.returns-in-None
returns-in-None c = set_none c.args.locals.now c.args.at _ (sym c.in-None.ensures.value)

pub written-requires : goal.written-requires
written-requires c =
    subst (λ old. IsWrite c.args.steps.now c.args.value old) (get_or_from_slice_get c.args.locals.now c.args.at c.in-Some.old.now [] (sym c.in-Some.ensures.value)) c.requires

pub returns : goal.returns
returns c =
    c.put-2.ensures
    ∙ ap (slice_set c.args.locals.now c.args.at)
    (c.in_ok-new-in-Some.ensures ∙ ap (λ old. written (steps_at c.args.steps.now) c.args.value old) (sym (get_or_from_slice_get c.args.locals.now c.args.at c.in-Some.old.now [] (sym c.in-Some.ensures.value))))
