use Rattle.std.proofs.Common.{[], map, ap, sym, ◌∙◌, subst}
use Rattle.std.specs.Prelude.{get_or, option_map}
use Rattle.nt_value.specs.Values.{shape_of}
use Rattle.nt_design.proofs.Frame.{three}
use Rattle.nt_design.proofs.Results.{meaning_has}
use Rattle.nt_design.specs.Expressions.{World, value_of}
use Rattle.nt_design.specs.Meaning.{calls_to}
use Rattle.nt_design.specs.WellFormed.{signature_of}
use Rattle.nt_values.specs.Tells.{Tells}
use Rattle.nt_values.specs.Typed.{Typed}
use Rattle.nt_eval.specs.Callable.{MayRun}
use Rattle.nt_eval.proofs.Bodies.{env_typed, may_run, world_is}
use Rattle.nt_eval.proofs.evaluate.meaning.Goals as goal

pub value_of-requires-clause-may : goal.value_of-requires-clause-may
value_of-requires-clause-may c =
    record {
      callable = λ alloc fs f args left same call few. (
        (c.args.design.now, c.requires.design, same ∙ c.as_slice-5.ensures),
        (subst (λ fs. MayRun fs f args) (sym same) (may_run c.as_slice-5.result.now f args call), few),
      );
      tells = λ alloc fs f args left r same post. subst (λ fs. Tells left (calls_to fs 65536 f args left) r) same post.2;
    }

pub value_of-requires-clause-typed : goal.value_of-requires-clause-typed
value_of-requires-clause-typed c =
    rw (c.as_slice-5.ensures, c.as_slice-locals.ensures)
    (subst (λ (w : World). Typed (map signature_of c.args.design.now.functions) (calls_to c.args.design.now.functions 65536) w c.args.env.now.locals c.args.tree.now)
    (sym (world_is c.args.env.now c.as_slice-2.result.now c.as_slice-3.result.now c.as_slice-4.result.now c.in_ok-element.element c.as_slice-2.ensures c.as_slice-3.ensures c.as_slice-4.ensures (c.in_ok-element.ensures ∙ ap (λ vs. shape_of (get_or vs 0 [])) c.as_slice.ensures)))
    (env_typed c.args.design.now c.requires.design c.args.env.now c.args.tree.now c.requires.fits))

pub returns-clause-shape : goal.returns-clause-shape
returns-clause-shape c shape is =
    meaning_has c.args.design.now c.requires.design c.args.env.now c.args.tree.now c.requires.fits shape is c.in_ok-value.value
    (ap (λ m. option_map (λ p. p.0) m)
    (three (λ fs (w : World) ls. value_of (calls_to fs 65536) w c.args.tree.now ls 65536) (sym c.as_slice-5.ensures)
    (sym (world_is c.args.env.now c.as_slice-2.result.now c.as_slice-3.result.now c.as_slice-4.result.now c.in_ok-element.element c.as_slice-2.ensures c.as_slice-3.ensures c.as_slice-4.ensures (c.in_ok-element.ensures ∙ ap (λ vs. shape_of (get_or vs 0 [])) c.as_slice.ensures)))
    (sym c.as_slice-locals.ensures)
    ∙ c.in_ok-value.ensures.0))
