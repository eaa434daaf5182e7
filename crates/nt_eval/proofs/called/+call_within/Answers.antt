use Rattle.std.proofs.Common.{◌-◌, [], map, ap, sym, ◌∙◌, subst, arith}
use Rattle.std.specs.Prelude.{Some}
use Rattle.std.proofs.lemmas.Option.{get_or_from_slice_get}
use Rattle.nt_design.specs.Meaning.{calls_to, entry_of, name_of, own_world}
use Rattle.nt_design.specs.WellFormed.{signature_of}
use Rattle.nt_values.proofs.Told.{more_turns, told_by}
use Rattle.nt_acts.proofs.Inner.{there}
use Rattle.nt_acts.specs.Doable.{Doable}
use Rattle.nt_values.specs.Tells.{Tells}
use Rattle.nt_eval.specs.Callable.{MayRun}
use Rattle.nt_eval.proofs.Bodies.{body_doable, call_none, call_some, falls, may_run}
use Rattle.nt_eval.proofs.called.+call_within.Goals as goal

pub returns-then-left-eq0 : goal.returns-then-left-eq0
returns-then-left-eq0 t c = call_none c.args.functions.now c.args.most c.args.function c.args.args c.args.left c.if-left-eq0.true

pub bounds-functions-function : goal.bounds-functions-function
bounds-functions-function t c = there c.args.functions.now c.args.function c.requires.call.0 c.requires.call.1

pub run-requires-clause-may : goal.run-requires-clause-may
run-requires-clause-may t c =
    record {
      callable = λ alloc fs f args left same call few. (
        falls c.args.most t c.args.left c.decreases c.requires.few c.if-left-eq0.false,
        (
          (c.requires.design.0, c.requires.design.1, same ∙ c.requires.design.2),
          (subst (λ fs. MayRun fs f args) (sym same) (may_run c.args.functions.now f args call), few),
        ),
      );
      tells = λ alloc fs f args left r same post. subst (λ fs. Tells left (calls_to fs (c.args.most - 1) f args left) r) same post.2;
    }

pub run-requires-clause-typed : goal.run-requires-clause-typed
run-requires-clause-typed t c =
    let same = c.index-functions-function.is ∙ get_or_from_slice_get c.args.functions.now c.args.function c.requires.call.0 c.index-functions-function.result c.requires.call.1 in
    subst (λ f. Doable (map signature_of c.args.functions.now) (calls_to c.args.functions.now (c.args.most - 1)) (own_world f c.args.args) (name_of f) (entry_of f c.args.args) [] f.body) (sym same)
    (body_doable c.args.functions.now c.requires.design (c.args.most - 1) c.args.function c.args.args c.requires.call)

pub returns : goal.returns
returns t c =
    let same = c.index-functions-function.is ∙ get_or_from_slice_get c.args.functions.now c.args.function c.requires.call.0 c.index-functions-function.result c.requires.call.1 in
    told_by c.args.left _ _ _ (call_some c.args.functions.now c.args.most c.args.function c.index-functions-function.result c.args.args c.args.left (c.requires.call.1 ∙ ap Some (sym same)) c.requires.few c.if-left-eq0.false)
    (more_turns (c.args.left - 1) c.args.left _ _ (omega arith) c.run.ensures)
