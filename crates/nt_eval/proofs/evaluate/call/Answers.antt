use Rattle.std.proofs.Common.{ap, sym, ◌∙◌, subst}
use Rattle.nt_value.specs.Values.{IsValueOf}
use Rattle.nt_design.proofs.Results.{results_fit}
use Rattle.nt_design.proofs.Shaped.{some_back}
use Rattle.nt_design.specs.Fitting.{Gives}
use Rattle.nt_design.specs.Meaning.{calls_to}
use Rattle.nt_design.specs.Parts.{Value}
use Rattle.nt_design.specs.Turns.{Timed}
use Rattle.nt_design.specs.WellFormed.{MayCall}
use Rattle.nt_eval.proofs.evaluate.call.Goals as goal

pub returns-clause-shape : goal.returns-clause-shape
returns-clause-shape c f at =
    let may = c.requires.may in
    let same = some_back may.0 f (sym may.1 ∙ at) in
    subst (λ (m : Timed Value). Gives m (IsValueOf f.result)) (ap (λ fs. calls_to fs 65536 c.args.function c.args.args 65536) (sym c.as_slice-functions.ensures) ∙ c.in_ok-value.ensures.0)
    (results_fit c.args.design.now c.requires.design 65536 c.args.function f c.args.args 65536 at (subst (λ f. MayCall f c.args.args) same may.2))
