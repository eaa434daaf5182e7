use Rattle.std.proofs.Common.{ap, ◌∙◌, Err}
use Rattle.std.proofs.lemmas.Result.{err_from_is_err_and}
use Rattle.nt_const.proofs.Faults.{refuse_whole, no_faulty}
use Rattle.nt_const.proofs.Hiding.{hides_true, hides_false}
use Rattle.nt_const.proofs.Whole.{evaluates_err}
use Rattle.nt_const.proofs.evaluate.constant_by.Goals as goal

pub returns-then-never-clause-answer : goal.returns-then-never-clause-answer
returns-then-never-clause-answer g c = rw (c.refused.ensures, c.at.ensures) (refuse_whole _ (hides_true (g.L.Lookup.sees c.args.known.now) _ _ c.if-never.true c.in_ok-never.ensures))

pub returns-in_err-a-clause-answer : goal.returns-in_err-a-clause-answer
returns-in_err-a-clause-answer g c =
    let p = err_from_is_err_and c.from_residual-in_err-a.result c.from_residual-in_err-a.ensures.1 in
    evaluates_err (g.L.Lookup.sees c.args.known.now) _ _ _ c.in_err-a.field-0.0 (p.1 ∙ ap (λ f. Err f) p.2) (hides_false (g.L.Lookup.sees c.args.known.now) _ _ c.if-never.false c.in_ok-never.ensures) c.in_err-a.ensures

pub returns-clause-faultless : goal.returns-clause-faultless
returns-clause-faultless g c = λ r p f. no_faulty c.in_ok-a.ensures.leaf f
