use Rattle.std.proofs.Common.{arith}
use Rattle.nettype_sim.proofs.Steps.{next_evaluation, evaluated_few, few_more, evaluated_more}
use Rattle.nettype_sim.proofs.slot.evaluate_one.Goals as goal

pub apply-requires-clause-allowed : goal.apply-requires-clause-allowed
apply-requires-clause-allowed c = next_evaluation _ _ _ _ c.requires.plain_design c.requires.within c.requires.so_far

pub apply-requires-clause-few : goal.apply-requires-clause-few
apply-requires-clause-few c =
    few_more c.args.state.now (evaluated_few _ _ _ _ c.requires.design (omega (arith, c.requires.within)) c.requires.so_far)

pub returns : goal.returns
returns c =
    rw c.in_ok-push.ensures.ok (evaluated_more _ _ _ _ _ c.requires.design c.requires.plain_design c.requires.within c.requires.so_far c.in_ok-apply.ensures.step c.in_ok-apply.ensures.state c.in_ok-apply.ensures.plain)
