use Rattle.std.proofs.Common.{arith}
use Rattle.nettype_sim.proofs.Steps.{still_pending, still_few, few_more, resolved_more}
use Rattle.nettype_sim.proofs.slot.resolve_times.Goals as goal

pub apply-requires-clause-allowed : goal.apply-requires-clause-allowed
apply-requires-clause-allowed c = still_pending _ _ _ _ _ _ c.requires.plain_design c.requires.event c.loop-turn.invariant (omega arith)

pub apply-requires-clause-few : goal.apply-requires-clause-few
apply-requires-clause-few c = few_more c.loop-turn.state (still_few _ _ _ _ _ _ c.requires.few c.loop-turn.invariant)

pub loop-turn-preserved : goal.loop-turn-preserved
loop-turn-preserved c =
    resolved_more _ _ _ _ _ _ _ c.requires.plain_design c.requires.within c.requires.event c.loop-turn.invariant (omega arith) c.in_ok-apply.ensures.step c.in_ok-apply.ensures.state c.in_ok-apply.ensures.plain
