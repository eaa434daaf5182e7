use Rattle.nettype_sim.proofs.Steps.{start_evaluated, nothing_left}
use Rattle.nettype_sim.proofs.slot.run_slot.Goals as goal

pub evaluate_all-requires-clause-so_far : goal.evaluate_all-requires-clause-so_far
evaluate_all-requires-clause-so_far c =
    rw (c.in_ok-state.ensures.start, c.new-entries.ensures) (start_evaluated c.args.design.now c.requires.design c.requires.plain_design)

pub returns-clause-complete : goal.returns-clause-complete
returns-clause-complete c = nothing_left c.args.design.now _ _ c.in_ok-resolve_all.ensures
