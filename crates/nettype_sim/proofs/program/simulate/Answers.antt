use Rattle.nettype_sim.proofs.Answered.{no_write_failed, usage_answered, run_answered}
use Rattle.nettype_sim.proofs.program.simulate.Goals as goal

pub returns-in-None-clause-complete : goal.returns-in-None-clause-complete
returns-in-None-clause-complete g c =
    λ none. usage_answered _ _ _ c.in-None.ensures.none c.tell.ensures.either (λ e. none.no_trace (c.tell.ensures.cause e))

pub returns-in-Some-clause-complete : goal.returns-in-Some-clause-complete
returns-in-Some-clause-complete g c =
    λ none. run_answered _ _ _ c.in-Some.command.file.now c.in-Some.command.top.now c.in-Some.command.until _ _ _ _ c.in-Some.ensures.found c.run_file.ensures.others c.run_file.ensures.done (λ e. (c.run_file.ensures.not_yet e).0) (λ e. none.no_read c.in-Some.command.file.now (c.run_file.ensures.read_fault e).0) (λ e. no_write_failed _ _ _ _ c.in-Some.command.file.now c.in-Some.command.top.now _ _ _ _ none (c.run_file.ensures.write_fault e))
