use Rattle.std.proofs.Common.{◌∙◌}
use Rattle.nt_semantics.specs.Execution.{observation_of}
use Rattle.nettype_sim.proofs.Outputs.{if_err_any, trace_written, trace_cut_in_slot, trace_cut_in_end}
use Rattle.nettype_sim.proofs.run.write_trace.Goals as goal

pub returns-in_err-put-clause-part : goal.returns-in_err-put-clause-part
returns-in_err-put-clause-part g c =
    if_err_any _ (trace_cut_in_slot c.args.until c.args.design.now (observation_of c.args.state.now) _ _ c.items.result.now (c.items.ensures ∙ c.in_ok-slot.ensures) c.in_err-put.ensures.front)

pub returns-in_err-put-2-clause-part : goal.returns-in_err-put-2-clause-part
returns-in_err-put-2-clause-part g c =
    if_err_any _ (trace_cut_in_end c.args.until c.args.design.now (observation_of c.args.state.now) _ _ _ c.items.result.now c.items-2.result.now (c.items.ensures ∙ c.in_ok-slot.ensures) (c.items-2.ensures ∙ c.in_ok-end.ensures) c.in_ok-put.ensures.all c.in_err-put-2.ensures.front)

pub returns-clause-all : goal.returns-clause-all
returns-clause-all g c =
    trace_written c.args.until c.args.design.now (observation_of c.args.state.now) _ _ _ c.items.result.now c.items-2.result.now (c.items.ensures ∙ c.in_ok-slot.ensures) (c.items-2.ensures ∙ c.in_ok-end.ensures) c.in_ok-put.ensures.all c.in_ok-put-2.ensures.all
