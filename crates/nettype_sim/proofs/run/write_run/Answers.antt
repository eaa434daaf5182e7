use Rattle.nettype_sim.proofs.Outputs.{if_err_any, cut_in_head, cut_behind_head, cut_in_entries, cut_in_trace, cut_in_end, ran_whole}
use Rattle.nettype_sim.proofs.run.write_run.Goals as goal

pub returns-in_err-put-clause-part : goal.returns-in_err-put-clause-part
returns-in_err-put-clause-part g c = if_err_any _ (cut_in_head _ _ _ _ _ c.in_err-put.ensures.front)

pub returns-in_err-entries-clause-part : goal.returns-in_err-entries-clause-part
returns-in_err-entries-clause-part g c = if_err_any _ (cut_behind_head _ _ _ _ _ c.in_ok-put.ensures.all)

pub returns-in_err-write_entries-clause-part : goal.returns-in_err-write_entries-clause-part
returns-in_err-write_entries-clause-part g c =
    if_err_any _ (cut_in_entries c.args.until _ _ _ _ _ _ _ (c.in_ok-entries.ensures.execution c.args.until) c.in_ok-entries.ensures.written c.in_ok-put.ensures.all c.in_err-write_entries.ensures.part)

pub returns-in_err-write_trace-clause-part : goal.returns-in_err-write_trace-clause-part
returns-in_err-write_trace-clause-part g c =
    if_err_any _ (cut_in_trace c.args.until _ _ _ (c.in_ok-entries.ensures.execution c.args.until) c.in_ok-entries.ensures.written c.requires.plain_design c.in_ok-entries.ensures.plain (c.in_ok-entries.ensures.complete c.args.until) _ _ _ _ _ c.in_ok-put.ensures.all c.in_ok-write_entries.ensures.all c.in_err-write_trace.ensures.part)

pub returns-in_err-put-2-clause-part : goal.returns-in_err-put-2-clause-part
returns-in_err-put-2-clause-part g c =
    if_err_any _ (cut_in_end c.args.until _ _ _ (c.in_ok-entries.ensures.execution c.args.until) c.in_ok-entries.ensures.written c.requires.plain_design c.in_ok-entries.ensures.plain (c.in_ok-entries.ensures.complete c.args.until) _ _ _ _ _ _ c.in_ok-put.ensures.all c.in_ok-write_entries.ensures.all c.in_ok-write_trace.ensures.all c.in_err-put-2.ensures.front)

pub returns-clause-whole : goal.returns-clause-whole
returns-clause-whole g c =
    ran_whole c.args.until _ _ _ (c.in_ok-entries.ensures.execution c.args.until) c.in_ok-entries.ensures.written c.requires.plain_design c.in_ok-entries.ensures.plain (c.in_ok-entries.ensures.complete c.args.until) _ _ _ _ _ _ c.in_ok-put.ensures.all c.in_ok-write_entries.ensures.all c.in_ok-write_trace.ensures.all c.in_ok-put-2.ensures.all
