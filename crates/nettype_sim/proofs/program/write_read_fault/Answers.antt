use Rattle.std.proofs.Common.{codes}
use Rattle.nettype_sim.proofs.Outputs.{if_err_any, three_cut_first, three_cut_second, three_cut_third, three_written}
use Rattle.nettype_sim.proofs.program.write_read_fault.Goals as goal

pub returns-in_err-put-clause-part : goal.returns-in_err-put-clause-part
returns-in_err-put-clause-part g c =
    if_err_any _ (three_cut_first _ _ (codes "read fault ") c.args.file.now (codes "\n") c.in_err-put.ensures.front)

pub returns-in_err-put-2-clause-part : goal.returns-in_err-put-2-clause-part
returns-in_err-put-2-clause-part g c =
    if_err_any _ (three_cut_second _ _ _ (codes "read fault ") c.args.file.now (codes "\n") c.in_ok-put.ensures.all (rw c.as_bytes.ensures.value at c.in_err-put-2.ensures.front))

pub returns-in_err-put-3-clause-part : goal.returns-in_err-put-3-clause-part
returns-in_err-put-3-clause-part g c =
    if_err_any _ (three_cut_third _ _ _ _ (codes "read fault ") c.args.file.now (codes "\n") c.in_ok-put.ensures.all (rw c.as_bytes.ensures.value at c.in_ok-put-2.ensures.all) c.in_err-put-3.ensures.front)

pub returns-clause-all : goal.returns-clause-all
returns-clause-all g c =
    three_written _ _ _ _ (codes "read fault ") c.args.file.now (codes "\n") c.in_ok-put.ensures.all (rw c.as_bytes.ensures.value at c.in_ok-put-2.ensures.all) c.in_ok-put-3.ensures.all
