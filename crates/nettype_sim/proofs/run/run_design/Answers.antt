use Rattle.nettype_sim.proofs.Outputs.{if_err_any, not_opened}
use Rattle.nettype_sim.proofs.run.run_design.Goals as goal

pub returns-in_err-open_witness-clause-part : goal.returns-in_err-open_witness-clause-part
returns-in_err-open_witness-clause-part g c =
    if_err_any _ (not_opened _ _ _ (g.W.Sink.meaning c.args.witness.now) (g.W.Sink.meaning c.open_witness.new.witness) c.in_err-open_witness.ensures.kept)
