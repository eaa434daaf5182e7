use Rattle.std.proofs.Common.{refl}
use Rattle.nettype_sim.proofs.Outputs.{if_err_any, not_opened}
use Rattle.nettype_sim.proofs.program.run_named.Goals as goal

pub returns-in_err-path-clause-part : goal.returns-in_err-path-clause-part
returns-in_err-path-clause-part g c =
    if_err_any _ (not_opened _ _ _ (g.W.Sink.meaning c.args.witness.now) (g.W.Sink.meaning c.args.witness.now) refl)
