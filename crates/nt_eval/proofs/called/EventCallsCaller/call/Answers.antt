use Rattle.nt_eval.proofs.Bodies.{may_run}
use Rattle.nt_eval.proofs.called.EventCallsCaller.call.Goals as goal

pub call_within-requires-clause-call : goal.call_within-requires-clause-call
call_within-requires-clause-call c = may_run c.args.self.now.functions.now c.args.function c.args.args c.requires.args
