use Rattle.nt_forms.proofs.Finishing.{wrong_err}
use Rattle.nt_forms.proofs.Asking.{gives_at}
use Rattle.nt_forms.proofs.finish.finish.Goals as goal

pub returns-in-Err : goal.returns-in-Err
returns-in-Err c = λ s x table g stands wrong. wrong_err s x table c.in-Err.unfit c.args.at c.fault_at.result c.fault_at.ensures (gives_at table c.args.thing _ c.in-Err.is g) wrong
