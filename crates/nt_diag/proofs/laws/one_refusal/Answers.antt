use Rattle.nt_diag.proofs.Orders.{one_refusal_holds}
use Rattle.nt_diag.proofs.laws.one_refusal.Goals as goal

pub returns : goal.returns
returns c = one_refusal_holds
