use Rattle.nt_semantics.proofs.InActive.{only_pending}
use Rattle.nt_semantics.proofs.laws.only_pending.Goals as goal

pub returns : goal.returns
returns c = only_pending
