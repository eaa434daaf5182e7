use Rattle.nt_value.proofs.Returns.{resize_holds}
use Rattle.nt_value.proofs.laws.resize_returns.Goals as goal

pub returns : goal.returns
returns c = resize_holds
