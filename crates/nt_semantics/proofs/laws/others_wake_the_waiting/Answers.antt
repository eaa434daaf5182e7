use Rattle.nt_semantics.proofs.Waking.{others_stand}
use Rattle.nt_semantics.proofs.laws.others_wake_the_waiting.Goals as goal

pub returns : goal.returns
returns c = others_stand
