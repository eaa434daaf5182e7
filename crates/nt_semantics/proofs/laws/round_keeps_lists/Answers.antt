use Rattle.nt_semantics.proofs.Rounding.{round_listed}
use Rattle.nt_semantics.proofs.laws.round_keeps_lists.Goals as goal

pub returns : goal.returns
returns c = round_listed
