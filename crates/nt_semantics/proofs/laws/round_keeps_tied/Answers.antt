use Rattle.nt_semantics.proofs.Tying.{round_tied}
use Rattle.nt_semantics.proofs.laws.round_keeps_tied.Goals as goal

pub returns : goal.returns
returns c = round_tied
