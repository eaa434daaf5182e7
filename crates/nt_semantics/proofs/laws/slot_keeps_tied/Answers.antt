use Rattle.nt_semantics.proofs.Tying.{slot_tied}
use Rattle.nt_semantics.proofs.laws.slot_keeps_tied.Goals as goal

pub returns : goal.returns
returns c = slot_tied
