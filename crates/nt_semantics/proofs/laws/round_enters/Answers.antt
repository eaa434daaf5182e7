use Rattle.nt_semantics.proofs.RoundSteps.{round_enters}
use Rattle.nt_semantics.proofs.laws.round_enters.Goals as goal

pub returns : goal.returns
returns c = round_enters
