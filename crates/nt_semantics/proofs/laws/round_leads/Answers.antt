use Rattle.nt_semantics.proofs.RoundSteps.{round_leads}
use Rattle.nt_semantics.proofs.laws.round_leads.Goals as goal

pub returns : goal.returns
returns c = round_leads
