use Rattle.nt_drafts.proofs.Become.{become}
use Rattle.nt_drafts.proofs.laws.drafts_become.Goals as goal

pub returns : goal.returns
returns c = become
