use Rattle.nt_semantics.proofs.Listing.{phase_listed}
use Rattle.nt_semantics.proofs.laws.phase_keeps_lists.Goals as goal

pub returns : goal.returns
returns c = phase_listed
