use Rattle.nt_semantics.proofs.Showing.{round_shows}
use Rattle.nt_semantics.proofs.laws.round_shows.Goals as goal

pub returns : goal.returns
returns c = round_shows
