use Rattle.nt_design.proofs.Results.{results_fit}
use Rattle.nt_design.proofs.laws.results_fit.Goals as goal

pub returns : goal.returns
returns c d depth f function args left design at may = results_fit d design depth f function args left at may
