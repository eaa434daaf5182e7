use Rattle.nt_small.proofs.Tokens.{one_source}
use Rattle.nt_small.proofs.text.says_one.Goals as goal

pub returns : goal.returns
returns c = one_source
