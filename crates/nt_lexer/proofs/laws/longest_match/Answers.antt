use Rattle.nt_lexer.proofs.Whole.{by_longest}
use Rattle.nt_lexer.proofs.laws.longest_match.Goals as goal

pub returns : goal.returns
returns c = by_longest
