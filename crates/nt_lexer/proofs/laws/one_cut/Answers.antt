use Rattle.nt_lexer.proofs.One.{lexes_one, stuck_one, stuck_none}
use Rattle.nt_lexer.proofs.laws.one_cut.Goals as goal

pub returns : goal.returns
returns c = record { tokens = λ a b. lexes_one a b; fault = λ a b. stuck_one a b; apart = λ a b. stuck_none a b }
