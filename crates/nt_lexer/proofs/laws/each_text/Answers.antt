use Rattle.nt_lexer.proofs.Says.{each}
use Rattle.nt_lexer.proofs.laws.each_text.Goals as goal

pub returns : goal.returns
returns c = each
