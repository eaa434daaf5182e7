use Rattle.nt_lexer.proofs.Words.{each}
use Rattle.nt_lexer.proofs.laws.each_word.Goals as goal

pub returns : goal.returns
returns c = each
