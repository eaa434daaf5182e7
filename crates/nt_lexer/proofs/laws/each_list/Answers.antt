use Rattle.nt_lexer.proofs.Lists.{each}
use Rattle.nt_lexer.proofs.laws.each_list.Goals as goal

pub returns : goal.returns
returns c = λ file bytes at head last ts l. each l
