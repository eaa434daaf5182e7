use Rattle.nt_typing.proofs.Least.{refuse_wrong, refuse_in, refuse_here, refuse_leaf}
use Rattle.nt_typing.proofs.laws.least_first.Goals as goal

pub returns : goal.returns
returns c = record {
  own = λ s x r p w. refuse_wrong x r p w;
  operand = λ s x r h. refuse_in x r h;
  first = λ s n x rest r h. refuse_here n x rest r h;
  leaf = λ s x r h. refuse_leaf x r h;
}
