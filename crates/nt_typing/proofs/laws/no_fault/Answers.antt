use Rattle.nt_typing.proofs.Excluded.{no_fault_stands, no_fault, no_fault_to}
use Rattle.nt_typing.proofs.laws.no_fault.Goals as goal

pub returns : goal.returns
returns c = record {
  thing = λ s x h r p a w. no_fault_stands w a;
  leaf = λ s x l r p a w. no_fault w a;
  goes = λ s x k a r p g w. no_fault_to w g;
}
