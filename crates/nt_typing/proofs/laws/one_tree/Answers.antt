use Rattle.std.proofs.Common.{refl}
use Rattle.nt_typing.proofs.One.{stands_one, alone_one, typed_one, goes_one}
use Rattle.nt_typing.proofs.laws.one_tree.Goals as goal

pub returns : goal.returns
returns c = record {
  thing = λ s x g h a b. stands_one a b;
  leaf = λ s x l m a b. alone_one a b;
  tree = λ s x c a b u v. typed_one u v refl;
  goes = λ s x k a b u v. goes_one u v;
}
