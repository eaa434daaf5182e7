use Rattle.nt_typing.proofs.Shapely.{stands_has, typed_has, goes_has}
use Rattle.nt_typing.proofs.laws.shapes_right.Goals as goal

pub returns : goal.returns
returns c = record {
  thing = λ s d x k a v g. (stands_has v g).0;
  leaf = λ s d x c a v t w. typed_has v t w;
  goes = λ s d x k a v g w. goes_has v g w;
}
