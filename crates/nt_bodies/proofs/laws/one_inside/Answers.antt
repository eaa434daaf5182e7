use Rattle.nt_bodies.proofs.Meanings.{one, inside_is}
use Rattle.nt_bodies.proofs.laws.one_inside.Goals as goal

pub returns : goal.returns
returns c =
    record {
      one = λ s own loops path a b m n. one s own loops path a b m n;
      is = λ s own loops path. inside_is s own loops path;
    }
