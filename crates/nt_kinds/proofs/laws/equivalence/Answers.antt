use Rattle.std.proofs.Common.{refl}
use Rattle.nt_kinds.proofs.Alike.{equals_itself, back, through, one_shape}
use Rattle.nt_kinds.proofs.laws.equivalence.Goals as goal

pub returns : goal.returns
returns c =
    record {
      itself = equals_itself;
      back = λ a b e. back e;
      through = λ a b c e f. through e f;
      shape = λ a b e. one_shape a b refl refl e;
    }
