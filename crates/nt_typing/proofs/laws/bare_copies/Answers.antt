use Rattle.nt_typing.proofs.Bare.{copied, summed}
use Rattle.nt_typing.proofs.laws.bare_copies.Goals as goal

pub returns : goal.returns
returns c = record {
  copied = λ s x j k a l g e f. copied x g e f;
  summed = λ s at x y i j k a b l g h e f n. summed at x y g h e f n;
}
