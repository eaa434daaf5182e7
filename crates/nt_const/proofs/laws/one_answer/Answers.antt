use Rattle.std.proofs.Common.{refl}
use Rattle.nt_const.proofs.Answered.{alone_one, within_one, own_one}
use Rattle.nt_const.proofs.Faults.{no_faulty}
use Rattle.nt_const.proofs.laws.one_answer.Goals as goal

pub returns : goal.returns
returns c = record {
  leaf = λ k x l m a b. alone_one a b;
  value = λ k x c v w a b. within_one a b refl;
  own = λ k x v w a b. own_one a b;
  fault = λ k x l r p a f. no_faulty a f;
}
