use Rattle.nt_types.proofs.Paths.{one_path}
use Rattle.nt_types.proofs.laws.one_path.Goals as goal

pub returns : goal.returns
returns c = λ s path a b m n. one_path m n
