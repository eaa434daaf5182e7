use Rattle.std.proofs.Common.{ap}
use Rattle.nt_design.proofs.Frame.{frame}
use Rattle.nt_design.proofs.laws.reads_decide.Goals as goal

pub returns : goal.returns
returns c passes calls a b tree locals left alike only = ap (λ m. m locals left) (frame passes calls a b alike tree only)
