use Rattle.nt_type_trees.proofs.Joining.{told_value, told_refusal}
use Rattle.nt_type_trees.proofs.Sound.{declared_sound}
use Rattle.nt_type_trees.proofs.kinds.kind_of_declared.Goals as goal

pub returns-in-Ok : goal.returns-in-Ok
returns-in-Ok g c = let i = told_value c.in-Ok.kind c.in-Ok.is c.in_ok-kind.ensures in (i, declared_sound i)

pub returns-in-Err : goal.returns-in-Err
returns-in-Err g c = let w = told_refusal c.in-Err.refusal c.in-Err.is c.in_ok-kind.ensures in record { is = w.is; least = λ o d s f. w.least (o, d) s f }
