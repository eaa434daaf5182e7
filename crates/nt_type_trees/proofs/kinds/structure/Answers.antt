use Rattle.nt_type_trees.specs.Answers.{of_members, of_none}
use Rattle.nt_type_trees.proofs.kinds.structure.Goals as goal

pub returns-in-Err : goal.returns-in-Err
returns-in-Err c = rw c.in-Err.is (of_none c.in-Err.refusal)

pub returns-in-Ok : goal.returns-in-Ok
returns-in-Ok c = rw c.in-Ok.is (of_members c.limited.ensures)
