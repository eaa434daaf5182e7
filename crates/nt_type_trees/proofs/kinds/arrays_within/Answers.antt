use Rattle.nt_type_trees.specs.Answers.{of_both, of_fault}
use Rattle.nt_type_trees.proofs.kinds.arrays_within.Goals as goal

pub returns-in-Err : goal.returns-in-Err
returns-in-Err c = rw c.in-Err.is (of_fault c.in-Err.refusal)

pub returns-in_ok-kind-in-Ok : goal.returns-in_ok-kind-in-Ok
returns-in_ok-kind-in-Ok c = rw c.in-Ok.is (of_both (rw c.as_slice.ensures at c.in_ok-kind-in-Ok.ensures))
