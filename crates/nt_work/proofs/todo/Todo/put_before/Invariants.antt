use Rattle.std.proofs.Common.{◌≡◌, ◌++◌, length, reverse}
use Rattle.nt_work.proofs.todo.Todo.put_before.Given as goal

abbrev pub invariant-loop-last : goal.invariant-loop-last
invariant-loop-last l = l.left ++ reverse l.self-inside.items ≡ l.initial.left ++ reverse l.initial.self-inside.items

abbrev pub decreases-loop-last : goal.decreases-loop-last
decreases-loop-last l = length l.left
