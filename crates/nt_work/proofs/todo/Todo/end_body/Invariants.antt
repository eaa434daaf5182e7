use Rattle.std.proofs.Common.{◌≡◌, length}
use Rattle.nt_semantics.specs.Statements.{after_continue}
use Rattle.nt_work.proofs.todo.Todo.end_body.Given as goal

abbrev pub invariant-loop-work : goal.invariant-loop-work
invariant-loop-work l = after_continue l.self ≡ after_continue l.initial.self

abbrev pub decreases-loop-work : goal.decreases-loop-work
decreases-loop-work l = length l.self
