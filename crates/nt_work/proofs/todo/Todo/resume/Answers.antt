use Rattle.std.proofs.Common.{List, ap, drop, sym, ◌∙◌}
use Rattle.nt_semantics.specs.Statements.{after_continue}
use Rattle.nt_semantics.specs.declared.work.Work.{Work}
use Rattle.nt_work.proofs.Stacks.{break_is}
use Rattle.nt_work.proofs.todo.Todo.resume.Goals as goal

pub returns-in-Break : goal.returns-in-Break
returns-in-Break c first rest is =
    rw c.in-Break.is (c.drop_first-in-Break-2.ensures ∙ (ap (λ (l : List Work). drop 1 l) (c.end_body.ensures ∙ ap after_continue (c.drop_first-in-Break.ensures ∙ ap (λ (l : List Work). drop 1 l) is)) ∙ sym (break_is rest)))
