use Rattle.std.proofs.Common.{ap, ◌∙◌}
use Rattle.nt_types.proofs.Finding.{found}
use Rattle.nt_named_types.specs.Judged.{type_look}
use Rattle.nt_named_types.proofs.view.TypeViewTypes.type_at.Goals as goal

pub returns-in-Unknown-clause-seen : goal.returns-in-Unknown-clause-seen
returns-in-Unknown-clause-seen c = ap (type_look c.args.self.now.table.now) (found c.in-Unknown.ensures)

pub returns-in-Ambiguous-clause-seen : goal.returns-in-Ambiguous-clause-seen
returns-in-Ambiguous-clause-seen c = ap (type_look c.args.self.now.table.now) (found c.in-Ambiguous.ensures)

pub returns-in_ok-seen-in-One-clause-seen : goal.returns-in_ok-seen-in-One-clause-seen
returns-in_ok-seen-in-One-clause-seen c = c.in_ok-seen-in-One.ensures.seen ∙ ap (type_look c.args.self.now.table.now) (found c.in-One.ensures)
