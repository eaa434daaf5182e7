use Rattle.std.proofs.Common.{ap, sym, ◌∙◌}
use Rattle.std.specs.List.{list_any}
use Rattle.nt_design.specs.Reads.{pick_trees, target_trees}
use Rattle.nt_design.specs.declared.target.Target.{Target}
use Rattle.nt_sensitivity.proofs.Readers.{flat_any}
use Rattle.nt_sensitivity.specs.Readers.{is_reader, picks_reader}
use Rattle.nt_sensitivity.proofs.reads.target_reads.Goals as goal

pub returns-in-Var : goal.returns-in-Var
returns-in-Var c =
    c.path_reads.ensures ∙ (ap (list_any (picks_reader c.args.object)) c.as_slice.ensures ∙ (sym (flat_any (is_reader c.args.object) pick_trees c.in-Var.path) ∙ ap (λ (t : Target). list_any (is_reader c.args.object) (target_trees t)) (sym c.in-Var.is)))

pub returns-in-Local : goal.returns-in-Local
returns-in-Local c =
    c.path_reads-in-Local.ensures ∙ (ap (list_any (picks_reader c.args.object)) c.as_slice-in-Local.ensures ∙ (sym (flat_any (is_reader c.args.object) pick_trees c.in-Local.path) ∙ ap (λ (t : Target). list_any (is_reader c.args.object) (target_trees t)) (sym c.in-Local.is)))
