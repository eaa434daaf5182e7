use Rattle.std.proofs.Common.{List, ap, sym, ◌∙◌}
use Rattle.std.specs.List.{list_any}
use Rattle.nt_design.specs.Reads.{reads_of}
use Rattle.nt_design.specs.declared.tree.Tree.{Tree}
use Rattle.nt_semantics.specs.Same.{is_one_of}
use Rattle.nt_design.specs.declared.object.Object.{Object}
use Rattle.nt_sensitivity.proofs.Forms.{call_reads, concat_reads, gather_reads}
use Rattle.nt_sensitivity.proofs.Readers.{read_trees}
use Rattle.nt_sensitivity.specs.Readers.{is_reader}
use Rattle.nt_sensitivity.proofs.reads.+trees.Goals as goal

pub tree_reads-returns-in-Concat : goal.tree_reads-returns-in-Concat
tree_reads-returns-in-Concat t c =
    c.some_reads.ensures ∙ (ap (list_any (is_reader c.args.object)) c.as_slice.ensures ∙ (sym (read_trees c.args.object c.in-Concat.parts) ∙ (ap (λ (objects : List Object). is_one_of objects c.args.object) (sym (concat_reads c.in-Concat.parts)) ∙ ap (λ (t : Tree). is_one_of (reads_of t) c.args.object) (sym c.in-Concat.is))))

pub tree_reads-returns-in-Gather : goal.tree_reads-returns-in-Gather
tree_reads-returns-in-Gather t c =
    c.some_reads-in-Gather.ensures ∙ (ap (list_any (is_reader c.args.object)) c.as_slice-in-Gather.ensures ∙ (sym (read_trees c.args.object c.in-Gather.parts) ∙ (ap (λ (objects : List Object). is_one_of objects c.args.object) (sym (gather_reads c.in-Gather.parts)) ∙ ap (λ (t : Tree). is_one_of (reads_of t) c.args.object) (sym c.in-Gather.is))))

pub tree_reads-returns-in-Call : goal.tree_reads-returns-in-Call
tree_reads-returns-in-Call t c =
    c.some_reads-in-Call.ensures ∙ (ap (list_any (is_reader c.args.object)) c.as_slice-in-Call.ensures ∙ (sym (read_trees c.args.object c.in-Call.args) ∙ (ap (λ (objects : List Object). is_one_of objects c.args.object) (sym (call_reads c.in-Call.function c.in-Call.args)) ∙ ap (λ (t : Tree). is_one_of (reads_of t) c.args.object) (sym c.in-Call.is))))
