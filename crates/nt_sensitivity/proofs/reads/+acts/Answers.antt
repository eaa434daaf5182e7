use Rattle.std.proofs.Common.{List, ap, sym, ◌∙◌}
use Rattle.std.specs.List.{list_any}
use Rattle.std.specs.Prelude.{◌||◌}
use Rattle.nt_value.specs.declared.kind.Edge.{Edge}
use Rattle.nt_design.specs.declared.act.Act.{Act}
use Rattle.nt_design.specs.declared.tree.Tree.{Tree}
use Rattle.nt_sensitivity.proofs.Forms.{assign_read, block_read, case_read, event_read, for_read, if_read, nonblocking_read}
use Rattle.nt_sensitivity.specs.Readers.{act_is_reader, is_reader}
use Rattle.nt_sensitivity.proofs.reads.+acts.Goals as goal

pub has_reader-returns-in-Block : goal.has_reader-returns-in-Block
has_reader-returns-in-Block t c =
    c.some_act.ensures ∙ (ap (list_any (act_is_reader c.args.object)) c.as_slice.ensures ∙ (block_read c.args.object c.in-Block.items c.in-Block.at ∙ ap (act_is_reader c.args.object) (sym c.in-Block.is)))

pub has_reader-returns-in-Assign : goal.has_reader-returns-in-Assign
has_reader-returns-in-Assign t c =
    c.either.ensures ∙ (assign_read c.args.object c.in-Assign.left c.in-Assign.right c.in-Assign.at _ _ c.target_reads.ensures c.tree_reads.ensures ∙ ap (act_is_reader c.args.object) (sym c.in-Assign.is))

pub has_reader-returns-in-Nonblocking : goal.has_reader-returns-in-Nonblocking
has_reader-returns-in-Nonblocking t c =
    c.either-in-Nonblocking.ensures ∙ (nonblocking_read c.args.object c.in-Nonblocking.left c.in-Nonblocking.right c.in-Nonblocking.at _ _ c.target_reads-in-Nonblocking.ensures c.tree_reads-in-Nonblocking.ensures ∙ ap (act_is_reader c.args.object) (sym c.in-Nonblocking.is))

pub has_reader-returns-in-If : goal.has_reader-returns-in-If
has_reader-returns-in-If t c =
    c.either-in-If.ensures ∙ (ap (λ b. c.tree_reads-in-If.result || b) c.either-branches.ensures
    ∙ (if_read c.args.object c.in-If.test c.in-If.yes c.in-If.no c.in-If.at _ _ _ c.tree_reads-in-If.ensures (c.has_reader.ensures ∙ ap (act_is_reader c.args.object) c.get.ensures) c.maybe_act.ensures ∙ ap (act_is_reader c.args.object) (sym c.in-If.is)))

pub has_reader-returns-in-Case : goal.has_reader-returns-in-Case
has_reader-returns-in-Case t c =
    c.either-in-Case.ensures ∙ (ap (λ b. b || c.either-parts.result) c.either-own.ensures ∙ (ap (λ b. (c.tree_reads-in-Case.result || c.some_item.result) || b) c.either-parts.ensures
    ∙ (case_read c.args.object c.in-Case.test c.in-Case.arms c.in-Case.other c.in-Case.at _ _ _ _ c.tree_reads-in-Case.ensures
    (c.some_item.ensures ∙ ap (list_any (λ (arm : List Tree × Act). list_any (is_reader c.args.object) arm.0)) c.as_slice-in-Case.ensures)
    (c.some_arm.ensures ∙ ap (list_any (λ (arm : List Tree × Act). act_is_reader c.args.object arm.1)) c.as_slice-in-Case-2.ensures)
    c.maybe_act-in-Case.ensures ∙ ap (act_is_reader c.args.object) (sym c.in-Case.is))))

pub has_reader-returns-in-For : goal.has_reader-returns-in-For
has_reader-returns-in-For t c =
    c.either-in-For.ensures ∙ (ap (λ b. b || c.either-parts-in-For.result) c.either-own-in-For.ensures ∙ (ap (λ b. (c.target_reads-in-For.result || b) || c.either-parts-in-For.result) c.either-tests.ensures
    ∙ (ap (λ b. (c.target_reads-in-For.result || (c.tree_reads-in-For.result || c.tree_reads-in-For-2.result)) || b) c.either-parts-in-For.ensures
    ∙ (for_read c.args.object c.in-For.fresh c.in-For.left c.in-For.first c.in-For.test c.in-For.step c.in-For.body c.in-For.at _ _ _ _ _ c.target_reads-in-For.ensures c.tree_reads-in-For.ensures c.tree_reads-in-For-2.ensures
    (c.has_reader-in-For.ensures ∙ ap (act_is_reader c.args.object) c.get-in-For.ensures) (c.has_reader-in-For-2.ensures ∙ ap (act_is_reader c.args.object) c.get-in-For-2.ensures)
    ∙ ap (act_is_reader c.args.object) (sym c.in-For.is)))))

pub has_reader-returns-in-Event : goal.has_reader-returns-in-Event
has_reader-returns-in-Event t c =
    c.either-in-Event.ensures ∙ (event_read c.args.object c.in-Event.any c.in-Event.on c.in-Event.body c.in-Event.at _ _
    (c.some_event.ensures ∙ ap (list_any (λ (e : Edge × Tree). is_reader c.args.object e.1)) c.as_slice-in-Event.ensures)
    (c.has_reader-in-Event.ensures ∙ ap (act_is_reader c.args.object) c.get-in-Event.ensures) ∙ ap (act_is_reader c.args.object) (sym c.in-Event.is))
