use Rattle.std.proofs.Common.{Err, ap, sym, subst, ◌∙◌}
use Rattle.std.proofs.lemmas.Result.{err_from_is_err_and}
use Rattle.nt_diag.specs.declared.rule.Rule.TheVariants as rule
use Rattle.nt_design.specs.declared.target.Target.TheVariants as target
use Rattle.nt_design.specs.declared.tree.Tree.TheOpen.{Tree-F}
use Rattle.nt_typed_stmts.specs.Lefts as l
use Rattle.nt_typed_stmts.specs.Lefts.{Reaches, Misled}
use Rattle.nt_stmt_parts.specs.Parts.{Leads}
use Rattle.nt_stmt_parts.proofs.Leading.{at_const, at_read, at_local, at_leaves, at_item, at_element, at_part, at_unary, at_binary, at_choose, at_concat, at_gather, at_resize, at_call, at_size, at_time, leaves_to, item_to, part_to, leaves_err, item_err, part_err, leads_back, leads_was}
use Rattle.nt_stmt_parts.proofs.lefts.+reached.Goals as goal

pub returns-in-Const : goal.returns-in-Const
returns-in-Const t c = at_const (λ n. Misled n rule.T8) _ _ c.in-Const.ensures (l.constant _)

pub returns-in-Element : goal.returns-in-Element
returns-in-Element t c = at_element (λ n. Misled n rule.T8) _ _ c.in-Element.ensures (l.element _)

pub returns-in-Unary : goal.returns-in-Unary
returns-in-Unary t c = at_unary (λ n. Misled n rule.T8) _ _ _ c.in-Unary.ensures (l.unary _ _)

pub returns-in-Binary : goal.returns-in-Binary
returns-in-Binary t c = at_binary (λ n. Misled n rule.T8) _ _ _ _ c.in-Binary.ensures (l.binary _ _ _)

pub returns-in-Choose : goal.returns-in-Choose
returns-in-Choose t c = at_choose (λ n. Misled n rule.T8) _ _ _ _ c.in-Choose.ensures (l.choice _ _ _)

pub returns-in-Concat : goal.returns-in-Concat
returns-in-Concat t c = at_concat (λ n. Misled n rule.T8) _ _ c.in-Concat.ensures (l.concat _)

pub returns-in-Gather : goal.returns-in-Gather
returns-in-Gather t c = at_gather (λ n. Misled n rule.T8) _ _ c.in-Gather.ensures (l.gather _)

pub returns-in-Resize : goal.returns-in-Resize
returns-in-Resize t c = at_resize (λ n. Misled n rule.T8) _ _ _ c.in-Resize.ensures (l.resize _ _)

pub returns-in-Call : goal.returns-in-Call
returns-in-Call t c = at_call (λ n. Misled n rule.T8) _ _ _ c.in-Call.ensures (l.call _ _)

pub returns-in-Size : goal.returns-in-Size
returns-in-Size t c = at_size (λ n. Misled n rule.T8) _ c.in-Size.ensures l.size

pub returns : goal.returns
returns t c = at_time (λ n. Misled n rule.T8) _ c.in-Time.ensures l.time

pub returns-in-Read : goal.returns-in-Read
returns-in-Read t c = at_read (λ n. Leads n c.variable_of.result) _ _ c.in-Read.ensures c.variable_of.ensures

pub returns-in-Local : goal.returns-in-Local
returns-in-Local t c =
    at_local (λ n. Reaches n (target.Local c.in-Local.local c.new.result)) _ _ c.in-Local.ensures
    (subst (λ p. Reaches (Tree-F.Local c.in-Local.local) (target.Local c.in-Local.local p)) (sym c.new.ensures) (l.own _))

pub returns-in_err-target-in-Leaves : goal.returns-in_err-target-in-Leaves
returns-in_err-target-in-Leaves t c =
    let p = err_from_is_err_and c.from_residual.result c.from_residual.ensures.1 in
    at_leaves (λ n. Leads n c.from_residual.result) _ _ _ _ c.in-Leaves.ensures (leads_back _ _ _ (p.1 ∙ ap (λ f. Err f) p.2) (leaves_err _ _ _ _ (leads_was _ _ _ c.in_err-target-in-Leaves.was c.reached.ensures)))

pub returns-in_err-target-in-Item : goal.returns-in_err-target-in-Item
returns-in_err-target-in-Item t c =
    let p = err_from_is_err_and c.from_residual-in_err-target-in-Item.result c.from_residual-in_err-target-in-Item.ensures.1 in
    at_item (λ n. Leads n c.from_residual-in_err-target-in-Item.result) _ _ _ _ _ _ c.in-Item.ensures (leads_back _ _ _ (p.1 ∙ ap (λ f. Err f) p.2) (item_err _ _ _ _ _ _ (leads_was _ _ _ c.in_err-target-in-Item.was c.reached-in-Item.ensures)))

pub returns-in_err-target-in-Part : goal.returns-in_err-target-in-Part
returns-in_err-target-in-Part t c =
    let p = err_from_is_err_and c.from_residual-in_err-target-in-Part.result c.from_residual-in_err-target-in-Part.ensures.1 in
    at_part (λ n. Leads n c.from_residual-in_err-target-in-Part.result) _ _ _ _ c.in-Part.ensures (leads_back _ _ _ (p.1 ∙ ap (λ f. Err f) p.2) (part_err _ _ _ _ (leads_was _ _ _ c.in_err-target-in-Part.was c.reached-in-Part.ensures)))

pub returns-in-Leaves : goal.returns-in-Leaves
returns-in-Leaves t c =
    at_leaves (λ n. Reaches n c.in_ok-step_into-in-Leaves.field-0) _ _ _ _ c.in-Leaves.ensures
    (leaves_to _ _ _ _ _ c.in_ok-step_into-in-Leaves.ensures c.in_ok-target-in-Leaves.ensures)

pub returns-in-Item : goal.returns-in-Item
returns-in-Item t c =
    at_item (λ n. Reaches n c.in_ok-step_into-in-Item.field-0) _ _ _ _ _ _ c.in-Item.ensures
    (item_to _ _ _ _ _ _ _ _ c.into_inner-index.ensures c.in_ok-step_into-in-Item.ensures c.in_ok-target-in-Item.ensures)

pub returns-in-Part : goal.returns-in-Part
returns-in-Part t c =
    at_part (λ n. Reaches n c.in_ok-step_into-in-Part.field-0) _ _ _ _ c.in-Part.ensures
    (part_to _ _ _ _ _ _ c.into_inner-low.ensures c.in_ok-step_into-in-Part.ensures c.in_ok-target-in-Part.ensures)
