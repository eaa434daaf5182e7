use Rattle.std.proofs.Common.{rules, Ok, Err, ap, sym, ◌∙◌, refl, arith}
use Rattle.std.proofs.lemmas.Result.{err_from_is_err_and}
use Rattle.nt_design.proofs.Frame.{three, two}
use Rattle.nt_design.proofs.Values.{value_binary, value_call, value_choose, value_concat, value_const, value_element, value_gather, value_item, value_leaves, value_local, value_part, value_read, value_resize, value_size, value_time, value_unary}
use Rattle.nt_design.specs.Expressions.{value_of, values_of}
use Rattle.nt_design.specs.Parts.{merged}
use Rattle.nt_design.specs.Sizes.{tree_size, trees_size}
use Rattle.nt_design.specs.Turns.{by_two}
use Rattle.nt_design.specs.declared.tree.Tree.TheViews as view
use Rattle.nt_value.specs.declared.digit.Digit.TheVariants.{One, Zero}
use Rattle.nt_values.proofs.Nodes.{arms_are, call_is, concat_is, gather_is, of_binary, of_call, of_choose, of_concat, of_element, of_gather, of_item, of_leaves, of_part, of_resize, of_unary, operands_are, typed_as}
use Rattle.nt_values.proofs.Sized.{falls_form, falls_in, falls_list, falls_part, item_smaller, size_binary, size_call, size_choose, size_concat, size_element, size_gather, size_item, size_leaves, size_part, size_resize, size_unary}
use Rattle.nt_values.proofs.Told.{all_done, chosen, picks_third, decided_told, follows, got, item_done, item_stops, other_told, stops, told_by, whole}
use Rattle.nt_values.specs.Typed.{world_in}
use Rattle.nt_values.proofs.value.+values.Goals as goal

pub binary_value-value_of-requires : goal.binary_value-value_of-requires
binary_value-value_of-requires g t c κs within =
    let size = size_binary c.args.op c.args.a.now c.args.b.now in
    (falls_in (tree_size (view.Binary c.args.op c.args.a.now c.args.b.now)) (tree_size c.args.a.now) t (omega (arith, size)) c.decreases, (search rules, (c.requires.may, ((of_binary c.args.op c.args.a.now c.args.b.now c.requires.typed).0, c.requires.few))))

pub binary_value-returns-in_err-x : goal.binary_value-returns-in_err-x
binary_value-returns-in_err-x g t c =
    let p = err_from_is_err_and c.from_residual.result c.from_residual.ensures.1 in
    rw (p.1, p.2) (stops c.args.left c.args.left _ (value_of (g.C.Caller.calls c.args.caller.now) (world_in c.args.world.now) c.args.a.now c.args.locals.now c.args.left) _ c.in_err-x.field-0.0 (value_binary (g.C.Caller.calls c.args.caller.now) (world_in c.args.world.now) c.args.op c.args.a.now c.args.b.now c.args.locals.now c.args.left) c.in_err-x.ensures)

pub binary_value-returns-then-decides : goal.binary_value-returns-then-decides
binary_value-returns-then-decides g t c =
    told_by c.args.left _ _ (Ok (c.in_ok-decided.field-0, c.in_ok-x.turns)) (value_binary (g.C.Caller.calls c.args.caller.now) (world_in c.args.world.now) c.args.op c.args.a.now c.args.b.now c.args.locals.now c.args.left) (decided_told c.args.op (value_of (g.C.Caller.calls c.args.caller.now) (world_in c.args.world.now) c.args.a.now) (value_of (g.C.Caller.calls c.args.caller.now) (world_in c.args.world.now) c.args.b.now) c.args.locals.now c.args.left c.args.left c.in_ok-x.x c.in_ok-x.turns c.in_ok-decided.field-0 c.in_ok-x.ensures.0 c.in_ok-x.ensures.1 (sym c.decides.ensures ∙ c.if-decides.true) c.in_ok-decided.ensures)

pub binary_value-value_of-right-requires : goal.binary_value-value_of-right-requires
binary_value-value_of-right-requires g t c κs within =
    let size = size_binary c.args.op c.args.a.now c.args.b.now in
    (falls_in (tree_size (view.Binary c.args.op c.args.a.now c.args.b.now)) (tree_size c.args.b.now) t (omega (arith, size)) c.decreases, (search rules, (c.requires.may, ((of_binary c.args.op c.args.a.now c.args.b.now c.requires.typed).1, (let few = c.in_ok-x.ensures.1 in omega (arith, few, c.requires.few))))))

pub binary_value-binary_form-requires : goal.binary_value-binary_form-requires
binary_value-binary_form-requires g t c =
    operands_are c.args.op c.args.a.now c.args.b.now c.requires.typed c.args.left c.in_ok-x.x c.in_ok-x.turns c.in_ok-x.ensures.0 c.value_of-right.result c.value_of-right.ensures

pub binary_value-returns : goal.binary_value-returns
binary_value-returns g t c =
    told_by _ _ _ _ (value_binary (g.C.Caller.calls c.args.caller.now) (world_in c.args.world.now) c.args.op c.args.a.now c.args.b.now c.args.locals.now c.args.left) (other_told c.args.op (value_of (g.C.Caller.calls c.args.caller.now) (world_in c.args.world.now) c.args.a.now) (value_of (g.C.Caller.calls c.args.caller.now) (world_in c.args.world.now) c.args.b.now) c.args.locals.now c.args.left c.args.left c.in_ok-x.x c.in_ok-x.turns c.binary_form.result c.in_ok-x.ensures.0 c.in_ok-x.ensures.1 (sym c.decides.ensures ∙ c.if-decides.false) (c.binary_form.ensures c.in_ok-x.turns (value_of (g.C.Caller.calls c.args.caller.now) (world_in c.args.world.now) c.args.b.now c.args.locals.now c.in_ok-x.turns) c.value_of-right.ensures))

pub choice_value-value_of-requires : goal.choice_value-value_of-requires
choice_value-value_of-requires g t c κs within =
    let size = size_choose c.args.test.now c.args.yes.now c.args.no.now in
    (falls_in (tree_size (view.Choose c.args.test.now c.args.yes.now c.args.no.now)) (tree_size c.args.test.now) t (omega (arith, size)) c.decreases, (search rules, (c.requires.may, ((of_choose c.args.test.now c.args.yes.now c.args.no.now c.requires.typed).0, c.requires.few))))

pub choice_value-returns-in_err-t : goal.choice_value-returns-in_err-t
choice_value-returns-in_err-t g t c =
    let p = err_from_is_err_and c.from_residual.result c.from_residual.ensures.1 in
    rw (p.1, p.2) (stops c.args.left c.args.left _ (value_of (g.C.Caller.calls c.args.caller.now) (world_in c.args.world.now) c.args.test.now c.args.locals.now c.args.left) _ c.in_err-t.field-0.0 (value_choose (g.C.Caller.calls c.args.caller.now) (world_in c.args.world.now) c.args.test.now c.args.yes.now c.args.no.now c.args.locals.now c.args.left) c.in_err-t.ensures)

pub choice_value-value_of-requires-in-One : goal.choice_value-value_of-requires-in-One
choice_value-value_of-requires-in-One g t c κs within =
    let size = size_choose c.args.test.now c.args.yes.now c.args.no.now in
    (falls_in (tree_size (view.Choose c.args.test.now c.args.yes.now c.args.no.now)) (tree_size c.args.yes.now) t (omega (arith, size)) c.decreases, (search rules, (c.requires.may, ((of_choose c.args.test.now c.args.yes.now c.args.no.now c.requires.typed).1.0, (let few = c.in_ok-t.ensures.1 in omega (arith, few, c.requires.few))))))

pub choice_value-returns-in-One : goal.choice_value-returns-in-One
choice_value-returns-in-One g t c =
    told_by _ _ _ _ (value_choose (g.C.Caller.calls c.args.caller.now) (world_in c.args.world.now) c.args.test.now c.args.yes.now c.args.no.now c.args.locals.now c.args.left) (chosen (value_of (g.C.Caller.calls c.args.caller.now) (world_in c.args.world.now) c.args.test.now) (value_of (g.C.Caller.calls c.args.caller.now) (world_in c.args.world.now) c.args.yes.now) (value_of (g.C.Caller.calls c.args.caller.now) (world_in c.args.world.now) c.args.no.now) c.args.locals.now c.args.left c.args.left c.in_ok-t.t c.in_ok-t.turns One c.value_of-in-One.result c.in_ok-t.ensures.0 c.in_ok-t.ensures.1 (sym c.test_of.ensures ∙ c.in-One.is) c.value_of-in-One.ensures)

pub choice_value-value_of-requires-in-Zero : goal.choice_value-value_of-requires-in-Zero
choice_value-value_of-requires-in-Zero g t c κs within =
    let size = size_choose c.args.test.now c.args.yes.now c.args.no.now in
    (falls_in (tree_size (view.Choose c.args.test.now c.args.yes.now c.args.no.now)) (tree_size c.args.no.now) t (omega (arith, size)) c.decreases, (search rules, (c.requires.may, ((of_choose c.args.test.now c.args.yes.now c.args.no.now c.requires.typed).1.1, (let few = c.in_ok-t.ensures.1 in omega (arith, few, c.requires.few))))))

pub choice_value-returns-in-Zero : goal.choice_value-returns-in-Zero
choice_value-returns-in-Zero g t c =
    told_by _ _ _ _ (value_choose (g.C.Caller.calls c.args.caller.now) (world_in c.args.world.now) c.args.test.now c.args.yes.now c.args.no.now c.args.locals.now c.args.left) (chosen (value_of (g.C.Caller.calls c.args.caller.now) (world_in c.args.world.now) c.args.test.now) (value_of (g.C.Caller.calls c.args.caller.now) (world_in c.args.world.now) c.args.yes.now) (value_of (g.C.Caller.calls c.args.caller.now) (world_in c.args.world.now) c.args.no.now) c.args.locals.now c.args.left c.args.left c.in_ok-t.t c.in_ok-t.turns Zero c.value_of-in-Zero.result c.in_ok-t.ensures.0 c.in_ok-t.ensures.1 (sym c.test_of.ensures ∙ c.in-Zero.is) c.value_of-in-Zero.ensures)

pub choice_value-value_of-requires-in_default : goal.choice_value-value_of-requires-in_default
choice_value-value_of-requires-in_default g t c κs within =
    let size = size_choose c.args.test.now c.args.yes.now c.args.no.now in
    (falls_in (tree_size (view.Choose c.args.test.now c.args.yes.now c.args.no.now)) (tree_size c.args.yes.now) t (omega (arith, size)) c.decreases, (search rules, (c.requires.may, ((of_choose c.args.test.now c.args.yes.now c.args.no.now c.requires.typed).1.0, (let few = c.in_ok-t.ensures.1 in omega (arith, few, c.requires.few))))))

pub choice_value-returns-in_err-x-in_default : goal.choice_value-returns-in_err-x-in_default
choice_value-returns-in_err-x-in_default g t c =
    let p = err_from_is_err_and c.from_residual-in_err-x-in_default.result c.from_residual-in_err-x-in_default.ensures.1 in
    rw (p.1, p.2) (told_by c.args.left _ _ (Err c.in_err-x-in_default.field-0.0) (value_choose (g.C.Caller.calls c.args.caller.now) (world_in c.args.world.now) c.args.test.now c.args.yes.now c.args.no.now c.args.locals.now c.args.left) (chosen (value_of (g.C.Caller.calls c.args.caller.now) (world_in c.args.world.now) c.args.test.now) (value_of (g.C.Caller.calls c.args.caller.now) (world_in c.args.world.now) c.args.yes.now) (value_of (g.C.Caller.calls c.args.caller.now) (world_in c.args.world.now) c.args.no.now) c.args.locals.now c.args.left c.args.left c.in_ok-t.t c.in_ok-t.turns c.test_of.result (Err c.in_err-x-in_default.field-0.0) c.in_ok-t.ensures.0 c.in_ok-t.ensures.1 (sym c.test_of.ensures) (told_by c.in_ok-t.turns _ _ (Err c.in_err-x-in_default.field-0.0) (picks_third c.test_of.result ((value_of (g.C.Caller.calls c.args.caller.now) (world_in c.args.world.now) c.args.yes.now) c.args.locals.now c.in_ok-t.turns) ((value_of (g.C.Caller.calls c.args.caller.now) (world_in c.args.world.now) c.args.no.now) c.args.locals.now c.in_ok-t.turns) (by_two merged (value_of (g.C.Caller.calls c.args.caller.now) (world_in c.args.world.now) c.args.yes.now) (value_of (g.C.Caller.calls c.args.caller.now) (world_in c.args.world.now) c.args.no.now) c.args.locals.now c.in_ok-t.turns) c.in_default.not-One c.in_default.not-Zero) (stops c.in_ok-t.turns c.in_ok-t.turns (by_two merged (value_of (g.C.Caller.calls c.args.caller.now) (world_in c.args.world.now) c.args.yes.now) (value_of (g.C.Caller.calls c.args.caller.now) (world_in c.args.world.now) c.args.no.now) c.args.locals.now c.in_ok-t.turns) ((value_of (g.C.Caller.calls c.args.caller.now) (world_in c.args.world.now) c.args.yes.now) c.args.locals.now c.in_ok-t.turns) _ c.in_err-x-in_default.field-0.0 refl c.in_err-x-in_default.ensures))))

pub choice_value-value_of-no-requires : goal.choice_value-value_of-no-requires
choice_value-value_of-no-requires g t c κs within =
    let size = size_choose c.args.test.now c.args.yes.now c.args.no.now in
    (falls_in (tree_size (view.Choose c.args.test.now c.args.yes.now c.args.no.now)) (tree_size c.args.no.now) t (omega (arith, size)) c.decreases, (search rules, (c.requires.may, ((of_choose c.args.test.now c.args.yes.now c.args.no.now c.requires.typed).1.1, (let few = c.in_ok-t.ensures.1 in let more = c.in_ok-x-in_default.ensures.1 in omega (arith, few, more, c.requires.few))))))

pub choice_value-merged_form-requires : goal.choice_value-merged_form-requires
choice_value-merged_form-requires g t c =
    arms_are c.args.test.now c.args.yes.now c.args.no.now c.requires.typed c.in_ok-t.turns c.in_ok-x-in_default.x c.in_ok-x-in_default.turns c.in_ok-x-in_default.ensures.0 c.value_of-no.result c.value_of-no.ensures

pub choice_value-returns : goal.choice_value-returns
choice_value-returns g t c =
    told_by _ _ _ _ (value_choose (g.C.Caller.calls c.args.caller.now) (world_in c.args.world.now) c.args.test.now c.args.yes.now c.args.no.now c.args.locals.now c.args.left) (chosen (value_of (g.C.Caller.calls c.args.caller.now) (world_in c.args.world.now) c.args.test.now) (value_of (g.C.Caller.calls c.args.caller.now) (world_in c.args.world.now) c.args.yes.now) (value_of (g.C.Caller.calls c.args.caller.now) (world_in c.args.world.now) c.args.no.now) c.args.locals.now c.args.left c.args.left c.in_ok-t.t c.in_ok-t.turns c.test_of.result c.merged_form.result c.in_ok-t.ensures.0 c.in_ok-t.ensures.1 (sym c.test_of.ensures) (told_by c.in_ok-t.turns _ _ _ (picks_third c.test_of.result ((value_of (g.C.Caller.calls c.args.caller.now) (world_in c.args.world.now) c.args.yes.now) c.args.locals.now c.in_ok-t.turns) ((value_of (g.C.Caller.calls c.args.caller.now) (world_in c.args.world.now) c.args.no.now) c.args.locals.now c.in_ok-t.turns) (by_two merged (value_of (g.C.Caller.calls c.args.caller.now) (world_in c.args.world.now) c.args.yes.now) (value_of (g.C.Caller.calls c.args.caller.now) (world_in c.args.world.now) c.args.no.now) c.args.locals.now c.in_ok-t.turns) c.in_default.not-One c.in_default.not-Zero) (follows c.in_ok-t.turns c.in_ok-x-in_default.turns (by_two merged (value_of (g.C.Caller.calls c.args.caller.now) (world_in c.args.world.now) c.args.yes.now) (value_of (g.C.Caller.calls c.args.caller.now) (world_in c.args.world.now) c.args.no.now) c.args.locals.now c.in_ok-t.turns) ((value_of (g.C.Caller.calls c.args.caller.now) (world_in c.args.world.now) c.args.yes.now) c.args.locals.now c.in_ok-t.turns) _ c.in_ok-x-in_default.x c.merged_form.result refl c.in_ok-x-in_default.ensures.0 c.in_ok-x-in_default.ensures.1 (c.merged_form.ensures c.in_ok-x-in_default.turns (value_of (g.C.Caller.calls c.args.caller.now) (world_in c.args.world.now) c.args.no.now c.args.locals.now c.in_ok-x-in_default.turns) c.value_of-no.ensures))))

pub value_of-value_of-of-requires : goal.value_of-value_of-of-requires
value_of-value_of-of-requires g t c κs within =
    let size = (ap tree_size (c.in-Leaves.is ∙ ap (λ a. view.Leaves a c.in-Leaves.first c.in-Leaves.count) (sym c.get.ensures)) ∙ size_leaves c.get.result.now c.in-Leaves.first c.in-Leaves.count) in
    (falls_part (tree_size c.args.tree.now) (tree_size c.get.result.now) t (omega (arith, size)) c.decreases, (search rules, (c.requires.may, (of_leaves c.get.result.now c.in-Leaves.first c.in-Leaves.count (typed_as _ _ (c.in-Leaves.is ∙ ap (λ a. view.Leaves a c.in-Leaves.first c.in-Leaves.count) (sym c.get.ensures)) c.requires.typed), c.requires.few))))

pub value_of-returns-in-Leaves : goal.value_of-returns-in-Leaves
value_of-returns-in-Leaves g t c =
    told_by _ _ _ _ (ap (λ t. (value_of (g.C.Caller.calls c.args.caller.now) (world_in c.args.world.now) t c.args.locals.now c.args.left)) (c.in-Leaves.is ∙ ap (λ a. view.Leaves a c.in-Leaves.first c.in-Leaves.count) (sym c.get.ensures)) ∙ value_leaves (g.C.Caller.calls c.args.caller.now) (world_in c.args.world.now) c.get.result.now c.in-Leaves.first c.in-Leaves.count c.args.locals.now c.args.left) (c.leaves_form.ensures c.args.left (value_of (g.C.Caller.calls c.args.caller.now) (world_in c.args.world.now) c.get.result.now c.args.locals.now c.args.left) c.value_of-of.ensures)

pub value_of-value_of-index-requires : goal.value_of-value_of-index-requires
value_of-value_of-index-requires g t c κs within =
    let size = (ap tree_size (c.in-Element.is ∙ ap view.Element (sym c.get-in-Element.ensures)) ∙ size_element c.get-in-Element.result.now) in
    (falls_part (tree_size c.args.tree.now) (tree_size c.get-in-Element.result.now) t (omega (arith, size)) c.decreases, (search rules, (c.requires.may, (of_element c.get-in-Element.result.now (typed_as _ _ (c.in-Element.is ∙ ap view.Element (sym c.get-in-Element.ensures)) c.requires.typed), c.requires.few))))

pub value_of-returns-in-Element : goal.value_of-returns-in-Element
value_of-returns-in-Element g t c =
    told_by _ _ _ _ (ap (λ t. (value_of (g.C.Caller.calls c.args.caller.now) (world_in c.args.world.now) t c.args.locals.now c.args.left)) (c.in-Element.is ∙ ap view.Element (sym c.get-in-Element.ensures)) ∙ value_element (g.C.Caller.calls c.args.caller.now) (world_in c.args.world.now) c.get-in-Element.result.now c.args.locals.now c.args.left) (c.element_form.ensures c.args.left (value_of (g.C.Caller.calls c.args.caller.now) (world_in c.args.world.now) c.get-in-Element.result.now c.args.locals.now c.args.left) c.value_of-index.ensures)

pub value_of-value_of-of-requires-in-Unary : goal.value_of-value_of-of-requires-in-Unary
value_of-value_of-of-requires-in-Unary g t c κs within =
    let size = (ap tree_size (c.in-Unary.is ∙ ap (view.Unary c.in-Unary.op) (sym c.get-in-Unary.ensures)) ∙ size_unary c.in-Unary.op c.get-in-Unary.result.now) in
    (falls_part (tree_size c.args.tree.now) (tree_size c.get-in-Unary.result.now) t (omega (arith, size)) c.decreases, (search rules, (c.requires.may, (of_unary c.in-Unary.op c.get-in-Unary.result.now (typed_as _ _ (c.in-Unary.is ∙ ap (view.Unary c.in-Unary.op) (sym c.get-in-Unary.ensures)) c.requires.typed), c.requires.few))))

pub value_of-returns-in-Unary : goal.value_of-returns-in-Unary
value_of-returns-in-Unary g t c =
    told_by _ _ _ _ (ap (λ t. (value_of (g.C.Caller.calls c.args.caller.now) (world_in c.args.world.now) t c.args.locals.now c.args.left)) (c.in-Unary.is ∙ ap (view.Unary c.in-Unary.op) (sym c.get-in-Unary.ensures)) ∙ value_unary (g.C.Caller.calls c.args.caller.now) (world_in c.args.world.now) c.in-Unary.op c.get-in-Unary.result.now c.args.locals.now c.args.left) (c.unary_form.ensures c.args.left (value_of (g.C.Caller.calls c.args.caller.now) (world_in c.args.world.now) c.get-in-Unary.result.now c.args.locals.now c.args.left) c.value_of-of-in-Unary.ensures)

pub value_of-value_of-of-requires-in-Resize : goal.value_of-value_of-of-requires-in-Resize
value_of-value_of-of-requires-in-Resize g t c κs within =
    let size = (ap tree_size (c.in-Resize.is ∙ ap (λ a. view.Resize a c.in-Resize.to) (sym c.get-in-Resize.ensures)) ∙ size_resize c.get-in-Resize.result.now c.in-Resize.to) in
    (falls_part (tree_size c.args.tree.now) (tree_size c.get-in-Resize.result.now) t (omega (arith, size)) c.decreases, (search rules, (c.requires.may, ((of_resize c.get-in-Resize.result.now c.in-Resize.to (typed_as _ _ (c.in-Resize.is ∙ ap (λ a. view.Resize a c.in-Resize.to) (sym c.get-in-Resize.ensures)) c.requires.typed)).0, c.requires.few))))

pub value_of-resize_form-requires : goal.value_of-resize_form-requires
value_of-resize_form-requires g t c =
    (of_resize c.get-in-Resize.result.now c.in-Resize.to (typed_as _ _ (c.in-Resize.is ∙ ap (λ a. view.Resize a c.in-Resize.to) (sym c.get-in-Resize.ensures)) c.requires.typed)).1

pub value_of-returns-in-Resize : goal.value_of-returns-in-Resize
value_of-returns-in-Resize g t c =
    told_by _ _ _ _ (ap (λ t. (value_of (g.C.Caller.calls c.args.caller.now) (world_in c.args.world.now) t c.args.locals.now c.args.left)) (c.in-Resize.is ∙ ap (λ a. view.Resize a c.in-Resize.to) (sym c.get-in-Resize.ensures)) ∙ value_resize (g.C.Caller.calls c.args.caller.now) (world_in c.args.world.now) c.get-in-Resize.result.now c.in-Resize.to c.args.locals.now c.args.left) (c.resize_form.ensures c.args.left (value_of (g.C.Caller.calls c.args.caller.now) (world_in c.args.world.now) c.get-in-Resize.result.now c.args.locals.now c.args.left) c.value_of-of-in-Resize.ensures)

pub value_of-values_of-parts-requires : goal.value_of-values_of-parts-requires
value_of-values_of-parts-requires g t c κs within =
    let size = (ap tree_size (c.in-Concat.is ∙ ap view.Concat (sym c.as_slice.ensures)) ∙ size_concat c.as_slice.result.now) in
    (falls_list (tree_size c.args.tree.now) (trees_size c.as_slice.result.now) t (omega (arith, size)) c.decreases, (search rules, (c.requires.may, (of_concat c.as_slice.result.now (typed_as _ _ (c.in-Concat.is ∙ ap view.Concat (sym c.as_slice.ensures)) c.requires.typed), c.requires.few))))

pub value_of-concat_form-requires : goal.value_of-concat_form-requires
value_of-concat_form-requires g t c =
    concat_is c.as_slice.result.now (typed_as _ _ (c.in-Concat.is ∙ ap view.Concat (sym c.as_slice.ensures)) c.requires.typed) c.args.left c.values_of-parts.result c.values_of-parts.ensures

pub value_of-returns-in-Concat : goal.value_of-returns-in-Concat
value_of-returns-in-Concat g t c =
    told_by _ _ _ _ (ap (λ t. (value_of (g.C.Caller.calls c.args.caller.now) (world_in c.args.world.now) t c.args.locals.now c.args.left)) (c.in-Concat.is ∙ ap view.Concat (sym c.as_slice.ensures)) ∙ value_concat (g.C.Caller.calls c.args.caller.now) (world_in c.args.world.now) c.as_slice.result.now c.args.locals.now c.args.left) (c.concat_form.ensures c.args.left (values_of (g.C.Caller.calls c.args.caller.now) (world_in c.args.world.now) c.as_slice.result.now c.args.locals.now c.args.left) c.values_of-parts.ensures)

pub value_of-values_of-parts-requires-in-Gather : goal.value_of-values_of-parts-requires-in-Gather
value_of-values_of-parts-requires-in-Gather g t c κs within =
    let size = (ap tree_size (c.in-Gather.is ∙ ap view.Gather (sym c.as_slice-in-Gather.ensures)) ∙ size_gather c.as_slice-in-Gather.result.now) in
    (falls_list (tree_size c.args.tree.now) (trees_size c.as_slice-in-Gather.result.now) t (omega (arith, size)) c.decreases, (search rules, (c.requires.may, (of_gather c.as_slice-in-Gather.result.now (typed_as _ _ (c.in-Gather.is ∙ ap view.Gather (sym c.as_slice-in-Gather.ensures)) c.requires.typed), c.requires.few))))

pub value_of-gather_form-requires : goal.value_of-gather_form-requires
value_of-gather_form-requires g t c =
    gather_is c.as_slice-in-Gather.result.now (typed_as _ _ (c.in-Gather.is ∙ ap view.Gather (sym c.as_slice-in-Gather.ensures)) c.requires.typed) c.args.left c.values_of-parts-in-Gather.result c.values_of-parts-in-Gather.ensures

pub value_of-returns-in-Gather : goal.value_of-returns-in-Gather
value_of-returns-in-Gather g t c =
    told_by _ _ _ _ (ap (λ t. (value_of (g.C.Caller.calls c.args.caller.now) (world_in c.args.world.now) t c.args.locals.now c.args.left)) (c.in-Gather.is ∙ ap view.Gather (sym c.as_slice-in-Gather.ensures)) ∙ value_gather (g.C.Caller.calls c.args.caller.now) (world_in c.args.world.now) c.as_slice-in-Gather.result.now c.args.locals.now c.args.left) (c.gather_form.ensures c.args.left (values_of (g.C.Caller.calls c.args.caller.now) (world_in c.args.world.now) c.as_slice-in-Gather.result.now c.args.locals.now c.args.left) c.values_of-parts-in-Gather.ensures)

pub value_of-values_of-args-requires : goal.value_of-values_of-args-requires
value_of-values_of-args-requires g t c κs within =
    let size = (ap tree_size (c.in-Call.is ∙ ap (view.Call c.in-Call.function) (sym c.as_slice-in-Call.ensures)) ∙ size_call c.in-Call.function c.as_slice-in-Call.result.now) in
    (falls_list (tree_size c.args.tree.now) (trees_size c.as_slice-in-Call.result.now) t (omega (arith, size)) c.decreases, (search rules, (c.requires.may, (of_call c.in-Call.function c.as_slice-in-Call.result.now (typed_as _ _ (c.in-Call.is ∙ ap (view.Call c.in-Call.function) (sym c.as_slice-in-Call.ensures)) c.requires.typed), c.requires.few))))

pub value_of-call_form-requires-clause-args : goal.value_of-call_form-requires-clause-args
value_of-call_form-requires-clause-args g t c =
    call_is c.in-Call.function c.as_slice-in-Call.result.now (typed_as _ _ (c.in-Call.is ∙ ap (view.Call c.in-Call.function) (sym c.as_slice-in-Call.ensures)) c.requires.typed) (g.C.Caller.most c.args.caller.now) c.args.left c.requires.few c.values_of-args.result c.values_of-args.ensures

pub value_of-returns-in-Call : goal.value_of-returns-in-Call
value_of-returns-in-Call g t c =
    told_by _ _ _ _ (ap (λ t. (value_of (g.C.Caller.calls c.args.caller.now) (world_in c.args.world.now) t c.args.locals.now c.args.left)) (c.in-Call.is ∙ ap (view.Call c.in-Call.function) (sym c.as_slice-in-Call.ensures)) ∙ value_call (g.C.Caller.calls c.args.caller.now) (world_in c.args.world.now) c.in-Call.function c.as_slice-in-Call.result.now c.args.locals.now c.args.left) (c.call_form.ensures c.args.left (values_of (g.C.Caller.calls c.args.caller.now) (world_in c.args.world.now) c.as_slice-in-Call.result.now c.args.locals.now c.args.left) c.values_of-args.ensures)

pub value_of-returns-in_ok-copy-in-Const : goal.value_of-returns-in_ok-copy-in-Const
value_of-returns-in_ok-copy-in-Const g t c =
    (rw (c.in-Const.is, c.in_ok-copy-in-Const.ensures) (value_const (g.C.Caller.calls c.args.caller.now) (world_in c.args.world.now) c.in-Const.value c.args.locals.now c.args.left), omega arith)

pub value_of-returns-in_ok-object_at-in-Read : goal.value_of-returns-in_ok-object_at-in-Read
value_of-returns-in_ok-object_at-in-Read g t c =
    (rw (c.in-Read.is, c.in_ok-object_at-in-Read.ensures) (value_read (g.C.Caller.calls c.args.caller.now) (world_in c.args.world.now) c.in-Read.object c.args.locals.now c.args.left), omega arith)

pub value_of-returns-in_ok-value_at-in-Local : goal.value_of-returns-in_ok-value_at-in-Local
value_of-returns-in_ok-value_at-in-Local g t c =
    (rw (c.in-Local.is, c.in_ok-value_at-in-Local.ensures) (value_local (g.C.Caller.calls c.args.caller.now) (world_in c.args.world.now) c.in-Local.local c.args.locals.now c.args.left), omega arith)

pub value_of-returns-in_ok-int_value-in-Size : goal.value_of-returns-in_ok-int_value-in-Size
value_of-returns-in_ok-int_value-in-Size g t c =
    (rw (c.in-Size.is, c.in_ok-int_value-in-Size.ensures) (value_size (g.C.Caller.calls c.args.caller.now) (world_in c.args.world.now) c.args.locals.now c.args.left), omega arith)

pub value_of-returns-in_ok-time_value-in-Time : goal.value_of-returns-in_ok-time_value-in-Time
value_of-returns-in_ok-time_value-in-Time g t c =
    (rw (c.in-Time.is, c.in_ok-time_value-in-Time.ensures) (value_time (g.C.Caller.calls c.args.caller.now) (world_in c.args.world.now) c.args.locals.now c.args.left), omega arith)

pub values_of-loop-tree-init : goal.values_of-loop-tree-init
values_of-loop-tree-init g t c =
    record { fewer = omega arith; so_far = rw c.new-values.ensures (whole (values_of (g.C.Caller.calls c.args.caller.now) (world_in c.args.world.now) c.args.trees.now c.args.locals.now c.args.left)) }

pub values_of-value_of-requires : goal.values_of-value_of-requires
values_of-value_of-requires g t c κs within =
    let size = item_smaller c.args.trees.now c.loop-tree.tree-index c.tree-item.result c.loop-tree-test.true c.tree-item.is in
    let each = c.requires.typed.each c.loop-tree.tree-index c.tree-item.result (got c.args.trees.now c.loop-tree.tree-index c.tree-item.result c.loop-tree-test.true c.tree-item.is) in
    let few = c.loop-tree.invariant.fewer in
    (falls_in (trees_size c.args.trees.now) (tree_size c.tree-item.result) t (omega (arith, size)) c.decreases, (search rules, (c.requires.may, (record { scope = c.requires.typed.scope; stands = c.requires.typed.stands; shape = each.0; is = each.1 }, omega (arith, few, c.requires.few)))))

pub values_of-returns-in_err-value : goal.values_of-returns-in_err-value
values_of-returns-in_err-value g t c =
    let p = err_from_is_err_and c.from_residual.result c.from_residual.ensures.1 in
    rw (p.1, p.2) (item_stops (value_of (g.C.Caller.calls c.args.caller.now) (world_in c.args.world.now)) c.args.trees.now c.args.locals.now c.args.left c.args.left c.loop-tree.values c.loop-tree.tree-index c.loop-tree.turns c.tree-item.result c.in_err-value.field-0.0 c.loop-tree-test.true c.tree-item.is c.loop-tree.invariant.so_far c.in_err-value.ensures)

pub values_of-loop-tree-preserved : goal.values_of-loop-tree-preserved
values_of-loop-tree-preserved g t c =
    let few = c.loop-tree.invariant.fewer in
    let more = c.in_ok-value.ensures.1 in
    record {
      fewer = omega (arith, few, more);
      so_far = rw c.in_ok-push.ensures.ok (item_done (value_of (g.C.Caller.calls c.args.caller.now) (world_in c.args.world.now)) c.args.trees.now c.args.locals.now c.args.left c.loop-tree.values c.loop-tree.tree-index c.loop-tree.turns c.tree-item.result c.in_ok-value.value c.in_ok-value.l c.loop-tree-test.true c.tree-item.is c.loop-tree.invariant.so_far c.in_ok-value.ensures.0);
    }

pub values_of-returns : goal.values_of-returns
values_of-returns g t c =
    (all_done (value_of (g.C.Caller.calls c.args.caller.now) (world_in c.args.world.now)) c.args.trees.now c.args.locals.now c.args.left c.loop-tree.values c.loop-tree.tree-index c.loop-tree.turns c.loop-tree-test.false c.loop-tree.invariant.so_far, c.loop-tree.invariant.fewer)

pub value_of-binary_value-requires : goal.value_of-binary_value-requires
value_of-binary_value-requires g t c κs within =
    let is = c.in-Binary.is ∙ two (view.Binary c.in-Binary.op) (sym c.get-in-Binary.ensures) (sym c.get-in-Binary-2.ensures) in
    (falls_form (tree_size c.args.tree.now) (tree_size (view.Binary c.in-Binary.op c.get-in-Binary.result.now c.get-in-Binary-2.result.now)) t (sym (ap tree_size is)) c.decreases, (search rules, (c.requires.may, (typed_as _ _ is c.requires.typed, c.requires.few))))

pub value_of-choice_value-requires : goal.value_of-choice_value-requires
value_of-choice_value-requires g t c κs within =
    let is = c.in-Choose.is ∙ three view.Choose (sym c.get-in-Choose.ensures) (sym c.get-in-Choose-2.ensures) (sym c.get-in-Choose-3.ensures) in
    (falls_form (tree_size c.args.tree.now) (tree_size (view.Choose c.get-in-Choose.result.now c.get-in-Choose-2.result.now c.get-in-Choose-3.result.now)) t (sym (ap tree_size is)) c.decreases, (search rules, (c.requires.may, (typed_as _ _ is c.requires.typed, c.requires.few))))

pub item_value-value_of-requires : goal.item_value-value_of-requires
item_value-value_of-requires g t c κs within =
    let size = size_item c.args.of.now c.args.index.now c.args.low c.args.size c.args.up in
    (falls_in (tree_size (view.Item c.args.of.now c.args.index.now c.args.low c.args.size c.args.up)) (tree_size c.args.of.now) t (omega (arith, size)) c.decreases, (search rules, (c.requires.may, ((of_item c.args.of.now c.args.index.now c.args.low c.args.size c.args.up c.requires.typed).0, c.requires.few))))

pub item_value-returns-in_err-x : goal.item_value-returns-in_err-x
item_value-returns-in_err-x g t c =
    let p = err_from_is_err_and c.from_residual.result c.from_residual.ensures.1 in
    rw (p.1, p.2) (stops c.args.left c.args.left _ (value_of (g.C.Caller.calls c.args.caller.now) (world_in c.args.world.now) c.args.of.now c.args.locals.now c.args.left) _ c.in_err-x.field-0.0 (value_item (g.C.Caller.calls c.args.caller.now) (world_in c.args.world.now) c.args.of.now c.args.index.now c.args.low c.args.size c.args.up c.args.locals.now c.args.left) c.in_err-x.ensures)

pub item_value-value_of-index-requires : goal.item_value-value_of-index-requires
item_value-value_of-index-requires g t c κs within =
    let size = size_item c.args.of.now c.args.index.now c.args.low c.args.size c.args.up in
    (falls_in (tree_size (view.Item c.args.of.now c.args.index.now c.args.low c.args.size c.args.up)) (tree_size c.args.index.now) t (omega (arith, size)) c.decreases, (search rules, (c.requires.may, ((of_item c.args.of.now c.args.index.now c.args.low c.args.size c.args.up c.requires.typed).1.0, (let few = c.in_ok-x.ensures.1 in omega (arith, few, c.requires.few))))))

pub item_value-item_form-requires : goal.item_value-item_form-requires
item_value-item_form-requires g t c =
    (of_item c.args.of.now c.args.index.now c.args.low c.args.size c.args.up c.requires.typed).1.1

pub item_value-returns : goal.item_value-returns
item_value-returns g t c =
    follows c.args.left c.in_ok-x.turns _ (value_of (g.C.Caller.calls c.args.caller.now) (world_in c.args.world.now) c.args.of.now c.args.locals.now c.args.left) _ c.in_ok-x.x c.item_form.result (value_item (g.C.Caller.calls c.args.caller.now) (world_in c.args.world.now) c.args.of.now c.args.index.now c.args.low c.args.size c.args.up c.args.locals.now c.args.left) c.in_ok-x.ensures.0 c.in_ok-x.ensures.1 (c.item_form.ensures c.in_ok-x.turns (value_of (g.C.Caller.calls c.args.caller.now) (world_in c.args.world.now) c.args.index.now c.args.locals.now c.in_ok-x.turns) c.value_of-index.ensures)

pub part_value-value_of-requires : goal.part_value-value_of-requires
part_value-value_of-requires g t c κs within =
    let size = size_part c.args.of.now c.args.low.now c.args.width in
    (falls_in (tree_size (view.Part c.args.of.now c.args.low.now c.args.width)) (tree_size c.args.of.now) t (omega (arith, size)) c.decreases, (search rules, (c.requires.may, ((of_part c.args.of.now c.args.low.now c.args.width c.requires.typed).0, c.requires.few))))

pub part_value-returns-in_err-x : goal.part_value-returns-in_err-x
part_value-returns-in_err-x g t c =
    let p = err_from_is_err_and c.from_residual.result c.from_residual.ensures.1 in
    rw (p.1, p.2) (stops c.args.left c.args.left _ (value_of (g.C.Caller.calls c.args.caller.now) (world_in c.args.world.now) c.args.of.now c.args.locals.now c.args.left) _ c.in_err-x.field-0.0 (value_part (g.C.Caller.calls c.args.caller.now) (world_in c.args.world.now) c.args.of.now c.args.low.now c.args.width c.args.locals.now c.args.left) c.in_err-x.ensures)

pub part_value-value_of-low-requires : goal.part_value-value_of-low-requires
part_value-value_of-low-requires g t c κs within =
    let size = size_part c.args.of.now c.args.low.now c.args.width in
    (falls_in (tree_size (view.Part c.args.of.now c.args.low.now c.args.width)) (tree_size c.args.low.now) t (omega (arith, size)) c.decreases, (search rules, (c.requires.may, ((of_part c.args.of.now c.args.low.now c.args.width c.requires.typed).1.0, (let few = c.in_ok-x.ensures.1 in omega (arith, few, c.requires.few))))))

pub part_value-part_form-requires : goal.part_value-part_form-requires
part_value-part_form-requires g t c =
    let p = (of_part c.args.of.now c.args.low.now c.args.width c.requires.typed).1.1 in
    record { some = p.0; few = p.1 }

pub part_value-returns : goal.part_value-returns
part_value-returns g t c =
    follows c.args.left c.in_ok-x.turns _ (value_of (g.C.Caller.calls c.args.caller.now) (world_in c.args.world.now) c.args.of.now c.args.locals.now c.args.left) _ c.in_ok-x.x c.part_form.result (value_part (g.C.Caller.calls c.args.caller.now) (world_in c.args.world.now) c.args.of.now c.args.low.now c.args.width c.args.locals.now c.args.left) c.in_ok-x.ensures.0 c.in_ok-x.ensures.1 (c.part_form.ensures c.in_ok-x.turns (value_of (g.C.Caller.calls c.args.caller.now) (world_in c.args.world.now) c.args.low.now c.args.locals.now c.in_ok-x.turns) c.value_of-low.ensures)

pub value_of-item_value-requires : goal.value_of-item_value-requires
value_of-item_value-requires g t c κs within =
    let is = c.in-Item.is ∙ two (λ a i. view.Item a i c.in-Item.low c.in-Item.size c.in-Item.up) (sym c.get-in-Item.ensures) (sym c.get-in-Item-2.ensures) in
    (falls_form (tree_size c.args.tree.now) (tree_size (view.Item c.get-in-Item.result.now c.get-in-Item-2.result.now c.in-Item.low c.in-Item.size c.in-Item.up)) t (sym (ap tree_size is)) c.decreases, (search rules, (c.requires.may, (typed_as _ _ is c.requires.typed, c.requires.few))))

pub value_of-part_value-requires : goal.value_of-part_value-requires
value_of-part_value-requires g t c κs within =
    let is = c.in-Part.is ∙ two (λ a i. view.Part a i c.in-Part.width) (sym c.get-in-Part.ensures) (sym c.get-in-Part-2.ensures) in
    (falls_form (tree_size c.args.tree.now) (tree_size (view.Part c.get-in-Part.result.now c.get-in-Part-2.result.now c.in-Part.width)) t (sym (ap tree_size is)) c.decreases, (search rules, (c.requires.may, (typed_as _ _ is c.requires.typed, c.requires.few))))
