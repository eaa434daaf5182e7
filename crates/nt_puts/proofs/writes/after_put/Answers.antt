use Rattle.std.proofs.Common.{◌≡◌, List, length, ap, subst}
use Rattle.std.specs.Prelude.{IfOk}
use Rattle.nt_value.specs.Digits.{LeafValue}
use Rattle.nt_design.specs.Parts.{Value}
use Rattle.nt_puts.proofs.Writing.{by_digits, by_leaves, few}
use Rattle.nt_puts.proofs.writes.after_put.Goals as goal

pub returns-then-put-eq0 : goal.returns-then-put-eq0
returns-then-put-eq0 c =
    subst (λ (x : Value). IfOk c.with_leaves.result (λ value. value ≡ x)) (by_leaves c.args.put.now c.args.old.now _ c.if-put-eq0.true (ap (λ (l : List LeafValue). length l) c.items.ensures.value)) c.with_leaves.ensures

pub with_leaves-requires-2 : goal.with_leaves-requires-2
with_leaves-requires-2 c = few c.args.put.now c.args.old.now c.in_ok-leaf.leaf c.items-old_leaves.ensures.filled c.requires c.if-put-eq0.false c.in_ok-leaf.ensures

pub returns : goal.returns
returns c =
    subst (λ (x : Value). IfOk c.with_leaves-2.result (λ value. value ≡ x)) (by_digits c.args.put.now c.args.old.now c.in_ok-leaf.leaf c.if-put-eq0.false c.in_ok-leaf.ensures) c.with_leaves-2.ensures
