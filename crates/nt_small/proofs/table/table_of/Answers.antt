use Rattle.std.proofs.Common.{arith, sym, ◌∙◌}
use Rattle.std.proofs.lemmas.Bool.{false≢true}
use Rattle.std.proofs.lemmas.List.{length-map}
use Rattle.nt_small.specs.Said.{item_of}
use Rattle.nt_small.proofs.Gathering.{few_gathered, mapped_at, one_gathered, all_gathered}
use Rattle.nt_small.proofs.table.table_of.Goals as goal

pub add-requires-clause-few_nets : goal.add-requires-clause-few_nets
add-requires-clause-few_nets c =
    (few_gathered _ _ _ _ 4194304 c.loop-item.invariant (omega (arith, length-map c.args.items.now item_of))).0

pub add-requires-clause-few_assigns : goal.add-requires-clause-few_assigns
add-requires-clause-few_assigns c =
    (few_gathered _ _ _ _ 4194304 c.loop-item.invariant (omega (arith, length-map c.args.items.now item_of))).1

pub returns-then-not-branch-clause-none : goal.returns-then-not-branch-clause-none
returns-then-not-branch-clause-none c = λ allowed.
    let refused = c.in_ok-add.ensures.refused _ c.loop-item.invariant.table_is (allowed _ _ (mapped_at item_of c.args.items.now c.loop-item.item-index _ c.loop-item-test.true)) in
    false≢true (sym c.if-not-branch.true ∙ refused)

pub loop-item-preserved : goal.loop-item-preserved
loop-item-preserved c =
    one_gathered _ _ _ _ _ _ (mapped_at item_of c.args.items.now c.loop-item.item-index _ c.loop-item-test.true) c.loop-item.invariant (c.in_ok-add.ensures.added _ c.loop-item.invariant.table_is c.if-not-branch.false)

pub returns-clause-allowed : goal.returns-clause-allowed
returns-clause-allowed c =
    (all_gathered _ _ _ _ (omega (arith, length-map c.args.items.now item_of)) c.loop-item.invariant).0

pub returns-clause-table : goal.returns-clause-table
returns-clause-table c =
    (all_gathered _ _ _ _ (omega (arith, length-map c.args.items.now item_of)) c.loop-item.invariant).1
