use Rattle.nt_type_trees.proofs.Walking.{seen_integral, seen_struct, seen_named, seen_void, kind_struct, kind_void, declared_told, members_start, members_turn, members_end}
use Rattle.nt_type_trees.proofs.kinds.+walk.Goals as goal

pub declared-returns : goal.declared-returns
declared-returns g t c = declared_told c.place.result c.place.ensures c.in_ok-element.ensures c.in_ok-spans.ensures (rw c.both.ensures at c.in_ok-kind.ensures)

pub kind-returns-in_ok-kind-in-Integral : goal.kind-returns-in_ok-kind-in-Integral
kind-returns-in_ok-kind-in-Integral g t c = rw (seen_integral _ _ _ _ _ c.in-Integral.is) (c.in_ok-kind-in-Integral.ensures _)

pub kind-returns-in_ok-members-in-Struct : goal.kind-returns-in_ok-members-in-Struct
kind-returns-in_ok-members-in-Struct g t c = rw (seen_struct _ _ _ c.in-Struct.is) (kind_struct c.in-Struct.at (rw c.as_slice.ensures at c.in_ok-members-in-Struct.ensures) c.structure.ensures)

pub kind-returns-in_ok-kind-in-Named : goal.kind-returns-in_ok-kind-in-Named
kind-returns-in_ok-kind-in-Named g t c = rw (seen_named _ _ _ c.in-Named.is) (c.in_ok-kind-in-Named.ensures _)

pub kind-returns-in-Void : goal.kind-returns-in-Void
kind-returns-in-Void g t c = rw (seen_void _ _ c.in-Void.is, c.refused.ensures) (kind_void c.in-Void.at)

pub members_of-loop-tree-init : goal.members_of-loop-tree-init
members_of-loop-tree-init g t c = rw c.new.ensures (members_start c.args.members.now)

pub members_of-loop-tree-preserved : goal.members_of-loop-tree-preserved
members_of-loop-tree-preserved g t c =
    let m = c.loop-tree-item.result in
    rw (c.in_ok-all.ensures, c.in_ok-one-2.ensures) (members_turn m.0 m.1 c.loop-tree-test.true c.loop-tree-item.is c.loop-tree.invariant (rw c.as_slice.ensures at c.in_ok-one.ensures))

pub members_of-returns : goal.members_of-returns
members_of-returns g t c = members_end c.loop-tree-test.false c.loop-tree.invariant
