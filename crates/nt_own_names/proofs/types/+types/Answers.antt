use Rattle.std.proofs.Common.{length}
use Rattle.nt_diag.proofs.Least.{best_turn, best_to}
use Rattle.nt_own_names.proofs.Naming.{struct_told, seen_struct, ended}
use Rattle.nt_own_names.proofs.types.+types.Goals as goal

pub inner_twice-loop-kind-preserved : goal.inner_twice-loop-kind-preserved
inner_twice-loop-kind-preserved t c =
    best_turn c.loop-kind-item.result c.in_ok-fault.fault c.earlier-least.result c.loop-kind-test.true c.loop-kind-item.is c.loop-kind.invariant c.in_ok-fault.ensures c.earlier-least.ensures

pub inner_twice-returns : goal.inner_twice-returns
inner_twice-returns t c = best_to (length c.args.members.now) (ended _ _ c.loop-kind.auto.kind-index-end c.loop-kind-test.false) c.loop-kind.invariant

pub type_twice-returns-in_ok-inner-in-Struct : goal.type_twice-returns-in_ok-inner-in-Struct
type_twice-returns-in_ok-inner-in-Struct t c =
    struct_told c.args.tree.now c.in-Struct.at c.in-Struct.members c.in_ok-own-in-Struct.own c.in_ok-inner-in-Struct.inner c.earlier.result (seen_struct _ _ _ c.in-Struct.is) (rw c.as_slice.ensures at c.in_ok-own-in-Struct.ensures) (rw c.as_slice-in-Struct.ensures at c.in_ok-inner-in-Struct.ensures) c.earlier.ensures
