use Rattle.std.proofs.Common.{arith, subst}
use Rattle.nt_diag.specs.Order.{IsLeastOf, AmongAll}
use Rattle.nt_diag.proofs.Least.{best_start, best_turn, best_all}
use Rattle.nt_diag.specs.declared.refusal.Refusal.{Refusal}
use Rattle.nt_items.specs.declared.item.Item.{Item}
use Rattle.nt_items.specs.declared.item.Item.TheViews.{out-Item}
use Rattle.nt_instances.specs.Faults.{InstanceFault}
use Rattle.nt_instances.proofs.faults.row_fault.Goals as goal

pub loop-k-init : goal.loop-k-init
loop-k-init c = best_start _ _

pub loop-k-preserved : goal.loop-k-preserved
loop-k-preserved c = best_turn c.index-items-k.result _ _ c.loop-k-test.true c.index-items-k.is c.loop-k.invariant c.in_ok-item_fault.ensures c.earlier-best.ensures

pub returns : goal.returns
returns c = subst (λ xs. IsLeastOf (AmongAll (λ k (x : Item) (f : Refusal). InstanceFault c.args.modules.now c.args.row.now k (out-Item x) f) xs) c.loop-k.best) c.items-items.ensures (best_all (omega arith) c.loop-k.invariant).best
