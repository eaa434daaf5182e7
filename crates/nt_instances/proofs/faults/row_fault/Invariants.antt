use Rattle.std.proofs.Common.{ℕ}
use Rattle.nt_diag.specs.declared.refusal.Refusal.{Refusal}
use Rattle.nt_diag.specs.Order.{Among}
use Rattle.nt_diag.proofs.Least.{Best}
use Rattle.nt_items.specs.declared.item.Item.{Item}
use Rattle.nt_items.specs.declared.item.Item.TheViews.{out-Item}
use Rattle.nt_instances.specs.Faults.{InstanceFault}
use Rattle.nt_instances.proofs.faults.row_fault.Given as goal

abbrev pub invariant-loop-k : goal.invariant-loop-k
invariant-loop-k l = Best (Among (λ (k : ℕ) (x : Item) (f : Refusal). InstanceFault l.modules l.row k (out-Item x) f) l.k l.items) l.best
