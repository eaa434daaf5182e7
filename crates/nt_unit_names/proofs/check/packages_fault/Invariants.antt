use Rattle.std.proofs.Common.{ℕ}
use Rattle.nt_diag.specs.declared.refusal.Refusal.{Refusal}
use Rattle.nt_diag.specs.Order.{Among}
use Rattle.nt_diag.proofs.Least.{Best}
use Rattle.nt_items.specs.declared.item.Item.{Item}
use Rattle.nt_items.specs.declared.item.Item.TheViews.{out-Item}
use Rattle.nt_unit_names.specs.Faults.{PackageFault, unit_of}
use Rattle.nt_unit_names.proofs.check.packages_fault.Given as goal

abbrev pub invariant-loop-item : goal.invariant-loop-item
invariant-loop-item l = Best (Among (λ (k : ℕ) (x : Item) (r : Refusal). PackageFault (unit_of l.units) (out-Item x) r) l.item-index l.items) l.least
