use Rattle.std.proofs.Common.{ℕ}
use Rattle.nt_diag.specs.declared.refusal.Refusal.{Refusal}
use Rattle.nt_diag.specs.Order.{Among}
use Rattle.nt_diag.proofs.Least.{Best}
use Rattle.nt_ast.specs.declared.path.Declared.{Declared}
use Rattle.nt_ast.specs.declared.types.TypeTree.{TypeTree}
use Rattle.nt_ast.specs.declared.types.TypeTree.TheViews.{out-TypeTree}
use Rattle.nt_own_names.specs.Twice.{TypeTwice}
use Rattle.nt_own_names.proofs.types.+types.Given as goal

abbrev pub invariant-inner_twice-loop-kind : goal.invariant-inner_twice-loop-kind
invariant-inner_twice-loop-kind l = Best (Among (λ (k : ℕ) (m : TypeTree × Declared) (r : Refusal). TypeTwice (out-TypeTree m.0) r) l.kind-index l.members) l.least
