-- What holds of typed statements.
use Rattle.std.specs.Prelude.{◌≡◌, true, false, [], All}
use Rattle.nt_value.specs.declared.place.Place.{Place}
use Rattle.nt_diag.specs.declared.rule.Rule.{Rule}
use Rattle.nt_ast.specs.declared.stmt.Stmt.{Stmt}
use Rattle.nt_ast.specs.declared.stmt.Stmt.TheViews.{out-Stmt}
use Rattle.nt_design.specs.Rules.{is_slot, is_return, is_nonblocking, controls_of, jumps_of, specials_of, act_fits}
use Rattle.nt_design.specs.Reads.{targets_of}
use Rattle.nt_design.specs.Shapes.{Scope as Design}
use Rattle.nt_design.specs.declared.act.Act.{Act}
use Rattle.nt_typed_stmts.specs.Around.{Around, is_function, loops_of}
use Rattle.nt_typed_stmts.specs.Binds.{BindsStatement}
use Rattle.nt_typed_stmts.specs.Faults.{StatementFault}
use Rattle.nt_typed_stmts.specs.Fits.{Serves, result_in}

-- a statement has at most one typed statement
abbrev pub OneStatement : Type 0
OneStatement = (w : Around) (x : Stmt) (a b : Act) → BindsStatement w (out-Stmt x) a → BindsStatement w (out-Stmt x) b → a ≡ b

-- and what has one has no fault
abbrev pub NoStatementFault : Type 0
NoStatementFault = (w : Around) (x : Stmt) (a : Act) (r : Rule) (p : Place) → BindsStatement w (out-Stmt x) a → StatementFault w (out-Stmt x) r p → ⊥

-- it is as a well-formed design asks: each part has the shape of its place; no net is written (6.5); a function has no timing control
-- (13.4) and no nonblocking assignment; no jump leaves a loop that isn't there, and none returns from a procedure (12.8)
pub record StatementsFit : Type 0 where
  pub shapes : (w : Around) (d : Design) (x : Stmt) (a : Act) → Serves w (loops_of x) d → BindsStatement w (out-Stmt x) a → act_fits d (result_in w.scope.inside) a ≡ true
  pub no_net : (w : Around) (x : Stmt) (a : Act) → BindsStatement w (out-Stmt x) a → All (λ t. is_slot t ≡ false) (targets_of a)
  pub no_timing : (w : Around) (x : Stmt) (a : Act) → is_function w.scope.inside ≡ true → BindsStatement w (out-Stmt x) a → controls_of a ≡ []
  pub no_nonblocking : (w : Around) (x : Stmt) (a : Act) → is_function w.scope.inside ≡ true → BindsStatement w (out-Stmt x) a → All (λ s. is_nonblocking s ≡ false) (specials_of a)
  pub no_loop_left : (w : Around) (x : Stmt) (a : Act) → w.looped ≡ false → BindsStatement w (out-Stmt x) a → All (λ j. is_return j ≡ true) (jumps_of a)
  pub no_return : (w : Around) (x : Stmt) (a : Act) → is_function w.scope.inside ≡ false → BindsStatement w (out-Stmt x) a → All (λ j. is_return j ≡ false) (jumps_of a)
