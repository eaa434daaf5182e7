-- What is used in a statement (IEEE 1800-2017, clauses 10, 12, 13).
use Rattle.std.specs.Prelude.{ℕ, if◌then◌else◌, Bool, true, false, List, [], ◌∷◌, ◌++◌, Option, Some, None}
use Rattle.nt_value.specs.declared.place.Place.{Place}
use Rattle.nt_value.specs.declared.kind.Edge.{Edge}
use Rattle.nt_ast.specs.declared.path.Path.{Path}
use Rattle.nt_ast.specs.declared.path.Declared.{Declared}
use Rattle.nt_ast.specs.declared.expr.Expr.{Expr}
use Rattle.nt_ast.specs.declared.stmt.Stmt.{Stmt}
use Rattle.nt_ast.specs.declared.stmt.Stmt.TheOpen.{Stmt-F}
use Rattle.nt_ast.specs.declared.stmt.Stmt.TheFolds.{fold-Stmt}
use Rattle.nt_ast.specs.declared.types.TypeTree.{TypeTree}
use Rattle.nt_uses.specs.declared.used.Used.{Used}
use Rattle.nt_uses.specs.Uses.{Around, Adds, named, written, system, all_of, expr_uses, if_there, assigned}

abbrev pub exprs_uses : List Expr → Adds
exprs_uses [] a before = before
exprs_uses (x ∷ xs) a before = exprs_uses xs a (expr_uses x a before)

abbrev pub events_uses : List (Edge × Expr) → Adds
events_uses [] a before = before
events_uses (x ∷ xs) a before = events_uses xs a (expr_uses x.1 a before)

-- inside a loop with this variable
abbrev pub within : List ℕ → Around → Around
within name a = record { scopes = a.scopes; own = a.own; loops = a.loops ++ name ∷ [] }

abbrev pub plain_path : Place → List ℕ → Path
plain_path at name = record { at = at; scope = None; name = name }

abbrev pub optional : Option Adds → Adds
optional None a before = before
optional (Some x) a before = x a before

abbrev pub arms_uses : List (List Expr × Adds) → Adds
arms_uses [] a before = before
arms_uses (x ∷ xs) a before = arms_uses xs a (x.1 a (exprs_uses x.0 a before))

-- `for`: a variable that is declared in it stands in a scope of its own (12.7.1), another one is written
abbrev pub for_parts : Expr → Expr → Adds → Adds → Adds
for_parts first test step body a before = body a (step a (expr_uses test a (expr_uses first a before)))

abbrev pub for_uses : Bool → Place → List ℕ → Expr → Expr → Adds → Adds → Adds
for_uses true at name first test step body a before = for_parts first test step body (within name a) before
for_uses false at name first test step body a before = for_parts first test step body a (named (plain_path at name) a (written (plain_path at name) a before))

abbrev pub stmt_step : Stmt-F Adds → Adds
stmt_step (Stmt-F.Null at) = λ a b. b
stmt_step (Stmt-F.Block at xs) = λ a b. all_of xs a b
stmt_step (Stmt-F.Assign at left right) = λ a b. assigned left right a b
stmt_step (Stmt-F.Nonblocking at left right) = λ a b. assigned left right a b
stmt_step (Stmt-F.If at test first other) = λ a b. optional other a (first a (expr_uses test a b))
stmt_step (Stmt-F.Case at test arms other) = λ a b. optional other a (arms_uses arms a (expr_uses test a b))
stmt_step (Stmt-F.While at test body) = λ a b. body a (expr_uses test a b)
stmt_step (Stmt-F.Repeat at count body) = λ a b. body a (expr_uses count a b)
stmt_step (Stmt-F.For at fresh p name first test step body) = λ a b. for_uses fresh p name first test step body a b
stmt_step (Stmt-F.Forever at body) = λ a b. body a b
stmt_step (Stmt-F.Foreach at p array q index body) = λ a b. body (within index a) (named (plain_path p array) a b)
stmt_step (Stmt-F.Delay at amount body) = λ a b. body a (expr_uses amount a b)
stmt_step (Stmt-F.Event at any on body) = λ a b. body a (events_uses on a b)
stmt_step (Stmt-F.Wait at test body) = λ a b. body a (expr_uses test a b)
stmt_step (Stmt-F.Return at value) = λ a b. if_there value a b
stmt_step (Stmt-F.Break at) = λ a b. b
stmt_step (Stmt-F.Continue at) = λ a b. b
stmt_step (Stmt-F.Call at path xs) = λ a b. exprs_uses xs a (named path a b)
stmt_step (Stmt-F.Display at text xs) = λ a b. exprs_uses xs a (system a b)
stmt_step (Stmt-F.Finish at) = λ a b. system a b

unfoldable pub stmt_uses : Stmt → Adds
stmt_uses = fold-Stmt Adds stmt_step

abbrev pub stmts_uses : List Stmt → Adds
stmts_uses [] a before = before
stmts_uses (x ∷ xs) a before = stmts_uses xs a (stmt_uses x a before)

-- the initial values of locals
abbrev pub starts_uses : List (TypeTree × Declared) → Adds
starts_uses [] a before = before
starts_uses (x ∷ xs) a before = starts_uses xs a (if_there (x.1).start a before)
