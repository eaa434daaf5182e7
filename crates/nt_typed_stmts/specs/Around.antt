-- What stands around a statement, and the loop variables that statements declare (IEEE 1800-2017, 12.7.1, 12.7.3).
use Rattle.std.specs.Prelude.{ℕ, suc, ◌+◌, ◌++◌, Bool, true, false, List, [], ◌∷◌, map, Option, Some, None}
use Rattle.nt_ast.specs.declared.expr.Expr.{Expr}
use Rattle.nt_ast.specs.declared.stmt.Stmt.{Stmt}
use Rattle.nt_ast.specs.declared.stmt.Stmt.TheOpen.{Stmt-F}
use Rattle.nt_ast.specs.declared.stmt.Stmt.TheFolds.{fold-Stmt}
use Rattle.nt_design.specs.Parts.{int_leaf}
use Rattle.nt_kinds.specs.declared.kind.Kind.{Kind}
use Rattle.nt_typing.specs.Kinds.{plain}
use Rattle.nt_typing.specs.declared.scope.Entity.TheVariants as e
use Rattle.nt_typing.specs.declared.scope.Inside.{Inside}
use Rattle.nt_typing.specs.declared.scope.Inside.TheVariants as inside
use Rattle.nt_typing.specs.declared.scope.Scope.{Scope}

-- what names mean, the number of the first loop variable and that of the next one, and whether a loop stands around
pub record Around : Type 0 where
  pub scope : Scope
  pub first : ℕ
  pub next : ℕ
  pub looped : Bool

abbrev pub is_function : Inside → Bool
is_function inside.Procedure = false
is_function (inside.Function result) = true
is_function inside.Other = false

-- ---- loop variables
abbrev pub or_zero : Option ℕ → ℕ
or_zero None = 0
or_zero (Some n) = n

abbrev pub total : List ℕ → ℕ
total [] = 0
total (n ∷ ns) = n + total ns

-- one more, where a loop declares its variable
abbrev pub counted : Bool → ℕ → ℕ
counted true n = suc n
counted false n = n

-- how many loop variables a statement declares
abbrev pub loops_step : Stmt-F ℕ → ℕ
loops_step (Stmt-F.Null at) = 0
loops_step (Stmt-F.Block at xs) = total xs
loops_step (Stmt-F.Assign at x y) = 0
loops_step (Stmt-F.Nonblocking at x y) = 0
loops_step (Stmt-F.If at x y other) = y + or_zero other
loops_step (Stmt-F.Case at x arms other) = total (map (λ arm. arm.1) arms) + or_zero other
loops_step (Stmt-F.While at x y) = y
loops_step (Stmt-F.Repeat at x y) = y
loops_step (Stmt-F.For at fresh p name x y z v) = counted fresh (z + v)
loops_step (Stmt-F.Forever at y) = y
loops_step (Stmt-F.Foreach at p array q index y) = suc y
loops_step (Stmt-F.Delay at x y) = y
loops_step (Stmt-F.Event at any xs y) = y
loops_step (Stmt-F.Wait at x y) = y
loops_step (Stmt-F.Return at x) = 0
loops_step (Stmt-F.Break at) = 0
loops_step (Stmt-F.Continue at) = 0
loops_step (Stmt-F.Call at path xs) = 0
loops_step (Stmt-F.Display at text xs) = 0
loops_step (Stmt-F.Finish at) = 0

unfoldable pub loops_of : Stmt → ℕ
loops_of = fold-Stmt ℕ loops_step

-- those of the arms of a `case`
abbrev pub arm_loops : List (List Expr × Stmt) → ℕ
arm_loops arms = total (map (λ arm. loops_of arm.1) arms)

-- ---- around what follows, and around a body
abbrev pub past : ℕ → Around → Around
past n w = record { scope = w.scope; first = w.first; next = w.next + n; looped = w.looped }

abbrev pub in_loop : Around → Around
in_loop w = record { scope = w.scope; first = w.first; next = w.next; looped = true }

-- a loop variable is an `int`
abbrev pub int_kind : Kind
int_kind = plain int_leaf

-- a scope with one more name, which hides those before it
abbrev pub with_local : Scope → List ℕ → ℕ → Scope
with_local s name n = record { names = s.names ++ (name, e.Local n int_kind) ∷ []; inside = s.inside }

-- around the body of a loop that declares its variable
abbrev pub declared : Around → List ℕ → Around
declared w name = record { scope = with_local w.scope name w.next; first = w.first; next = suc w.next; looped = true }

-- around the test, the step and the body of a `for`
abbrev pub entered : Bool → Around → List ℕ → Around
entered true w name = declared w name
entered false w name = in_loop w
