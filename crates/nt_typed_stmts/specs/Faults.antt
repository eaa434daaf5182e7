-- The faults of a statement: what it asks of its parts, each with what the part lacks where it isn't so.
use Rattle.std.specs.Prelude.{◌≡◌, ◌++◌, ℕ, Bool, true, false, List, [], ◌∷◌, map, length, Option, Some, None, Result, Ok, Err}
use Rattle.nt_value.specs.Digits.{LeafValue}
use Rattle.nt_value.specs.declared.leaf.Leaf.{Leaf}
use Rattle.nt_value.specs.declared.place.Place.{Place}
use Rattle.nt_diag.specs.declared.rule.Rule.{Rule}
use Rattle.nt_diag.specs.declared.rule.Rule.TheVariants as rule
use Rattle.nt_ast.specs.Places.{Node, place_of}
use Rattle.nt_ast.specs.declared.expr.Expr.{Expr}
use Rattle.nt_ast.specs.declared.expr.Expr.TheViews.{out-Expr}
use Rattle.nt_ast.specs.declared.stmt.Stmt.{Stmt}
use Rattle.nt_ast.specs.declared.stmt.Stmt.TheOpen.{Stmt-F}
use Rattle.nt_ast.specs.declared.stmt.Stmt.TheViews.{out-Stmt}
use Rattle.nt_design.specs.Reads.{calls_of}
use Rattle.nt_design.specs.declared.target.Target.{Target}
use Rattle.nt_design.specs.declared.tree.Tree.{Tree}
use Rattle.nt_kinds.specs.declared.kind.Kind.{Kind}
use Rattle.nt_typing.specs.Constants.{Constant, Inconstant}
use Rattle.nt_typing.specs.Names.{meaning_of}
use Rattle.nt_typing.specs.Tables.{thing_leaf, called, given}
use Rattle.nt_typing.specs.Typing.{Stands, Itself, Binds}
use Rattle.nt_typing.specs.Faults.{leaf, goes, Asked, all_leaf, all_go, Fault, Among, FaultTo, Unbound}
use Rattle.nt_typing.specs.declared.scope.Callable.{Callable}
use Rattle.nt_typing.specs.declared.scope.Inside.{Inside}
use Rattle.nt_typing.specs.declared.scope.Inside.TheVariants as inside
use Rattle.nt_typing.specs.declared.scope.Scope.{Scope}
use Rattle.nt_typing.specs.declared.thing.Thing.{Thing}
use Rattle.nt_typed_stmts.specs.Lefts.{Left, LeftFault}
use Rattle.nt_typed_stmts.specs.Around.{Around, is_function, loops_of, arm_loops, past, in_loop, int_kind, declared, entered}
use Rattle.nt_typed_stmts.specs.Tables.{bounds_at, IsDelay, events_of, formats_of, is_taken, name_node}
use Rattle.nt_typed_stmts.specs.Binds.{is_own_from}

-- what is asked
pub data Ask : Type 0 where
  -- nothing can meet this: a rule is broken at a place
  broken : Rule → Place → Ask
  -- expressions, each as nt_typing asks it to be
  operands : Scope → Asked → Ask
  -- a left side, and what goes to it
  assigned : Scope → Node → Expr → Ask
  -- a left side that a nonblocking assignment may write, where loop variables are numbered from this on, and what goes to it
  deferred : Scope → ℕ → Node → Expr → Ask
  -- a value where none can be
  worthless : Scope → Expr → Ask
  delay : Scope → Expr → Ask
  event : Scope → Expr → Ask
  -- a statement
  inner : Around → Stmt → Ask

-- ---- what each statement asks, in the order of the source
-- a rule that is broken at a place, or none
abbrev pub breaks : Bool → Rule → Place → List Ask
breaks true r at = broken r at ∷ []
breaks false r at = []

abbrev pub refused_by : {A : Type 0} → Result A Rule → Place → List Ask
refused_by (Ok x) at = []
refused_by (Err r) at = broken r at ∷ []

-- a function has no timing control and no nonblocking assignment: T15 at the statement (13.4)
abbrev pub misplaced : Around → Place → List Ask
misplaced w at = breaks (is_function w.scope.inside) rule.T15 at

abbrev pub one_leaf : Scope → Expr → Ask
one_leaf s x = operands s ((leaf, x) ∷ [])

abbrev pub goes_to : Scope → Kind → Expr → Ask
goes_to s k x = operands s ((goes k, x) ∷ [])

abbrev pub all_inner : Around → List Stmt → List Ask
all_inner w [] = []
all_inner w (x ∷ xs) = inner w x ∷ all_inner (past (loops_of x) w) xs

abbrev pub all_arms : Around → List (List Expr × Stmt) → List Ask
all_arms w [] = []
all_arms w (arm ∷ arms) = operands w.scope (all_leaf arm.0) ∷ (inner w arm.1 ∷ all_arms (past (loops_of arm.1) w) arms)

abbrev pub maybe_inner : Around → Option Stmt → List Ask
maybe_inner w None = []
maybe_inner w (Some x) = inner w x ∷ []

-- the first value of a `for`
abbrev pub first_asks : Around → Bool → Place → List ℕ → Expr → Ask
first_asks w true p name x = goes_to w.scope int_kind x
first_asks w false p name x = assigned w.scope (name_node p name) x

-- the operands of a call. Those of a call that may not be called aren't looked at
abbrev pub call_asks : Scope → Place → Result Callable Rule → List Expr → List Ask
call_asks s at (Ok f) xs = operands s (all_go (given xs f.args)) ∷ []
call_asks s at (Err r) xs = broken r at ∷ []

-- what is returned: outside a function it isn't looked at (12.8, 13.4.1)
abbrev pub return_asks : Scope → Inside → Place → Option Expr → List Ask
return_asks s inside.Procedure at x = broken rule.T15 at ∷ []
return_asks s inside.Other at x = broken rule.T15 at ∷ []
return_asks s (inside.Function result) at None = []
return_asks s (inside.Function None) at (Some x) = worthless s x ∷ []
return_asks s (inside.Function (Some k)) at (Some x) = goes_to s k x ∷ []

abbrev pub not_so : Bool → Bool
not_so true = false
not_so false = true

abbrev pub asks : Around → Stmt-F Stmt → List Ask
asks w (Stmt-F.Null at) = []
asks w (Stmt-F.Block at xs) = all_inner w xs
asks w (Stmt-F.Assign at x y) = assigned w.scope (out-Expr x) y ∷ []
asks w (Stmt-F.Nonblocking at x y) = misplaced w at ++ deferred w.scope w.first (out-Expr x) y ∷ []
asks w (Stmt-F.If at x y other) = one_leaf w.scope x ∷ (inner w y ∷ maybe_inner (past (loops_of y) w) other)
asks w (Stmt-F.Case at x arms other) = one_leaf w.scope x ∷ (all_arms w arms ++ maybe_inner (past (arm_loops arms) w) other)
asks w (Stmt-F.While at x y) = one_leaf w.scope x ∷ (inner (in_loop w) y ∷ [])
asks w (Stmt-F.Repeat at x y) = one_leaf w.scope x ∷ (inner (in_loop w) y ∷ [])
asks w (Stmt-F.For at fresh p name x y z v) =
    first_asks w fresh p name x ∷ (one_leaf (entered fresh w name).scope y
    ∷ (inner (entered fresh w name) z ∷ (inner (past (loops_of z) (entered fresh w name)) v ∷ [])))
asks w (Stmt-F.Forever at y) = inner (in_loop w) y ∷ []
asks w (Stmt-F.Foreach at p array q index y) = refused_by (bounds_at w.scope p array) p ++ inner (declared w index) y ∷ []
asks w (Stmt-F.Delay at x y) = misplaced w at ++ delay w.scope x ∷ (inner w y ∷ [])
asks w (Stmt-F.Event at any xs y) = misplaced w at ++ (map (λ e. event w.scope e.1) (events_of any xs) ++ inner w y ∷ [])
asks w (Stmt-F.Wait at x y) = misplaced w at ++ one_leaf w.scope x ∷ (inner w y ∷ [])
asks w (Stmt-F.Return at x) = return_asks w.scope w.scope.inside at x
asks w (Stmt-F.Break at) = breaks (not_so w.looped) rule.T15 at
asks w (Stmt-F.Continue at) = breaks (not_so w.looped) rule.T15 at
asks w (Stmt-F.Call at path xs) = call_asks w.scope at (called (meaning_of w.scope path) (length xs)) xs
asks w (Stmt-F.Display at text xs) = breaks (not_so (is_taken (formats_of text) (length xs))) rule.T8 at ++ operands w.scope (all_leaf xs) ∷ []
asks w (Stmt-F.Finish at) = []

mutual
  -- one of the asks isn't met
  pub data Unmet : List Ask → Rule → Place → Type 0 where
    here : {r : Rule} {p : Place} (a : Ask) (rest : List Ask) → Lacks a r p → Unmet (a ∷ rest) r p
    there : {r : Rule} {p : Place} (a : Ask) (rest : List Ask) → Unmet rest r p → Unmet (a ∷ rest) r p

  pub data Lacks : Ask → Rule → Place → Type 0 where
    is_broken : (r : Rule) (p : Place) → Lacks (broken r p) r p
    operand_misses : {s : Scope} {xs : Asked} {r : Rule} {p : Place} → Among s xs r p → Lacks (operands s xs) r p
    -- what goes to a left side rests on its type
    left_faulty : {s : Scope} {x : Node} {r : Rule} {p : Place} (y : Expr) → LeftFault s x r p → Lacks (assigned s x y) r p
    right_faulty : {s : Scope} {x : Node} {k : Kind} {to : Target} {r : Rule} {p : Place} (y : Expr)
        → Left s x k to → FaultTo s (out-Expr y) k r p → Lacks (assigned s x y) r p
    deferred_left : {s : Scope} {x : Node} {n : ℕ} {r : Rule} {p : Place} (y : Expr) → LeftFault s x r p → Lacks (deferred s n x y) r p
    deferred_own : {s : Scope} {x : Node} {n : ℕ} {k : Kind} {to : Target} (y : Expr)
        → Left s x k to → is_own_from n to ≡ true → Lacks (deferred s n x y) rule.T8 (place_of x)
    deferred_right : {s : Scope} {x : Node} {n : ℕ} {k : Kind} {to : Target} {r : Rule} {p : Place} (y : Expr)
        → Left s x k to → FaultTo s (out-Expr y) k r p → Lacks (deferred s n x y) r p
    -- a function without a result returns no value: T8 at the value, which rests on the value
    worthless_faulty : {s : Scope} {x : Expr} {r : Rule} {p : Place} → Unbound s (out-Expr x) None r p → Lacks (worthless s x) r p
    worthless_value : {s : Scope} {x : Expr} {a : Tree} → Binds s (out-Expr x) None a → Lacks (worthless s x) rule.T8 (place_of (out-Expr x))
    -- a delay is a constant (T1), from 0 to 2^48 and without x or z (T3)
    delay_varies : {s : Scope} {x : Expr} {r : Rule} {p : Place} → Inconstant s (out-Expr x) r p → Lacks (delay s x) r p
    delay_outside : {s : Scope} {x : Expr} {v : LeafValue} → Constant s (out-Expr x) v → (IsDelay v → ⊥) → Lacks (delay s x) rule.T3 (place_of (out-Expr x))
    -- an event expression is singular and has no call (T13), which rests on the expression (9.4.2)
    event_faulty : {s : Scope} {x : Expr} {r : Rule} {p : Place} → Fault s (out-Expr x) r p → Lacks (event s x) r p
    event_many : {s : Scope} {x : Expr} {h : Thing} → Stands s (out-Expr x) h → thing_leaf h ≡ None → Lacks (event s x) rule.T13 (place_of (out-Expr x))
    event_calls : {s : Scope} {x : Expr} {l : Leaf} {a : Tree} → Itself s (out-Expr x) l a → (calls_of a ≡ [] → ⊥) → Lacks (event s x) rule.T13 (place_of (out-Expr x))
    inside_faulty : {w : Around} (x : Stmt) {r : Rule} {p : Place} → Unmet (asks w (out-Stmt x)) r p → Lacks (inner w x) r p

-- a fault of a statement
abbrev pub StatementFault : Around → Stmt-F Stmt → Rule → Place → Type 0
StatementFault w x r p = Unmet (asks w x) r p
