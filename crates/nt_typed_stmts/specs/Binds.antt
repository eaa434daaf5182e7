-- What a statement is bound to (IEEE 1800-2017, clauses 9, 10 and 12; 13.4.1).
use Rattle.std.specs.Prelude.{◌≡◌, ◌++◌, nat_le, replicate, ℕ, Bool, true, false, List, [], ◌∷◌, length, Option, Some, None, Ok}
use Rattle.nt_value.specs.Digits.{LeafValue, IsFilled}
use Rattle.nt_value.specs.declared.kind.Edge.{Edge}
use Rattle.nt_value.specs.declared.leaf.Leaf.{Leaf}
use Rattle.nt_value.specs.declared.place.Place.{Place}
use Rattle.nt_ast.specs.declared.path.Path.{Path}
use Rattle.nt_ast.specs.declared.expr.Expr.{Expr}
use Rattle.nt_ast.specs.declared.expr.Expr.TheViews.{out-Expr}
use Rattle.nt_ast.specs.declared.stmt.Stmt.{Stmt}
use Rattle.nt_ast.specs.declared.stmt.Stmt.TheOpen.{Stmt-F}
use Rattle.nt_ast.specs.declared.stmt.Stmt.TheViews.{out-Stmt}
use Rattle.nt_const.specs.Tables.{joined}
use Rattle.nt_design.specs.Parts.{int_leaf}
use Rattle.nt_design.specs.Reads.{calls_of}
use Rattle.nt_design.specs.declared.act.Act.{Act}
use Rattle.nt_design.specs.declared.act.Act.TheVariants as act
use Rattle.nt_design.specs.declared.target.Target.{Target}
use Rattle.nt_design.specs.declared.target.Target.TheVariants as target
use Rattle.nt_design.specs.declared.tree.Tree.{Tree}
use Rattle.nt_kinds.specs.declared.kind.Kind.{Kind}
use Rattle.nt_typing.specs.Constants.{Constant}
use Rattle.nt_typing.specs.Names.{meaning_of}
use Rattle.nt_typing.specs.Tables.{constant_tree, called, given}
use Rattle.nt_typing.specs.Typing.{Alone, Typed, Itself, Goes, AllGo}
use Rattle.nt_typing.specs.declared.scope.Callable.{Callable}
use Rattle.nt_typing.specs.declared.scope.Inside.TheVariants as inside
use Rattle.nt_typing.specs.declared.scope.Scope.{Scope}
use Rattle.nt_typed_stmts.specs.Lefts.{Left}
use Rattle.nt_typed_stmts.specs.Around.{Around, is_function, loops_of, arm_loops, past, in_loop, int_kind, declared, entered}
use Rattle.nt_typed_stmts.specs.Tables.{Bounds, bounds_at, IsDelay, events_of, formats_of, name_node}

-- ---- lists of expressions
-- the leaf in which they and one more are compared: the largest width, signed where all are, of four states where one is (12.5)
pub data Together : Scope → List Expr → Leaf → Leaf → Type 0 where
  together_none : {s : Scope} {l : Leaf} → Together s [] l l
  together_more : {s : Scope} {l m c : Leaf} (x : Expr) (xs : List Expr) → Alone s (out-Expr x) m → Together s xs (joined l m) c → Together s (x ∷ xs) l c

-- the trees of several in one context
pub data AllTyped : Scope → List Expr → Leaf → List Tree → Type 0 where
  none_typed : {s : Scope} {c : Leaf} → AllTyped s [] c []
  more_typed : {s : Scope} {c : Leaf} {a : Tree} {ts : List Tree} (x : Expr) (xs : List Expr)
      → Typed s (out-Expr x) c a → AllTyped s xs c ts → AllTyped s (x ∷ xs) c (a ∷ ts)

-- the trees of several, each by itself
pub data AllItself : Scope → List Expr → List Tree → Type 0 where
  none_itself : {s : Scope} → AllItself s [] []
  more_itself : {s : Scope} {l : Leaf} {a : Tree} {ts : List Tree} (x : Expr) (xs : List Expr)
      → Itself s (out-Expr x) l a → AllItself s xs ts → AllItself s (x ∷ xs) (a ∷ ts)

-- event expressions: integral, and without a call (9.4.2)
pub data Events : Scope → List (Edge × Expr) → List (Edge × Tree) → Type 0 where
  no_events : {s : Scope} → Events s [] []
  more_events : {s : Scope} {l : Leaf} {a : Tree} {es : List (Edge × Tree)} (edge : Edge) (x : Expr) (xs : List (Edge × Expr))
      → Itself s (out-Expr x) l a → calls_of a ≡ [] → Events s xs es → Events s ((edge, x) ∷ xs) ((edge, a) ∷ es)

-- all items of a `case`, in order
abbrev pub items_of : List (List Expr × Stmt) → List Expr
items_of [] = []
items_of (arm ∷ arms) = arm.0 ++ items_of arms

-- ---- loop variables
-- a `for` begins with the assignment to its variable, which the loop declares or which stands before it (12.7.1). The first value of
-- one that is declared doesn't see it
pub data Begins : Around → Bool → Place → List ℕ → Expr → Target → Tree → Type 0 where
  begins_own : {w : Around} {b : Tree} (p : Place) (name : List ℕ) (x : Expr)
      → Goes w.scope (out-Expr x) int_kind b → Begins w true p name x (target.Local w.next []) b
  begins_other : {w : Around} {k : Kind} {to : Target} {b : Tree} (p : Place) (name : List ℕ) (x : Expr)
      → Left w.scope (name_node p name) k to → Goes w.scope (out-Expr x) k b → Begins w false p name x to b

-- a nonblocking assignment writes no loop variable, which is automatic (10.4.2)
abbrev pub is_own_from : ℕ → Target → Bool
is_own_from first (target.Var v path) = false
is_own_from first (target.Slot net slot low width) = false
is_own_from first (target.Local i path) = nat_le first i

-- what is returned goes to the type of the function's result (13.4.1); outside a function nothing may be returned (12.8)
pub data Returned : Scope → Option Expr → Option Tree → Type 0 where
  nothing_returned : {s : Scope} → is_function s.inside ≡ true → Returned s None None
  value_returned : {s : Scope} {k : Kind} {a : Tree} (x : Expr) → s.inside ≡ inside.Function (Some k) → Goes s (out-Expr x) k a → Returned s (Some x) (Some a)

mutual
  pub data BindsStatement : Around → Stmt-F Stmt → Act → Type 0 where
    null : {w : Around} (at : Place) → BindsStatement w (Stmt-F.Null at) (act.Null at)
    block : {w : Around} {as' : List Act} (at : Place) (xs : List Stmt) → BindsAll w xs as' → BindsStatement w (Stmt-F.Block at xs) (act.Block as' at)
    assign : {w : Around} {k : Kind} {to : Target} {b : Tree} (at : Place) (x y : Expr)
        → Left w.scope (out-Expr x) k to → Goes w.scope (out-Expr y) k b → BindsStatement w (Stmt-F.Assign at x y) (act.Assign to b at)
    -- a function has no nonblocking assignment, which is this project's rule
    nonblocking : {w : Around} {k : Kind} {to : Target} {b : Tree} (at : Place) (x y : Expr)
        → is_function w.scope.inside ≡ false → Left w.scope (out-Expr x) k to → is_own_from w.first to ≡ false → Goes w.scope (out-Expr y) k b
        → BindsStatement w (Stmt-F.Nonblocking at x y) (act.Nonblocking to b at)
    branch : {w : Around} {l : Leaf} {t : Tree} {b : Act} {c : Option Act} (at : Place) (x : Expr) (y : Stmt) (other : Option Stmt)
        → Itself w.scope (out-Expr x) l t → BindsStatement w (out-Stmt y) b → BindsOther (past (loops_of y) w) other c
        → BindsStatement w (Stmt-F.If at x y other) (act.If t b c at)
    -- the test and all items take one leaf (12.5)
    choice : {w : Around} {l c : Leaf} {t : Tree} {bs : List (List Tree × Act)} {d : Option Act} (at : Place) (x : Expr) (arms : List (List Expr × Stmt)) (other : Option Stmt)
        → Alone w.scope (out-Expr x) l → Together w.scope (items_of arms) l c → Typed w.scope (out-Expr x) c t
        → BindsArms w c arms bs → BindsOther (past (arm_loops arms) w) other d
        → BindsStatement w (Stmt-F.Case at x arms other) (act.Case t bs d at)
    while : {w : Around} {l : Leaf} {t : Tree} {b : Act} (at : Place) (x : Expr) (y : Stmt)
        → Itself w.scope (out-Expr x) l t → BindsStatement (in_loop w) (out-Stmt y) b → BindsStatement w (Stmt-F.While at x y) (act.While t b at)
    repeated : {w : Around} {l : Leaf} {t : Tree} {b : Act} (at : Place) (x : Expr) (y : Stmt)
        → Itself w.scope (out-Expr x) l t → BindsStatement (in_loop w) (out-Stmt y) b → BindsStatement w (Stmt-F.Repeat at x y) (act.Repeat t b at)
    for : {w : Around} {l : Leaf} {to : Target} {f t : Tree} {b c : Act} (at : Place) (fresh : Bool) (p : Place) (name : List ℕ) (x y : Expr) (z v : Stmt)
        → Begins w fresh p name x to f → Itself (entered fresh w name).scope (out-Expr y) l t
        → BindsStatement (entered fresh w name) (out-Stmt z) b → BindsStatement (past (loops_of z) (entered fresh w name)) (out-Stmt v) c
        → BindsStatement w (Stmt-F.For at fresh p name x y z v) (act.For fresh to f t b c at)
    forever : {w : Around} {b : Act} (at : Place) (y : Stmt) → BindsStatement (in_loop w) (out-Stmt y) b → BindsStatement w (Stmt-F.Forever at y) (act.Forever b at)
    foreach : {w : Around} {bounds : Bounds} {b : Act} (at p : Place) (array : List ℕ) (q : Place) (index : List ℕ) (y : Stmt)
        → bounds_at w.scope p array ≡ Ok bounds → BindsStatement (declared w index) (out-Stmt y) b
        → BindsStatement w (Stmt-F.Foreach at p array q index y) (act.Foreach bounds w.next b at)
    -- a function has no timing control (13.4)
    delay : {w : Around} {v : LeafValue} {b : Act} (at : Place) (x : Expr) (y : Stmt)
        → is_function w.scope.inside ≡ false → Constant w.scope (out-Expr x) v → IsFilled v → IsDelay v → BindsStatement w (out-Stmt y) b
        → BindsStatement w (Stmt-F.Delay at x y) (act.Delay (constant_tree v) b at)
    event : {w : Around} {es : List (Edge × Tree)} {b : Act} (at : Place) (any : Bool) (xs : List (Edge × Expr)) (y : Stmt)
        → is_function w.scope.inside ≡ false → Events w.scope (events_of any xs) es → BindsStatement w (out-Stmt y) b
        → BindsStatement w (Stmt-F.Event at any xs y) (act.Event any es b at)
    wait : {w : Around} {l : Leaf} {t : Tree} {b : Act} (at : Place) (x : Expr) (y : Stmt)
        → is_function w.scope.inside ≡ false → Itself w.scope (out-Expr x) l t → BindsStatement w (out-Stmt y) b
        → BindsStatement w (Stmt-F.Wait at x y) (act.Wait t b at)
    return : {w : Around} {a : Option Tree} (at : Place) (x : Option Expr) → Returned w.scope x a → BindsStatement w (Stmt-F.Return at x) (act.Return a at)
    break : {w : Around} (at : Place) → w.looped ≡ true → BindsStatement w (Stmt-F.Break at) (act.Break at)
    continue : {w : Around} (at : Place) → w.looped ≡ true → BindsStatement w (Stmt-F.Continue at) (act.Continue at)
    call : {w : Around} {f : Callable} {ts : List Tree} (at : Place) (path : Path) (xs : List Expr)
        → called (meaning_of w.scope path) (length xs) ≡ Ok f → AllGo w.scope (given xs f.args) ts
        → BindsStatement w (Stmt-F.Call at path xs) (act.Call f.number ts at)
    display : {w : Around} {ts : List Tree} (at : Place) (text : List ℕ) (xs : List Expr)
        → formats_of text ≡ Some (length xs) → AllItself w.scope xs ts → BindsStatement w (Stmt-F.Display at text xs) (act.Display text ts at)
    finish : {w : Around} (at : Place) → BindsStatement w (Stmt-F.Finish at) (act.Finish at)

  -- several in order, each past the loop variables of those before it
  pub data BindsAll : Around → List Stmt → List Act → Type 0 where
    no_statements : {w : Around} → BindsAll w [] []
    more_statements : {w : Around} {a : Act} {as' : List Act} (x : Stmt) (xs : List Stmt)
        → BindsStatement w (out-Stmt x) a → BindsAll (past (loops_of x) w) xs as' → BindsAll w (x ∷ xs) (a ∷ as')

  pub data BindsArms : Around → Leaf → List (List Expr × Stmt) → List (List Tree × Act) → Type 0 where
    no_arms : {w : Around} {c : Leaf} → BindsArms w c [] []
    more_arms : {w : Around} {c : Leaf} {ts : List Tree} {a : Act} {bs : List (List Tree × Act)} (xs : List Expr) (y : Stmt) (arms : List (List Expr × Stmt))
        → AllTyped w.scope xs c ts → BindsStatement w (out-Stmt y) a → BindsArms (past (loops_of y) w) c arms bs
        → BindsArms w c ((xs, y) ∷ arms) ((ts, a) ∷ bs)

  -- the statement after `else` or `default`, which may be missing
  pub data BindsOther : Around → Option Stmt → Option Act → Type 0 where
    no_other : {w : Around} → BindsOther w None None
    other : {w : Around} {a : Act} (x : Stmt) → BindsStatement w (out-Stmt x) a → BindsOther w (Some x) (Some a)

-- a statement in a procedure or function whose loop variables are numbered from a first one on
pub record BindsBody (s : Scope) (first : ℕ) (x : Stmt) (a : Act) (shapes : List (List Leaf)) : Type 0 where
  pub act : BindsStatement (record { scope = s; first = first; next = first; looped = false }) (out-Stmt x) a
  pub locals : shapes ≡ replicate (loops_of x) (int_leaf ∷ [])
