-- Where the nodes of trees stand in the source: in the order of its text (IEEE 1800-2017, annex A).
use Rattle.std.specs.Prelude.{◌≡◌, ℕ, ◌≤◌, ◌<◌, Bool, List, [], ◌∷◌, ◌++◌, map, Option, Some, None}
use Rattle.nt_value.specs.declared.place.Place.{Place}
use Rattle.nt_value.specs.declared.literal.Literal.{Literal}
use Rattle.nt_value.specs.declared.operator.Unary.{Unary}
use Rattle.nt_value.specs.declared.operator.Binary.{Binary}
use Rattle.nt_value.specs.declared.kind.Edge.{Edge}
use Rattle.nt_ast.specs.declared.path.Path.{Path}
use Rattle.nt_ast.specs.declared.path.Declared.{Declared}
use Rattle.nt_ast.specs.declared.expr.Key.{Key}
use Rattle.nt_ast.specs.declared.expr.Expr.{Expr}
use Rattle.nt_ast.specs.declared.expr.Expr.TheOpen.{Expr-F}
use Rattle.nt_ast.specs.declared.expr.Expr.TheViews.{out-Expr}
use Rattle.nt_ast.specs.declared.stmt.Stmt.{Stmt}
use Rattle.nt_ast.specs.declared.stmt.Stmt.TheOpen.{Stmt-F}
use Rattle.nt_ast.specs.declared.stmt.Stmt.TheViews.{out-Stmt}
use Rattle.nt_ast.specs.declared.types.IntWord.{IntWord}
use Rattle.nt_ast.specs.declared.types.TypeTree.{TypeTree}
use Rattle.nt_ast.specs.declared.types.TypeTree.TheOpen.{TypeTree-F}
use Rattle.nt_ast.specs.declared.types.TypeTree.TheViews.{out-TypeTree}

-- a tree's first node, with trees below it
abbrev pub Node : Type 0
Node = Expr-F Expr

-- where an expression begins
abbrev pub place_of : Node → Place
place_of (Expr-F.Literal at v) = at
place_of (Expr-F.Read at path) = at
place_of (Expr-F.Member at x p name) = at
place_of (Expr-F.Item at x y) = at
place_of (Expr-F.Part at x y z) = at
place_of (Expr-F.Indexed at x y z up) = at
place_of (Expr-F.Unary at op x) = at
place_of (Expr-F.Binary at op x y) = at
place_of (Expr-F.Choose at p x y) = at
place_of (Expr-F.Concat at xs) = at
place_of (Expr-F.Repeat at x xs) = at
place_of (Expr-F.Pattern at items) = at
place_of (Expr-F.Call at path xs) = at
place_of (Expr-F.Size at x) = at
place_of (Expr-F.Time at) = at
place_of (Expr-F.Sign at s x) = at

-- where a statement begins
abbrev pub statement_place : Stmt-F Stmt → Place
statement_place (Stmt-F.Null at) = at
statement_place (Stmt-F.Block at xs) = at
statement_place (Stmt-F.Assign at x y) = at
statement_place (Stmt-F.Nonblocking at x y) = at
statement_place (Stmt-F.If at x y other) = at
statement_place (Stmt-F.Case at x arms other) = at
statement_place (Stmt-F.While at x y) = at
statement_place (Stmt-F.Repeat at x y) = at
statement_place (Stmt-F.For at fresh p name x y z v) = at
statement_place (Stmt-F.Forever at y) = at
statement_place (Stmt-F.Foreach at p array q index y) = at
statement_place (Stmt-F.Delay at x y) = at
statement_place (Stmt-F.Event at any xs y) = at
statement_place (Stmt-F.Wait at x y) = at
statement_place (Stmt-F.Return at x) = at
statement_place (Stmt-F.Break at) = at
statement_place (Stmt-F.Continue at) = at
statement_place (Stmt-F.Call at path xs) = at
statement_place (Stmt-F.Display at text xs) = at
statement_place (Stmt-F.Finish at) = at

-- in this file, from the first offset on and below the second
pub record Within (file i j : ℕ) (at : Place) : Type 0 where
  pub same : at.file ≡ file
  pub from : i ≤ at.offset
  pub below : at.offset < j

mutual
  -- The place of the node lies from the first offset on and below the second. Its parts lie in intervals that follow one another
  -- in the order of the source, at or after the node's own place.
  pub data Placed (file : ℕ) : ℕ → ℕ → Node → Type 0 where
    literal_in : {i j : ℕ} {at : Place} {v : Literal} → Within file i j at → Placed file i j (Expr-F.Literal at v)
    read_in : {i j : ℕ} {at : Place} {path : Path} → Within file i j at → Within file at.offset j path.at → Placed file i j (Expr-F.Read at path)
    member_in : {i h j : ℕ} {at p : Place} {x : Expr} {name : List ℕ}
        → Within file i j at → Placed file at.offset h (out-Expr x) → Within file h j p → Placed file i j (Expr-F.Member at x p name)
    item_in : {i h j : ℕ} {at : Place} {x y : Expr}
        → Within file i j at → Placed file at.offset h (out-Expr x) → Placed file h j (out-Expr y) → Placed file i j (Expr-F.Item at x y)
    part_in : {i g h j : ℕ} {at : Place} {x y z : Expr}
        → Within file i j at → Placed file at.offset g (out-Expr x) → Placed file g h (out-Expr y) → Placed file h j (out-Expr z)
        → Placed file i j (Expr-F.Part at x y z)
    indexed_in : {i g h j : ℕ} {at : Place} {x y z : Expr} {up : Bool}
        → Within file i j at → Placed file at.offset g (out-Expr x) → Placed file g h (out-Expr y) → Placed file h j (out-Expr z)
        → Placed file i j (Expr-F.Indexed at x y z up)
    unary_in : {i j : ℕ} {at : Place} {op : Unary} {x : Expr}
        → Within file i j at → Placed file at.offset j (out-Expr x) → Placed file i j (Expr-F.Unary at op x)
    binary_in : {i h j : ℕ} {at : Place} {op : Binary} {x y : Expr}
        → Within file i j at → Placed file at.offset h (out-Expr x) → Placed file h j (out-Expr y) → Placed file i j (Expr-F.Binary at op x y)
    choose_in : {i g h j : ℕ} {at : Place} {x y z : Expr}
        → Within file i j at → Placed file at.offset g (out-Expr x) → Placed file g h (out-Expr y) → Placed file h j (out-Expr z)
        → Placed file i j (Expr-F.Choose at x y z)
    concat_in : {i j : ℕ} {at : Place} {xs : List Expr} → Within file i j at → AllPlaced file at.offset j xs → Placed file i j (Expr-F.Concat at xs)
    repeat_in : {i h j : ℕ} {at : Place} {x : Expr} {xs : List Expr}
        → Within file i j at → Placed file at.offset h (out-Expr x) → AllPlaced file h j xs → Placed file i j (Expr-F.Repeat at x xs)
    pattern_in : {i j : ℕ} {at : Place} {xs : List (Option Key × Expr)}
        → Within file i j at → EachPlaced file at.offset j xs → Placed file i j (Expr-F.Pattern at xs)
    call_in : {i h j : ℕ} {at : Place} {path : Path} {xs : List Expr}
        → Within file i j at → Within file at.offset h path.at → AllPlaced file h j xs → Placed file i j (Expr-F.Call at path xs)
    size_in : {i j : ℕ} {at : Place} {x : Expr} → Within file i j at → Placed file at.offset j (out-Expr x) → Placed file i j (Expr-F.Size at x)
    time_in : {i j : ℕ} {at : Place} → Within file i j at → Placed file i j (Expr-F.Time at)
    sign_in : {i j : ℕ} {at : Place} {to : Bool} {x : Expr}
        → Within file i j at → Placed file at.offset j (out-Expr x) → Placed file i j (Expr-F.Sign at to x)

  -- several, in order
  pub data AllPlaced (file : ℕ) : ℕ → ℕ → List Expr → Type 0 where
    no_parts : {i j : ℕ} → i ≤ j → AllPlaced file i j []
    more_parts : {i h j : ℕ} {x : Expr} {xs : List Expr} → Placed file i h (out-Expr x) → AllPlaced file h j xs → AllPlaced file i j (x ∷ xs)

  -- the items of a pattern, in order
  pub data EachPlaced (file : ℕ) : ℕ → ℕ → List (Option Key × Expr) → Type 0 where
    no_items : {i j : ℕ} → i ≤ j → EachPlaced file i j []
    more_items : {i h j : ℕ} {key : Option Key} {x : Expr} {xs : List (Option Key × Expr)}
        → Placed file i h (out-Expr x) → EachPlaced file h j xs → EachPlaced file i j ((key, x) ∷ xs)

-- an expression that may be missing
pub data MaybePlaced (file : ℕ) : ℕ → ℕ → Option Expr → Type 0 where
  none_in : {i j : ℕ} → i ≤ j → MaybePlaced file i j None
  some_in : {i j : ℕ} {x : Expr} → Placed file i j (out-Expr x) → MaybePlaced file i j (Some x)

-- ---- types (6.11, 6.18, 7.2)

-- the two ends of a range
pub data RangePlaced (file : ℕ) : ℕ → ℕ → Option (Expr × Expr) → Type 0 where
  no_range : {i j : ℕ} → i ≤ j → RangePlaced file i j None
  range_in : {i h j : ℕ} {x y : Expr} → Placed file i h (out-Expr x) → Placed file h j (out-Expr y) → RangePlaced file i j (Some (x, y))

pub data DimsPlaced (file : ℕ) : ℕ → ℕ → List (Expr × Option Expr) → Type 0 where
  no_dims : {i j : ℕ} → i ≤ j → DimsPlaced file i j []
  more_dims : {i g h j : ℕ} {x : Expr} {y : Option Expr} {xs : List (Expr × Option Expr)}
      → Placed file i g (out-Expr x) → MaybePlaced file g h y → DimsPlaced file h j xs → DimsPlaced file i j ((x, y) ∷ xs)

-- declared names with their dimensions and first values
pub data DeclaredPlaced (file : ℕ) : ℕ → ℕ → List Declared → Type 0 where
  no_names : {i j : ℕ} → i ≤ j → DeclaredPlaced file i j []
  more_names : {i g k j : ℕ} {d : Declared} {ds : List Declared}
      → Within file i g d.at → DimsPlaced file d.at.offset k d.dims → MaybePlaced file k g d.start → DeclaredPlaced file g j ds
      → DeclaredPlaced file i j (d ∷ ds)

mutual
  pub data TypePlaced (file : ℕ) : ℕ → ℕ → TypeTree-F TypeTree → Type 0 where
    integral_in : {i j : ℕ} {at : Place} {word : IntWord} {signed : Option Bool} {range : Option (Expr × Expr)}
        → Within file i j at → RangePlaced file at.offset j range → TypePlaced file i j (TypeTree-F.Integral at word signed range)
    struct_in : {i j : ℕ} {at : Place} {members : List (TypeTree × Declared)}
        → Within file i j at → MembersPlaced file at.offset j members → TypePlaced file i j (TypeTree-F.Struct at members)
    named_in : {i j : ℕ} {at : Place} {path : Path}
        → Within file i j at → Within file at.offset j path.at → TypePlaced file i j (TypeTree-F.Named at path)
    void_in : {i j : ℕ} {at : Place} → Within file i j at → TypePlaced file i j (TypeTree-F.Void at)

  -- the members of a structure: all of one declaration have one type, which stands before them
  pub data MembersPlaced (file : ℕ) : ℕ → ℕ → List (TypeTree × Declared) → Type 0 where
    no_members : {i j : ℕ} → i ≤ j → MembersPlaced file i j []
    more_members : {i g h j : ℕ} (of : TypeTree) (ds : List Declared) {ms : List (TypeTree × Declared)}
        → TypePlaced file i g (out-TypeTree of) → DeclaredPlaced file g h ds → MembersPlaced file h j ms
        → MembersPlaced file i j (map (λ d. (of, d)) ds ++ ms)

-- ---- statements (A.6)

pub data EventsPlaced (file : ℕ) : ℕ → ℕ → List (Edge × Expr) → Type 0 where
  no_events : {i j : ℕ} → i ≤ j → EventsPlaced file i j []
  more_events : {i h j : ℕ} {edge : Edge} {x : Expr} {xs : List (Edge × Expr)}
      → Placed file i h (out-Expr x) → EventsPlaced file h j xs → EventsPlaced file i j ((edge, x) ∷ xs)

mutual
  -- As of expressions. The step of `for` stands before its body.
  pub data StatementPlaced (file : ℕ) : ℕ → ℕ → Stmt-F Stmt → Type 0 where
    null_in : {i j : ℕ} {at : Place} → Within file i j at → StatementPlaced file i j (Stmt-F.Null at)
    block_in : {i j : ℕ} {at : Place} {xs : List Stmt}
        → Within file i j at → StatementsPlaced file at.offset j xs → StatementPlaced file i j (Stmt-F.Block at xs)
    assign_in : {i h j : ℕ} {at : Place} {x y : Expr}
        → Within file i j at → Placed file at.offset h (out-Expr x) → Placed file h j (out-Expr y) → StatementPlaced file i j (Stmt-F.Assign at x y)
    -- `a op= b` and `a++`, whose left side stands in the tree twice, at one place (11.4.1, 11.4.2)
    compound_in : {i h j : ℕ} {at : Place} {op : Binary} {x y z : Expr}
        → Within file i j at → Placed file at.offset h (out-Expr x) → out-Expr y ≡ Expr-F.Binary at op x z → Placed file h j (out-Expr z)
        → StatementPlaced file i j (Stmt-F.Assign at x y)
    nonblocking_in : {i h j : ℕ} {at : Place} {x y : Expr}
        → Within file i j at → Placed file at.offset h (out-Expr x) → Placed file h j (out-Expr y) → StatementPlaced file i j (Stmt-F.Nonblocking at x y)
    if_in : {i g h j : ℕ} {at : Place} {x : Expr} {y : Stmt} {other : Option Stmt}
        → Within file i j at → Placed file at.offset g (out-Expr x) → StatementPlaced file g h (out-Stmt y) → OtherPlaced file h j other
        → StatementPlaced file i j (Stmt-F.If at x y other)
    case_in : {i g h j : ℕ} {at : Place} {x : Expr} {arms : List (List Expr × Stmt)} {other : Option Stmt}
        → Within file i j at → Placed file at.offset g (out-Expr x) → ArmsPlaced file g h arms → OtherPlaced file h j other
        → StatementPlaced file i j (Stmt-F.Case at x arms other)
    while_in : {i h j : ℕ} {at : Place} {x : Expr} {y : Stmt}
        → Within file i j at → Placed file at.offset h (out-Expr x) → StatementPlaced file h j (out-Stmt y) → StatementPlaced file i j (Stmt-F.While at x y)
    repeat_stmt_in : {i h j : ℕ} {at : Place} {x : Expr} {y : Stmt}
        → Within file i j at → Placed file at.offset h (out-Expr x) → StatementPlaced file h j (out-Stmt y) → StatementPlaced file i j (Stmt-F.Repeat at x y)
    for_in : {i d f g h j : ℕ} {at p : Place} {fresh : Bool} {name : List ℕ} {x y : Expr} {z v : Stmt}
        → Within file i j at → Within file at.offset d p → Placed file d f (out-Expr x) → Placed file f g (out-Expr y) → StatementPlaced file g h (out-Stmt z)
        → StatementPlaced file h j (out-Stmt v) → StatementPlaced file i j (Stmt-F.For at fresh p name x y z v)
    forever_in : {i j : ℕ} {at : Place} {y : Stmt}
        → Within file i j at → StatementPlaced file at.offset j (out-Stmt y) → StatementPlaced file i j (Stmt-F.Forever at y)
    foreach_in : {i g h j : ℕ} {at p q : Place} {array index : List ℕ} {y : Stmt}
        → Within file i j at → Within file at.offset g p → Within file g h q → StatementPlaced file h j (out-Stmt y)
        → StatementPlaced file i j (Stmt-F.Foreach at p array q index y)
    delay_in : {i h j : ℕ} {at : Place} {x : Expr} {y : Stmt}
        → Within file i j at → Placed file at.offset h (out-Expr x) → StatementPlaced file h j (out-Stmt y) → StatementPlaced file i j (Stmt-F.Delay at x y)
    event_in : {i h j : ℕ} {at : Place} {any : Bool} {xs : List (Edge × Expr)} {y : Stmt}
        → Within file i j at → EventsPlaced file at.offset h xs → StatementPlaced file h j (out-Stmt y) → StatementPlaced file i j (Stmt-F.Event at any xs y)
    wait_in : {i h j : ℕ} {at : Place} {x : Expr} {y : Stmt}
        → Within file i j at → Placed file at.offset h (out-Expr x) → StatementPlaced file h j (out-Stmt y) → StatementPlaced file i j (Stmt-F.Wait at x y)
    return_in : {i j : ℕ} {at : Place} {x : Option Expr} → Within file i j at → MaybePlaced file at.offset j x → StatementPlaced file i j (Stmt-F.Return at x)
    break_in : {i j : ℕ} {at : Place} → Within file i j at → StatementPlaced file i j (Stmt-F.Break at)
    continue_in : {i j : ℕ} {at : Place} → Within file i j at → StatementPlaced file i j (Stmt-F.Continue at)
    called_in : {i h j : ℕ} {at : Place} {path : Path} {xs : List Expr}
        → Within file i j at → Within file at.offset h path.at → AllPlaced file h j xs → StatementPlaced file i j (Stmt-F.Call at path xs)
    display_in : {i j : ℕ} {at : Place} {text : List ℕ} {xs : List Expr}
        → Within file i j at → AllPlaced file at.offset j xs → StatementPlaced file i j (Stmt-F.Display at text xs)
    finish_in : {i j : ℕ} {at : Place} → Within file i j at → StatementPlaced file i j (Stmt-F.Finish at)

  pub data StatementsPlaced (file : ℕ) : ℕ → ℕ → List Stmt → Type 0 where
    no_statements : {i j : ℕ} → i ≤ j → StatementsPlaced file i j []
    more_statements : {i h j : ℕ} {x : Stmt} {xs : List Stmt}
        → StatementPlaced file i h (out-Stmt x) → StatementsPlaced file h j xs → StatementsPlaced file i j (x ∷ xs)

  pub data ArmsPlaced (file : ℕ) : ℕ → ℕ → List (List Expr × Stmt) → Type 0 where
    no_arms_in : {i j : ℕ} → i ≤ j → ArmsPlaced file i j []
    more_arms : {i g h j : ℕ} {xs : List Expr} {y : Stmt} {arms : List (List Expr × Stmt)}
        → AllPlaced file i g xs → StatementPlaced file g h (out-Stmt y) → ArmsPlaced file h j arms → ArmsPlaced file i j ((xs, y) ∷ arms)

  -- the statement after `else` or `default`, which may be missing
  pub data OtherPlaced (file : ℕ) : ℕ → ℕ → Option Stmt → Type 0 where
    no_other : {i j : ℕ} → i ≤ j → OtherPlaced file i j None
    other_in : {i j : ℕ} {x : Stmt} → StatementPlaced file i j (out-Stmt x) → OtherPlaced file i j (Some x)
