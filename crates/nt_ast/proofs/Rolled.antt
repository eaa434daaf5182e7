-- A tree is placed as its first node is.
use Rattle.std.proofs.Common.{◌≡◌, ℕ, Bool, List, Option, sym, subst}
use denote.Hole.Carrier.{roll}
use Rattle.nt_value.specs.declared.place.Place.{Place}
use Rattle.nt_value.specs.declared.literal.Literal.{Literal}
use Rattle.nt_value.specs.declared.operator.Unary.{Unary}
use Rattle.nt_value.specs.declared.operator.Binary.{Binary}
use Rattle.nt_value.specs.declared.kind.Edge.{Edge}
use Rattle.nt_ast.specs.declared.path.Path.{Path}
use Rattle.nt_ast.specs.declared.expr.Key.{Key}
use Rattle.nt_ast.specs.declared.expr.Expr.{Expr}
use Rattle.nt_ast.specs.declared.expr.Expr.TheVariants as e
use Rattle.nt_ast.specs.declared.expr.Expr.TheOpen.{Expr-F}
use Rattle.nt_ast.specs.declared.expr.Expr.TheViews.{out-Expr, roll-Expr, out-roll-Expr}
use Rattle.nt_ast.specs.declared.stmt.Stmt.{Stmt}
use Rattle.nt_ast.specs.declared.stmt.Stmt.TheVariants as s
use Rattle.nt_ast.specs.declared.stmt.Stmt.TheOpen.{Stmt-F}
use Rattle.nt_ast.specs.declared.stmt.Stmt.TheViews.{out-Stmt, roll-Stmt, out-roll-Stmt}
use Rattle.nt_ast.specs.Places.{Node, Placed, StatementPlaced}

pub opened_binary : (at : Place) (op : Binary) (x y : Expr) → out-Expr (e.Binary at op x y) ≡ Expr-F.Binary at op x y
unfolding roll-Expr roll
opened_binary at op x y = out-roll-Expr (Expr-F.Binary at op x y)

module _ {file i j : ℕ} where
  rolled : (n : Node) → Placed file i j n → Placed file i j (out-Expr (roll-Expr n))
  rolled n p = subst (λ (y : Node). Placed file i j y) (sym (out-roll-Expr n)) p

  rolled_statement : (n : Stmt-F Stmt) → StatementPlaced file i j n → StatementPlaced file i j (out-Stmt (roll-Stmt n))
  rolled_statement n p = subst (λ (y : Stmt-F Stmt). StatementPlaced file i j y) (sym (out-roll-Stmt n)) p

  pub literal_placed : {at : Place} {v : Literal} → Placed file i j (Expr-F.Literal at v) → Placed file i j (out-Expr (e.Literal at v))
  unfolding roll-Expr roll
  literal_placed {at = at} {v = v} p = rolled (Expr-F.Literal at v) p

  pub read_placed : {at : Place} {path : Path} → Placed file i j (Expr-F.Read at path) → Placed file i j (out-Expr (e.Read at path))
  unfolding roll-Expr roll
  read_placed {at = at} {path = path} p = rolled (Expr-F.Read at path) p

  pub member_placed : {at p : Place} {x : Expr} {name : List ℕ} → Placed file i j (Expr-F.Member at x p name) → Placed file i j (out-Expr (e.Member at x p name))
  unfolding roll-Expr roll
  member_placed {at = at} {p = q} {x = x} {name = name} p = rolled (Expr-F.Member at x q name) p

  pub item_placed : {at : Place} {x : Expr} {y : Expr} → Placed file i j (Expr-F.Item at x y) → Placed file i j (out-Expr (e.Item at x y))
  unfolding roll-Expr roll
  item_placed {at = at} {x = x} {y = y} p = rolled (Expr-F.Item at x y) p

  pub part_placed : {at : Place} {x : Expr} {y : Expr} {z : Expr} → Placed file i j (Expr-F.Part at x y z) → Placed file i j (out-Expr (e.Part at x y z))
  unfolding roll-Expr roll
  part_placed {at = at} {x = x} {y = y} {z = z} p = rolled (Expr-F.Part at x y z) p

  pub indexed_placed : {at : Place} {x : Expr} {y : Expr} {z : Expr} {up : Bool} → Placed file i j (Expr-F.Indexed at x y z up) → Placed file i j (out-Expr (e.Indexed at x y z up))
  unfolding roll-Expr roll
  indexed_placed {at = at} {x = x} {y = y} {z = z} {up = up} p = rolled (Expr-F.Indexed at x y z up) p

  pub unary_placed : {at : Place} {op : Unary} {x : Expr} → Placed file i j (Expr-F.Unary at op x) → Placed file i j (out-Expr (e.Unary at op x))
  unfolding roll-Expr roll
  unary_placed {at = at} {op = op} {x = x} p = rolled (Expr-F.Unary at op x) p

  pub binary_placed : {at : Place} {op : Binary} {x : Expr} {y : Expr} → Placed file i j (Expr-F.Binary at op x y) → Placed file i j (out-Expr (e.Binary at op x y))
  unfolding roll-Expr roll
  binary_placed {at = at} {op = op} {x = x} {y = y} p = rolled (Expr-F.Binary at op x y) p

  pub choose_placed : {at : Place} {x : Expr} {y : Expr} {z : Expr} → Placed file i j (Expr-F.Choose at x y z) → Placed file i j (out-Expr (e.Choose at x y z))
  unfolding roll-Expr roll
  choose_placed {at = at} {x = x} {y = y} {z = z} p = rolled (Expr-F.Choose at x y z) p

  pub concat_placed : {at : Place} {xs : List Expr} → Placed file i j (Expr-F.Concat at xs) → Placed file i j (out-Expr (e.Concat at xs))
  unfolding roll-Expr roll
  concat_placed {at = at} {xs = xs} p = rolled (Expr-F.Concat at xs) p

  pub repeat_placed : {at : Place} {x : Expr} {xs : List Expr} → Placed file i j (Expr-F.Repeat at x xs) → Placed file i j (out-Expr (e.Repeat at x xs))
  unfolding roll-Expr roll
  repeat_placed {at = at} {x = x} {xs = xs} p = rolled (Expr-F.Repeat at x xs) p

  pub pattern_placed : {at : Place} {xs : List (Option Key × Expr)} → Placed file i j (Expr-F.Pattern at xs) → Placed file i j (out-Expr (e.Pattern at xs))
  unfolding roll-Expr roll
  pattern_placed {at = at} {xs = xs} p = rolled (Expr-F.Pattern at xs) p

  pub call_placed : {at : Place} {path : Path} {xs : List Expr} → Placed file i j (Expr-F.Call at path xs) → Placed file i j (out-Expr (e.Call at path xs))
  unfolding roll-Expr roll
  call_placed {at = at} {path = path} {xs = xs} p = rolled (Expr-F.Call at path xs) p

  pub size_placed : {at : Place} {x : Expr} → Placed file i j (Expr-F.Size at x) → Placed file i j (out-Expr (e.Size at x))
  unfolding roll-Expr roll
  size_placed {at = at} {x = x} p = rolled (Expr-F.Size at x) p

  pub time_placed : {at : Place} → Placed file i j (Expr-F.Time at) → Placed file i j (out-Expr (e.Time at))
  unfolding roll-Expr roll
  time_placed {at = at} p = rolled (Expr-F.Time at) p

  pub sign_placed : {at : Place} {to : Bool} {x : Expr} → Placed file i j (Expr-F.Sign at to x) → Placed file i j (out-Expr (e.Sign at to x))
  unfolding roll-Expr roll
  sign_placed {at = at} {to = to} {x = x} p = rolled (Expr-F.Sign at to x) p

  pub null_placed : {at : Place} → StatementPlaced file i j (Stmt-F.Null at) → StatementPlaced file i j (out-Stmt (s.Null at))
  unfolding roll-Stmt roll
  null_placed {at = at} p = rolled_statement (Stmt-F.Null at) p

  pub block_placed : {at : Place} {xs : List Stmt} → StatementPlaced file i j (Stmt-F.Block at xs) → StatementPlaced file i j (out-Stmt (s.Block at xs))
  unfolding roll-Stmt roll
  block_placed {at = at} {xs = xs} p = rolled_statement (Stmt-F.Block at xs) p

  pub assign_placed : {at : Place} {x : Expr} {y : Expr} → StatementPlaced file i j (Stmt-F.Assign at x y) → StatementPlaced file i j (out-Stmt (s.Assign at x y))
  unfolding roll-Stmt roll
  assign_placed {at = at} {x = x} {y = y} p = rolled_statement (Stmt-F.Assign at x y) p

  pub nonblocking_placed : {at : Place} {x : Expr} {y : Expr} → StatementPlaced file i j (Stmt-F.Nonblocking at x y) → StatementPlaced file i j (out-Stmt (s.Nonblocking at x y))
  unfolding roll-Stmt roll
  nonblocking_placed {at = at} {x = x} {y = y} p = rolled_statement (Stmt-F.Nonblocking at x y) p

  pub if_placed : {at : Place} {x : Expr} {y : Stmt} {other : Option Stmt} → StatementPlaced file i j (Stmt-F.If at x y other) → StatementPlaced file i j (out-Stmt (s.If at x y other))
  unfolding roll-Stmt roll
  if_placed {at = at} {x = x} {y = y} {other = other} p = rolled_statement (Stmt-F.If at x y other) p

  pub case_placed : {at : Place} {x : Expr} {arms : List (List Expr × Stmt)} {other : Option Stmt} → StatementPlaced file i j (Stmt-F.Case at x arms other) → StatementPlaced file i j (out-Stmt (s.Case at x arms other))
  unfolding roll-Stmt roll
  case_placed {at = at} {x = x} {arms = arms} {other = other} p = rolled_statement (Stmt-F.Case at x arms other) p

  pub while_placed : {at : Place} {x : Expr} {y : Stmt} → StatementPlaced file i j (Stmt-F.While at x y) → StatementPlaced file i j (out-Stmt (s.While at x y))
  unfolding roll-Stmt roll
  while_placed {at = at} {x = x} {y = y} p = rolled_statement (Stmt-F.While at x y) p

  pub repeat_stmt_placed : {at : Place} {x : Expr} {y : Stmt} → StatementPlaced file i j (Stmt-F.Repeat at x y) → StatementPlaced file i j (out-Stmt (s.Repeat at x y))
  unfolding roll-Stmt roll
  repeat_stmt_placed {at = at} {x = x} {y = y} p = rolled_statement (Stmt-F.Repeat at x y) p

  pub for_placed : {at p : Place} {fresh : Bool} {name : List ℕ} {x : Expr} {y : Expr} {z : Stmt} {w : Stmt} → StatementPlaced file i j (Stmt-F.For at fresh p name x y z w) → StatementPlaced file i j (out-Stmt (s.For at fresh p name x y z w))
  unfolding roll-Stmt roll
  for_placed {at = at} {p = q} {fresh = fresh} {name = name} {x = x} {y = y} {z = z} {w = w} p = rolled_statement (Stmt-F.For at fresh q name x y z w) p

  pub forever_placed : {at : Place} {y : Stmt} → StatementPlaced file i j (Stmt-F.Forever at y) → StatementPlaced file i j (out-Stmt (s.Forever at y))
  unfolding roll-Stmt roll
  forever_placed {at = at} {y = y} p = rolled_statement (Stmt-F.Forever at y) p

  pub foreach_placed : {at p q : Place} {array : List ℕ} {index : List ℕ} {y : Stmt} → StatementPlaced file i j (Stmt-F.Foreach at p array q index y) → StatementPlaced file i j (out-Stmt (s.Foreach at p array q index y))
  unfolding roll-Stmt roll
  foreach_placed {at = at} {p = m} {q = n} {array = array} {index = index} {y = y} p = rolled_statement (Stmt-F.Foreach at m array n index y) p

  pub delay_placed : {at : Place} {x : Expr} {y : Stmt} → StatementPlaced file i j (Stmt-F.Delay at x y) → StatementPlaced file i j (out-Stmt (s.Delay at x y))
  unfolding roll-Stmt roll
  delay_placed {at = at} {x = x} {y = y} p = rolled_statement (Stmt-F.Delay at x y) p

  pub event_placed : {at : Place} {any : Bool} {xs : List (Edge × Expr)} {y : Stmt} → StatementPlaced file i j (Stmt-F.Event at any xs y) → StatementPlaced file i j (out-Stmt (s.Event at any xs y))
  unfolding roll-Stmt roll
  event_placed {at = at} {any = any} {xs = xs} {y = y} p = rolled_statement (Stmt-F.Event at any xs y) p

  pub wait_placed : {at : Place} {x : Expr} {y : Stmt} → StatementPlaced file i j (Stmt-F.Wait at x y) → StatementPlaced file i j (out-Stmt (s.Wait at x y))
  unfolding roll-Stmt roll
  wait_placed {at = at} {x = x} {y = y} p = rolled_statement (Stmt-F.Wait at x y) p

  pub return_placed : {at : Place} {x : Option Expr} → StatementPlaced file i j (Stmt-F.Return at x) → StatementPlaced file i j (out-Stmt (s.Return at x))
  unfolding roll-Stmt roll
  return_placed {at = at} {x = x} p = rolled_statement (Stmt-F.Return at x) p

  pub break_placed : {at : Place} → StatementPlaced file i j (Stmt-F.Break at) → StatementPlaced file i j (out-Stmt (s.Break at))
  unfolding roll-Stmt roll
  break_placed {at = at} p = rolled_statement (Stmt-F.Break at) p

  pub continue_placed : {at : Place} → StatementPlaced file i j (Stmt-F.Continue at) → StatementPlaced file i j (out-Stmt (s.Continue at))
  unfolding roll-Stmt roll
  continue_placed {at = at} p = rolled_statement (Stmt-F.Continue at) p

  pub called_placed : {at : Place} {path : Path} {xs : List Expr} → StatementPlaced file i j (Stmt-F.Call at path xs) → StatementPlaced file i j (out-Stmt (s.Call at path xs))
  unfolding roll-Stmt roll
  called_placed {at = at} {path = path} {xs = xs} p = rolled_statement (Stmt-F.Call at path xs) p

  pub display_placed : {at : Place} {text : List ℕ} {xs : List Expr} → StatementPlaced file i j (Stmt-F.Display at text xs) → StatementPlaced file i j (out-Stmt (s.Display at text xs))
  unfolding roll-Stmt roll
  display_placed {at = at} {text = text} {xs = xs} p = rolled_statement (Stmt-F.Display at text xs) p

  pub finish_placed : {at : Place} → StatementPlaced file i j (Stmt-F.Finish at) → StatementPlaced file i j (out-Stmt (s.Finish at))
  unfolding roll-Stmt roll
  finish_placed {at = at} p = rolled_statement (Stmt-F.Finish at) p
