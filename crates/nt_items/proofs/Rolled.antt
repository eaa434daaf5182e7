-- An item is placed as its first node is; items that follow one another.
use Rattle.std.proofs.Common.{ℕ, ◌≤◌, Bool, List, ◌++◌, Option, sym, subst, arith}
use denote.Hole.Carrier.{roll}
use Rattle.nt_value.specs.declared.place.Place.{Place}
use Rattle.nt_ast.specs.declared.path.Declared.{Declared}
use Rattle.nt_ast.specs.declared.expr.Expr.{Expr}
use Rattle.nt_ast.specs.declared.types.TypeTree.{TypeTree}
use Rattle.nt_items.specs.declared.item.PortKind.{PortKind}
use Rattle.nt_items.specs.declared.item.Port.{Port}
use Rattle.nt_items.specs.declared.item.Conn.{Conn}
use Rattle.nt_items.specs.declared.item.NettypeItem.{NettypeItem}
use Rattle.nt_items.specs.declared.item.FunctionItem.{FunctionItem}
use Rattle.nt_items.specs.declared.item.ProcedureItem.{ProcedureItem}
use Rattle.nt_items.specs.declared.item.Item.{Item}
use Rattle.nt_items.specs.declared.item.Item.TheVariants as i
use Rattle.nt_items.specs.declared.item.Item.TheOpen.{Item-F}
use Rattle.nt_items.specs.declared.item.Item.TheViews.{out-Item, roll-Item, out-roll-Item}
use Rattle.nt_items.specs.Places.{ItemPlaced, ItemsPlaced, no_items_in, more_items_in}

module _ {file k g h : ℕ} where
  rolled : (n : Item-F Item) → ItemPlaced file k g h n → ItemPlaced file k g h (out-Item (roll-Item n))
  rolled n p = subst (λ (y : Item-F Item). ItemPlaced file k g h y) (sym (out-roll-Item n)) p

  pub package_placed : {at : Place} {name : List ℕ} {xs : List Item} → ItemPlaced file k g h (Item-F.Package at name xs) → ItemPlaced file k g h (out-Item (i.Package at name xs))
  unfolding roll-Item roll
  package_placed {at = at} {name = name} {xs = xs} p = rolled (Item-F.Package at name xs) p

  pub module_placed : {at : Place} {name : List ℕ} {ps : List (Option TypeTree × Declared)} {qs : List Port} {xs : List Item} → ItemPlaced file k g h (Item-F.Module at name ps qs xs) → ItemPlaced file k g h (out-Item (i.Module at name ps qs xs))
  unfolding roll-Item roll
  module_placed {at = at} {name = name} {ps = ps} {qs = qs} {xs = xs} p = rolled (Item-F.Module at name ps qs xs) p

  pub import_placed : {at : Place} {scope : List ℕ} {name : Option (List ℕ)} → ItemPlaced file k g h (Item-F.Import at scope name) → ItemPlaced file k g h (out-Item (i.Import at scope name))
  unfolding roll-Item roll
  import_placed {at = at} {scope = scope} {name = name} p = rolled (Item-F.Import at scope name) p

  pub typedef_placed : {at : Place} {of : TypeTree} {what : Declared} → ItemPlaced file k g h (Item-F.Typedef at of what) → ItemPlaced file k g h (out-Item (i.Typedef at of what))
  unfolding roll-Item roll
  typedef_placed {at = at} {of = of} {what = what} p = rolled (Item-F.Typedef at of what) p

  pub nettype_placed : {n : NettypeItem} → ItemPlaced file k g h (Item-F.Nettype n) → ItemPlaced file k g h (out-Item (i.Nettype n))
  unfolding roll-Item roll
  nettype_placed {n = n} p = rolled (Item-F.Nettype n) p

  pub function_placed : {f : FunctionItem} → ItemPlaced file k g h (Item-F.Function f) → ItemPlaced file k g h (out-Item (i.Function f))
  unfolding roll-Item roll
  function_placed {f = f} p = rolled (Item-F.Function f) p

  pub param_placed : {at : Place} {own : Bool} {kind : Option TypeTree} {what : Declared} → ItemPlaced file k g h (Item-F.Param at own kind what) → ItemPlaced file k g h (out-Item (i.Param at own kind what))
  unfolding roll-Item roll
  param_placed {at = at} {own = own} {kind = kind} {what = what} p = rolled (Item-F.Param at own kind what) p

  pub net_placed : {at : Place} {kind : PortKind} {of : TypeTree} {what : Declared} → ItemPlaced file k g h (Item-F.Net at kind of what) → ItemPlaced file k g h (out-Item (i.Net at kind of what))
  unfolding roll-Item roll
  net_placed {at = at} {kind = kind} {of = of} {what = what} p = rolled (Item-F.Net at kind of what) p

  pub var_placed : {at : Place} {of : TypeTree} {what : Declared} → ItemPlaced file k g h (Item-F.Var at of what) → ItemPlaced file k g h (out-Item (i.Var at of what))
  unfolding roll-Item roll
  var_placed {at = at} {of = of} {what = what} p = rolled (Item-F.Var at of what) p

  pub assign_placed : {at : Place} {x y : Expr} → ItemPlaced file k g h (Item-F.Assign at x y) → ItemPlaced file k g h (out-Item (i.Assign at x y))
  unfolding roll-Item roll
  assign_placed {at = at} {x = x} {y = y} p = rolled (Item-F.Assign at x y) p

  pub instance_placed : {at module_at : Place} {of name : List ℕ} {ps qs : List Conn} → ItemPlaced file k g h (Item-F.Instance at module_at of ps name qs) → ItemPlaced file k g h (out-Item (i.Instance at module_at of ps name qs))
  unfolding roll-Item roll
  instance_placed {at = at} {module_at = module_at} {of = of} {name = name} {ps = ps} {qs = qs} p = rolled (Item-F.Instance at module_at of ps name qs) p

  pub procedure_placed : {n : ProcedureItem} → ItemPlaced file k g h (Item-F.Procedure n) → ItemPlaced file k g h (out-Item (i.Procedure n))
  unfolding roll-Item roll
  procedure_placed {n = n} p = rolled (Item-F.Procedure n) p

-- ---- items in a row

pub items_lower : {file lo i h j : ℕ} {xs : List Item} → i ≤ h → ItemsPlaced file lo h j xs → ItemsPlaced file lo i j xs
items_lower le (no_items_in e) = no_items_in (omega (arith, le, e))
items_lower le (more_items_in a b p ps) = more_items_in a (omega (arith, le, b)) p ps

pub items_append : {file lo i h j : ℕ} {xs ys : List Item} → ItemsPlaced file lo i h xs → ItemsPlaced file lo h j ys → ItemsPlaced file lo i j (xs ++ ys)
items_append (no_items_in le) q = items_lower le q
items_append (more_items_in a b p ps) q = more_items_in a b p (items_append ps q)
