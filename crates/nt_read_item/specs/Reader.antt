-- The same items, as functions that read tokens from the left. The functions of src/ equal these.
use Rattle.std.specs.Prelude.{ℕ, suc, ◌+◌, Bool, true, false, not, if◌then◌else◌, List, [], ◌∷◌, ◌++◌, length, drop, Option, Some, None}
use Rattle.nt_value.specs.declared.place.Place.{Place}
use Rattle.nt_ast.specs.declared.path.Path.{Path}
use Rattle.nt_ast.specs.declared.path.Declared.{Declared}
use Rattle.nt_ast.specs.declared.expr.Expr.{Expr}
use Rattle.nt_ast.specs.declared.stmt.Stmt.{Stmt}
use Rattle.nt_ast.specs.declared.types.TypeTree.{TypeTree}
use Rattle.nt_ast.specs.declared.types.TypeTree.TheVariants as t
use Rattle.nt_items.specs.declared.item.Conn.{Conn}
use Rattle.nt_items.specs.declared.item.FunctionItem.{FunctionItem}
use Rattle.nt_items.specs.declared.item.PortKind.TheVariants as port
use Rattle.nt_items.specs.declared.item.Item.{Item}
use Rattle.nt_items.specs.declared.item.Item.TheVariants as i
use Rattle.nt_lexer.specs.declared.kinds.Mark.TheVariants as m
use Rattle.nt_lexer.specs.declared.kinds.Word.{Word}
use Rattle.nt_lexer.specs.declared.kinds.Word.TheVariants as w
use Rattle.nt_lexer.specs.declared.kinds.TokenKind.{TokenKind}
use Rattle.nt_lexer.specs.declared.kinds.TokenKind.TheVariants as k
use Rattle.nt_read_expr.specs.declared.list.Separator.TheVariants.{Comma}
use Rattle.nt_read_expr.specs.Tables.{Tokens, start}
use Rattle.nt_read_expr.specs.Reader.{Read, ◌>>=◌, either, first, is_at, expect, reference, below, whole, list_of, is_some}
use Rattle.nt_read_expr.specs.LeftSide.{left_side}
use Rattle.nt_read_stmt.specs.Reader as stmt
use Rattle.nt_read_stmt.specs.Reader.{is_word, expect_word, take_name, past_label, inside}
use Rattle.nt_read_unit.specs.Tables.{vector_of, atom_of, one_bit}
use Rattle.nt_read_unit.specs.Reader.{groups_of, is_name, named, type_in, maybe_type}
use Rattle.nt_read_item.specs.declared.front.Form.{Form}
use Rattle.nt_read_item.specs.declared.front.Form.TheVariants as form
use Rattle.nt_read_item.specs.Tables.{param_of, wire_of, proc_of, lifetime_of, type_at, plain_name, started, name_read}

-- whether this word stands first, and what follows it where it does
unfoldable pub flag : Word → Tokens → Read Bool
flag word ts = if is_word word ts then Some (true, drop 1 ts) else Some (false, ts)

-- what the function says of the first token, and what follows that
unfoldable pub first_by : {A : Type 0} → (TokenKind → Option A) → Tokens → Read A
first_by f ts = either (f (first ts)) None (λ a. Some (a, drop 1 ts))

unfoldable pub path : Tokens → Read Path
path ts = do
  (name, us) ← take_name ts
  reference (start ts) name us

unfoldable pub maybe_with : Tokens → Read (Option Path)
maybe_with ts =
    if is_word w.With ts then (do
      (x, us) ← path (drop 1 ts)
      Some (Some x, us))
    else Some (None, ts)

-- a connection without an expression
abbrev pub hole : Place → Conn
hole at = record { at = at; name = None; value = None }

-- no expression follows the mark of a connection
unfoldable pub slot_ends : Tokens → Bool
slot_ends ts = if is_at m.Comma ts then true else is_at m.RightParen ts

unfoldable pub slot_goes : Tokens → Bool
slot_goes ts = is_at m.Comma ts

unfoldable pub lifetime : Tokens → Read Bool
lifetime ts = either (lifetime_of (first ts)) (Some (false, ts)) (λ own. Some (own, drop 1 ts))

unfoldable pub dynamic : Tokens → Read Bool
dynamic ts =
    if is_at m.LeftBracket ts then (do
      us ← expect m.RightBracket (drop 1 ts)
      Some (true, us))
    else Some (false, ts)

-- the words that a variable of a function may begin with
abbrev pub begins_local : TokenKind → Bool
begins_local (k.Word w.Automatic) = true
begins_local (k.Word w.Struct) = true
begins_local kind = if is_some (vector_of kind) then true else is_some (atom_of kind)

-- a name that is a type, before one that is declared
unfoldable pub named_type : Tokens → Bool
named_type ts =
    if is_name ts then (if is_at m.Scope (drop 1 ts) then (if is_name (drop 2 ts) then is_name (drop 3 ts) else false) else is_name (drop 1 ts)) else false

unfoldable pub local_goes : Tokens → Bool
local_goes ts = if begins_local (first ts) then true else named_type ts

unfoldable pub body_goes : Tokens → Bool
body_goes ts = not (is_word w.EndFunction ts)

-- what is imported of a package
unfoldable pub imported : Place → List ℕ → Tokens → Read Item
imported at scope ts =
    if is_at m.Star ts then Some (i.Import at scope None, drop 1 ts) else (do
      (name, us) ← take_name ts
      Some (i.Import at scope (Some name), us))

unfoldable pub import_name : Tokens → Read Item
import_name ts = do
  (scope, us) ← take_name ts
  vs ← expect m.Scope us
  imported (start ts) scope vs

unfoldable pub imports : Tokens → Read (List Item)
imports ts = do
  us ← expect_word w.Import ts
  (xs, vs) ← list_of Comma import_name us
  ws ← expect m.Semicolon vs
  Some (xs, ws)

unfoldable pub link_name : Tokens → Read Item
link_name ts = do
  (name, us) ← take_name ts
  Some (i.Net (start ts) port.Interconnect (one_bit (start ts)) (plain_name (start ts) name None), us)

unfoldable pub links : Tokens → Read (List Item)
links ts = do
  us ← expect_word w.Interconnect ts
  (xs, vs) ← list_of Comma link_name us
  ws ← expect m.Semicolon vs
  Some (xs, ws)

-- a name stands first: whether it is a module's, and not a type's
unfoldable pub instance_goes : Tokens → Bool
instance_goes ts = if is_at m.Hash (drop 1 ts) then true else (if is_name (drop 1 ts) then is_at m.LeftParen (drop 2 ts) else false)

abbrev pub form_by : TokenKind → Tokens → Form
form_by (k.Word w.Import) ts = form.Import
form_by (k.Word w.Parameter) ts = form.Params
form_by (k.Word w.Localparam) ts = form.Params
form_by (k.Word w.Typedef) ts = form.Typedef
form_by (k.Word w.Nettype) ts = form.Nettype
form_by (k.Word w.Function) ts = form.Function
form_by (k.Word w.Wire) ts = form.Nets
form_by (k.Word w.Tri) ts = form.Nets
form_by (k.Word w.Interconnect) ts = form.Nets
form_by (k.Word w.Assign) ts = form.Assigns
form_by (k.Word w.Initial) ts = form.Procedure
form_by (k.Word w.Always) ts = form.Procedure
form_by (k.Word w.AlwaysComb) ts = form.Procedure
form_by (k.Word w.AlwaysFf) ts = form.Procedure
form_by (k.Name name) ts = if instance_goes ts then form.Instances else form.Vars
form_by _ ts = form.Vars

-- the form of item that begins here
unfoldable pub form_of : Tokens → Form
form_of ts = form_by (first ts) ts

module _ (limit : ℕ) where
  unfoldable pub maybe_start : Tokens → Read (Option Expr)
  maybe_start ts =
      if is_at m.Assign ts then (do
        (x, us) ← whole limit (below limit limit) (drop 1 ts)
        Some (Some x, us))
      else Some (None, ts)

  -- ---- connections

  unfoldable pub conn_value : Place → List ℕ → Tokens → Read Conn
  conn_value at name ts =
      if is_at m.RightParen ts then Some (record { at = at; name = Some name; value = None }, drop 1 ts) else (do
        (x, us) ← whole limit (below limit limit) ts
        vs ← expect m.RightParen us
        Some (record { at = at; name = Some name; value = Some x }, vs))

  -- a connection by name after that; the second place is the name's
  unfoldable pub conn_named : Place → Place → List ℕ → Tokens → Read Conn
  conn_named at place name ts =
      if is_at m.LeftParen ts then conn_value at name (drop 1 ts) else Some (record { at = at; name = Some name; value = Some (name_read place name) }, ts)

  unfoldable pub named_conn : Tokens → Read Conn
  named_conn ts = do
    us ← expect m.Dot ts
    (name, vs) ← take_name us
    conn_named (start ts) (start us) name vs

  unfoldable pub slot : Tokens → Read (List Conn)
  slot ts = do
    us ← expect m.Comma ts
    if slot_ends us then Some (hole (start ts) ∷ [], us) else (do
      (x, vs) ← whole limit (below limit limit) us
      Some (record { at = start us; name = None; value = Some x } ∷ [], vs))

  unfoldable pub by_name : Tokens → Read (List Conn)
  by_name ts = do
    (xs, us) ← list_of Comma named_conn ts
    vs ← expect m.RightParen us
    Some (xs, vs)

  unfoldable pub after_hole : Place → Tokens → Read (List Conn)
  after_hole at ts = do
    (xs, us) ← slot ts
    (ys, vs) ← groups_of slot_goes slot (length us + 1) [] us
    ws ← expect m.RightParen vs
    Some (hole at ∷ (xs ++ ys), ws)

  unfoldable pub by_order : Tokens → Read (List Conn)
  by_order ts = do
    (x, us) ← whole limit (below limit limit) ts
    (xs, vs) ← groups_of slot_goes slot (length us + 1) [] us
    ws ← expect m.RightParen vs
    Some (record { at = start ts; name = None; value = Some x } ∷ xs, ws)

  unfoldable pub conns_in : Place → Tokens → Read (List Conn)
  conns_in at ts =
      if is_at m.RightParen ts then Some ([], drop 1 ts)
      else (if is_at m.Dot ts then by_name ts else (if is_at m.Comma ts then after_hole at ts else by_order ts))

  unfoldable pub conns : Tokens → Read (List Conn)
  conns ts = do
    us ← expect m.LeftParen ts
    conns_in (start ts) us

  -- ---- functions

  unfoldable pub result : Tokens → Read (Option TypeTree)
  result ts = if is_word w.Void ts then Some (Some (t.Void (start ts)), drop 1 ts) else maybe_type limit limit ts

  unfoldable pub argument : Tokens → Read (TypeTree × Declared × Bool)
  argument ts = do
    (x, us) ← flag w.Input ts
    (of, vs) ← type_in limit limit us
    (what, ws) ← named limit limit vs
    (many, xs) ← dynamic ws
    Some ((of, what, many), xs)

  unfoldable pub arguments_in : Tokens → Read (List (TypeTree × Declared × Bool))
  arguments_in ts =
      if is_at m.RightParen ts then Some ([], drop 1 ts) else (do
        (xs, us) ← list_of Comma argument ts
        vs ← expect m.RightParen us
        Some (xs, vs))

  unfoldable pub arguments : Tokens → Read (List (TypeTree × Declared × Bool))
  arguments ts = do
    us ← expect m.LeftParen ts
    arguments_in us

  unfoldable pub local_var : Tokens → Read (List (TypeTree × Declared))
  local_var ts = do
    (x, us) ← flag w.Automatic ts
    (of, vs) ← type_in limit limit us
    (what, ws) ← named limit limit vs
    (y, xs) ← maybe_start ws
    ys ← expect m.Semicolon xs
    Some ((of, started what y) ∷ [], ys)

  -- a statement in no other
  abbrev pub statement : Tokens → Read Stmt
  statement ts = stmt.statement limit limit (inside limit limit) (suc limit) ts

  unfoldable pub body : Tokens → Read (List Stmt)
  body ts = do
    (x, us) ← statement ts
    Some (x ∷ [], us)

  unfoldable pub function_body : Tokens → Read (List (TypeTree × Declared) × List Stmt)
  function_body ts = do
    (locals, us) ← groups_of local_goes local_var (length ts + 1) [] ts
    (all, vs) ← groups_of body_goes body (length us + 1) [] us
    ws ← expect_word w.EndFunction vs
    rest ← past_label ws
    Some ((locals, all), rest)

  -- a function from its name on
  unfoldable pub function_named : Bool → Option TypeTree → Tokens → Read FunctionItem
  function_named own of ts = do
    (name, us) ← take_name ts
    (args, vs) ← arguments us
    ws ← expect m.Semicolon vs
    (b, rest) ← function_body ws
    Some (record { at = start ts; automatic = own; result = type_at of (start ts); name = name; args = args; locals = b.0; body = b.1 }, rest)

  unfoldable pub function : Tokens → Read FunctionItem
  function ts = do
    us ← expect_word w.Function ts
    (own, vs) ← lifetime us
    (of, ws) ← result vs
    function_named own of ws

  -- ---- what packages and modules have

  unfoldable pub param_name : Bool → Option TypeTree → Tokens → Read Item
  param_name own of ts = do
    (name, us) ← take_name ts
    vs ← expect m.Assign us
    (x, ws) ← whole limit (below limit limit) vs
    Some (i.Param (start ts) own of (plain_name (start ts) name (Some x)), ws)

  unfoldable pub params : Tokens → Read (List Item)
  params ts = do
    (own, us) ← first_by param_of ts
    (of, vs) ← maybe_type limit limit us
    (xs, ws) ← list_of Comma (param_name own of) vs
    zs ← expect m.Semicolon ws
    Some (xs, zs)

  unfoldable pub typedef : Tokens → Read (List Item)
  typedef ts = do
    us ← expect_word w.Typedef ts
    (of, vs) ← type_in limit limit us
    (x, ws) ← named limit limit vs
    zs ← expect m.Semicolon ws
    Some (i.Typedef x.at of x ∷ [], zs)

  unfoldable pub nettype : Tokens → Read (List Item)
  nettype ts = do
    us ← expect_word w.Nettype ts
    (of, vs) ← type_in limit limit us
    (name, ws) ← take_name vs
    (resolver, xs) ← maybe_with ws
    zs ← expect m.Semicolon xs
    Some (i.Nettype (record { at = start vs; base = of; name = name; resolver = resolver }) ∷ [], zs)

  unfoldable pub one_function : Tokens → Read (List Item)
  one_function ts = do
    (x, us) ← function ts
    Some (i.Function x ∷ [], us)

  abbrev pub package_by : Form → Tokens → Read (List Item)
  package_by form.Import ts = imports ts
  package_by form.Params ts = params ts
  package_by form.Typedef ts = typedef ts
  package_by form.Nettype ts = nettype ts
  package_by form.Function ts = one_function ts
  package_by _ ts = None

  unfoldable pub package_item : Tokens → Read (List Item)
  package_item ts = package_by (form_of ts) ts

  -- ---- what modules alone have

  unfoldable pub wire_name : Option TypeTree → Tokens → Read Item
  wire_name of ts = do
    (name, us) ← take_name ts
    (x, vs) ← maybe_start us
    Some (i.Net (start ts) port.Wire (type_at of (start ts)) (plain_name (start ts) name x), vs)

  -- wires after their word
  unfoldable pub wires : Tokens → Read (List Item)
  wires ts = do
    (of, us) ← maybe_type limit limit ts
    (xs, vs) ← list_of Comma (wire_name of) us
    ws ← expect m.Semicolon vs
    Some (xs, ws)

  unfoldable pub nets : Tokens → Read (List Item)
  nets ts = if wire_of (first ts) then wires (drop 1 ts) else links ts

  unfoldable pub var_name : TypeTree → Tokens → Read Item
  var_name of ts = do
    (x, us) ← named limit limit ts
    (y, vs) ← maybe_start us
    Some (i.Var x.at of (started x y), vs)

  unfoldable pub vars : Tokens → Read (List Item)
  vars ts = do
    (x, us) ← flag w.Var ts
    (of, vs) ← type_in limit limit us
    (xs, ws) ← list_of Comma (var_name of) vs
    zs ← expect m.Semicolon ws
    Some (xs, zs)

  unfoldable pub set : Tokens → Read Item
  set ts = do
    (x, us) ← left_side limit (below limit limit) ts
    vs ← expect m.Assign us
    (y, ws) ← whole limit (below limit limit) vs
    Some (i.Assign (start ts) x y, ws)

  unfoldable pub assigns : Tokens → Read (List Item)
  assigns ts = do
    us ← expect_word w.Assign ts
    (xs, vs) ← list_of Comma set us
    ws ← expect m.Semicolon vs
    Some (xs, ws)

  unfoldable pub instance_name : Place → List ℕ → List Conn → Tokens → Read Item
  instance_name at of ps ts = do
    (name, us) ← take_name ts
    (xs, vs) ← conns us
    Some (i.Instance (start ts) at of ps name xs, vs)

  unfoldable pub maybe_params : Tokens → Read (List Conn)
  maybe_params ts = if is_at m.Hash ts then conns (drop 1 ts) else Some ([], ts)

  unfoldable pub instances : Tokens → Read (List Item)
  instances ts = do
    (of, us) ← take_name ts
    (ps, vs) ← maybe_params us
    (xs, ws) ← list_of Comma (instance_name (start ts) of ps) vs
    zs ← expect m.Semicolon ws
    Some (xs, zs)

  unfoldable pub procedure : Tokens → Read (List Item)
  procedure ts = do
    (kind, us) ← first_by proc_of ts
    (x, vs) ← statement us
    Some (i.Procedure (record { at = start ts; kind = kind; body = x }) ∷ [], vs)

  abbrev pub module_by : Form → Tokens → Read (List Item)
  module_by form.Nets ts = nets ts
  module_by form.Vars ts = vars ts
  module_by form.Assigns ts = assigns ts
  module_by form.Instances ts = instances ts
  module_by form.Procedure ts = procedure ts
  module_by f ts = package_by f ts

  unfoldable pub module_item : Tokens → Read (List Item)
  module_item ts = module_by (form_of ts) ts
