-- What is derived as items from tokens in the order of their offsets has its places in that order.
use Rattle.std.proofs.Common.{ℕ, ◌≤◌, Bool, List, [], ◌∷◌, ◌++◌, Option, Some, None, refl, arith}
use Rattle.nt_value.specs.declared.place.Place.{Place}
use Rattle.nt_ast.specs.declared.path.Path.{Path}
use Rattle.nt_ast.specs.declared.path.Declared.{Declared}
use Rattle.nt_ast.specs.declared.expr.Expr.{Expr}
use Rattle.nt_ast.specs.declared.stmt.Stmt.{Stmt}
use Rattle.nt_ast.specs.declared.types.TypeTree.{TypeTree}
use Rattle.nt_ast.specs.declared.types.TypeTree.TheViews.{out-TypeTree}
use Rattle.nt_ast.specs.Places.{Within, read_in, MaybePlaced, none_in, some_in, no_dims, DeclaredPlaced, no_names, more_names, TypePlaced, void_in, StatementsPlaced, no_statements, more_statements}
use Rattle.nt_ast.proofs.Rolled.{read_placed}
use Rattle.nt_items.specs.declared.item.Conn.{Conn}
use Rattle.nt_items.specs.declared.item.FunctionItem.{FunctionItem}
use Rattle.nt_items.specs.declared.item.Item.{Item}
use Rattle.nt_items.specs.declared.item.Item.TheVariants as item
use Rattle.nt_items.specs.declared.item.Item.TheViews.{out-Item}
use Rattle.nt_items.specs.Places.{TypeFor, before, unwritten, MaybeTypePlaced, no_type_in, type_in, MaybePathPlaced, no_path_in, path_in as found_path_in, ConnsPlaced, no_conns_in, more_conns, ArgumentsPlaced, no_arguments_in, more_arguments, LocalsPlaced, no_locals_in, more_locals, ItemPlaced, import_in, typedef_in, nettype_in, function_in, param_in, net_in, var_in, assign_in, instance_in, procedure_in, ItemsPlaced, no_items_in, more_items_in}
use Rattle.nt_items.proofs.Rolled.{import_placed, typedef_placed, nettype_placed, function_placed, param_placed, net_placed, var_placed, assign_placed, instance_placed, procedure_placed}
use Rattle.nt_lexer.specs.declared.kinds.Token.{Token}
use Rattle.nt_lexer.specs.Laws.{Ascending}
use Rattle.nt_read_expr.specs.declared.list.Separator.TheVariants.{Comma}
use Rattle.nt_read_expr.specs.Tables.{Tokens}
use Rattle.nt_read_expr.specs.Lists.{MoreOf, no_item, next_item, ListOf, listed}
use Rattle.nt_read_expr.proofs.Begins.{left_begins, expression_begins}
use Rattle.nt_read_expr.proofs.Places.{spans, wider, halves, rest_of, front_of, first_in, start_in, from_first, from_start, from_its_start, path_in, expression_placed, left_placed}
use Rattle.nt_read_stmt.proofs.Places.{statement_placed}
use Rattle.nt_read_unit.specs.Groups.{Groups, no_group, next_group}
use Rattle.nt_read_unit.specs.Types.{Named, named, MaybeType}
use Rattle.nt_read_unit.proofs.Places.{back_of, dims_placed, named_placed, type_placed, maybe_type_placed, void_placed}
use Rattle.nt_read_item.specs.Tables.{type_at, plain_name, started}
use Rattle.nt_read_item.specs.Parts.{With, no_resolver, with_resolver, Start, no_start, start_value, NamedConn, same_name, left_open, joined_to, Slot, hole, filled, Conns, no_conns, by_order, after_hole, by_name}
use Rattle.nt_read_item.specs.Functions.{Result, no_value, value_of, Argument, argument, Arguments, no_arguments, arguments, Local, local_var, Body, body, function_body, named_function, Function, function}
use Rattle.nt_read_item.specs.Items.{ImportName, import_one, import_all, Import, imports, ParamName, param_name, Params, params, Typedef, typedef, Nettype, nettype, PackageItem, is_import, is_params, is_typedef, is_nettype, is_function, WireName, wire_name, LinkName, link_name, Nets, wires, links, VarName, var_name, Vars, vars, Set, set, Assigns, assigns, InstanceName, instance_name, MaybeParams, no_params, with_params, Instances, instances, Procedure, procedure, ModuleItem, is_shared, is_nets, is_vars, is_assigns, is_instances, is_procedure}

module _ (file : ℕ) where
  -- the same tokens, below a higher offset
  higher : {i j h : ℕ} {ts : Tokens} → j ≤ h → Ascending file i j ts → Ascending file i h ts
  higher le a = wider file (omega arith) le a

  -- ---- lists of items, which share what stands before them

  module _ (P : Tokens → Item → Type 0) (lo k b : ℕ) (from : lo ≤ k) (I : (ts : Tokens) (x : Item) (g h : ℕ) → P ts x → Ascending file g h ts → b ≤ g → ItemPlaced file k g h (out-Item x)) where
    more_listed : {ts : Tokens} {xs : List Item} {i j : ℕ} → MoreOf Comma P ts xs → Ascending file i j ts → b ≤ i → ItemsPlaced file lo i j xs
    more_listed no_item a le = no_items_in (spans file a)
    more_listed {i = i} (next_item {ts = ts} {us = us} {x = x} t e one more) a le =
        let h = halves file ts us (rest_of file a) in
        more_items_in from (omega arith) (I ts x i h.at one h.one le) (more_listed more h.two (let s = spans file h.one in omega arith))

    all_listed : {i j : ℕ} {ts : Tokens} {xs : List Item} → ListOf Comma P ts xs → Ascending file i j ts → b ≤ i → ItemsPlaced file lo i j xs
    all_listed {i = i} (listed {ts = ts} {us = us} {x = x} one more) a le =
        let h = halves file ts us a in
        more_items_in from (omega arith) (I ts x i h.at one h.one le) (more_listed more h.two (let s = spans file h.one in omega arith))

  one_only : {lo i j g : ℕ} {x : Item} → lo ≤ i → i ≤ g → ItemPlaced file i g j (out-Item x) → ItemsPlaced file lo i j (x ∷ [])
  one_only le me p = more_items_in le me p (no_items_in (omega arith))

  -- an item ends no earlier than its interval; tokens to the end of the list are left out
  lengthen : {lo i h j : ℕ} {xs : List Item} → h ≤ j → ItemsPlaced file lo i h xs → ItemsPlaced file lo i j xs
  lengthen le (no_items_in e) = no_items_in (omega (arith, le, e))
  lengthen le (more_items_in a b p ps) = more_items_in a b p (lengthen le ps)

  lift : {lo i h j : ℕ} {xs : List Item} → i ≤ h → ItemsPlaced file lo h j xs → ItemsPlaced file lo i j xs
  lift le (no_items_in e) = no_items_in (omega (arith, le, e))
  lift le (more_items_in a b p ps) = more_items_in a (omega (arith, le, b)) p ps

  import_name_placed : (ts : Tokens) (x : Item) (k g h : ℕ) → ImportName ts x → Ascending file g h ts → ItemPlaced file k g h (out-Item x)
  import_name_placed ts x k g h (import_one p q n is_p is_q is_n) a = import_placed (import_in (first_in file a))
  import_name_placed ts x k g h (import_all p q n is_p is_q is_n) a = import_placed (import_in (first_in file a))

  pub imports_placed : {lo i j : ℕ} {ts : Tokens} {xs : List Item} → Import ts xs → Ascending file i j ts → lo ≤ i → ItemsPlaced file lo i j xs
  imports_placed {lo = lo} {i = i} (imports {ts = ts} t c is_t all is_c) a le =
      all_listed ImportName lo i i le (λ ts x g h one b me. import_name_placed ts x i g h one b) all (front_of file ts (c ∷ []) (rest_of file a)) (omega arith)

  module _ (limit : ℕ) where
    start_placed : {i j : ℕ} {ts : Tokens} {y : Option Expr} → Start limit ts y → Ascending file i j ts → MaybePlaced file i j y
    start_placed no_start a = none_in (spans file a)
    start_placed (start_value q is_q one) a = some_in (expression_placed file limit one (rest_of file a))

    started_placed : {i j : ℕ} {ts us : Tokens} {x : Declared} {y : Option Expr} → Named limit limit ts x → Start limit us y → Ascending file i j (ts ++ us) → DeclaredPlaced file i j (started x y ∷ [])
    started_placed {us = us} (named {ts = ts} n is_n dims) v a =
        let h = halves file ts us (rest_of file (from_first file a)) in
        more_names (first_in file a) (dims_placed file limit dims h.one) (start_placed v h.two) (no_names (omega arith))

    plain_name_placed : {i j : ℕ} {ts : Tokens} {y : Option Expr} (n : Token) (name : List ℕ) → Start limit ts y → Ascending file i j (n ∷ ts) → DeclaredPlaced file i j (plain_name n.at name y ∷ [])
    plain_name_placed n name v a =
        let b = rest_of file (from_first file a) in
        more_names (first_in file a) (no_dims (omega arith)) (start_placed v b) (no_names (omega arith))

    -- a type that may be written, before what stands from the end of its tokens on
    kind_before : {i b : ℕ} {ts : Tokens} (of : Option TypeTree) → MaybeType limit limit ts of → Ascending file i b ts → (g : ℕ) → b ≤ g → MaybeTypePlaced file i g of
    kind_before None one a g le = no_type_in
    kind_before (Some x) one a g le = type_in (maybe_type_placed file limit one (higher le a))

    type_for : {i b : ℕ} {ts : Tokens} (of : Option TypeTree) (at : Place) → MaybeType limit limit ts of → Ascending file i b ts → (g : ℕ) → b ≤ g → TypeFor file i g at (type_at of at)
    type_for None at one a g le = unwritten refl
    type_for (Some x) at one a g le = before (maybe_type_placed file limit one (higher le a))

    -- ---- connections

    record ConnPlaced (i j : ℕ) (c : Conn) : Type 0 where
      own : Within file i j c.at
      value : MaybePlaced file c.at.offset j c.value

    named_conn_placed : {i j : ℕ} {ts : Tokens} {c : Conn} → NamedConn limit ts c → Ascending file i j ts → ConnPlaced i j c
    named_conn_placed (same_name o n is_o is_n) a =
        let b = rest_of file (from_first file a) in
        record { own = first_in file a; value = some_in (read_placed (read_in (first_in file b) (first_in file (from_first file b)))) }
    named_conn_placed (left_open o n p c is_o is_n is_p is_c) a = record { own = first_in file a; value = none_in (spans file (from_first file a)) }
    named_conn_placed (joined_to {ts = ts} o n p c is_o is_n is_p one is_c) a =
        record { own = first_in file a; value = some_in (expression_placed file limit one (front_of file ts (c ∷ []) (rest_of file (rest_of file (rest_of file (from_first file a)))))) }

    more_conns_placed : {ts : Tokens} {cs : List Conn} {i j : ℕ} → MoreOf Comma (NamedConn limit) ts cs → Ascending file i j ts → ConnsPlaced file i j cs
    more_conns_placed no_item a = no_conns_in (spans file a)
    more_conns_placed (next_item {ts = ts} {us = us} t e one more) a =
        let h = halves file ts us (rest_of file a) in
        let v = named_conn_placed one h.one in
        more_conns v.own v.value (more_conns_placed more h.two)

    named_conns_placed : {i j : ℕ} {ts : Tokens} {cs : List Conn} → ListOf Comma (NamedConn limit) ts cs → Ascending file i j ts → ConnsPlaced file i j cs
    named_conns_placed (listed {ts = ts} {us = us} one more) a =
        let h = halves file ts us a in
        let v = named_conn_placed one h.one in
        more_conns v.own v.value (more_conns_placed more h.two)

    -- slots before other connections
    slot_placed : {i h j : ℕ} {ts : Tokens} {cs ds : List Conn} → Slot limit ts cs → Ascending file i h ts → ConnsPlaced file h j ds → ConnsPlaced file i j (cs ++ ds)
    slot_placed (hole t is_t) a ps = more_conns (first_in file a) (none_in (spans file (from_first file a))) ps
    slot_placed (filled {ts = ts} t is_t one) a ps =
        let b = rest_of file a in
        let first = expression_begins limit one in
        more_conns (start_in file first b) (some_in (expression_placed file limit one (from_its_start file first b))) ps

    slots_placed : {ts : Tokens} {cs : List Conn} {i j : ℕ} → Groups (Slot limit) ts cs → Ascending file i j ts → ConnsPlaced file i j cs
    slots_placed no_group a = no_conns_in (spans file a)
    slots_placed (next_group {ts = ts} {us = us} one more) a = let h = halves file ts us a in slot_placed one h.one (slots_placed more h.two)

    conns_placed : {i j : ℕ} {ts : Tokens} {cs : List Conn} → Conns limit ts cs → Ascending file i j ts → ConnsPlaced file i j cs
    conns_placed (no_conns o c is_o is_c) a = no_conns_in (spans file a)
    conns_placed (by_order {ts = ts} {us = us} o c is_o one all is_c) a =
        let h = halves file ts (us ++ c ∷ []) (rest_of file a) in
        let first = expression_begins limit one in
        more_conns (start_in file first h.one) (some_in (expression_placed file limit one (from_its_start file first h.one))) (slots_placed all (front_of file us (c ∷ []) h.two))
    conns_placed (after_hole {ts = ts} {us = us} o c is_o one all is_c) a =
        let f = halves file (o ∷ []) (ts ++ (us ++ c ∷ [])) a in
        let h = halves file ts (us ++ c ∷ []) f.two in
        more_conns (first_in file f.one) (none_in (spans file (from_first file f.one))) (slot_placed one h.one (slots_placed all (front_of file us (c ∷ []) h.two)))
    conns_placed (by_name {ts = ts} o c is_o all is_c) a = named_conns_placed all (front_of file ts (c ∷ []) (rest_of file a))

    maybe_params_placed : {i j : ℕ} {ts : Tokens} {cs : List Conn} → MaybeParams limit ts cs → Ascending file i j ts → ConnsPlaced file i j cs
    maybe_params_placed no_params a = no_conns_in (spans file a)
    maybe_params_placed (with_params t is_t one) a = conns_placed one (rest_of file a)

    -- ---- functions

    result_for : {i b : ℕ} {ts : Tokens} (of : Option TypeTree) (at : Place) → Result limit ts of → Ascending file i b ts → (g : ℕ) → b ≤ g → TypeFor file i g at (type_at of at)
    result_for of at (value_of one) a g le = type_for of at one a g le
    result_for of at (no_value v is) a g le = before (void_placed (void_in (first_in file (higher le a))))

    argument_parts : {i j h : ℕ} {ts : Tokens} {y : TypeTree × Declared × Bool} {ys : List (TypeTree × Declared × Bool)} → Argument limit ts y → Ascending file i h ts → ArgumentsPlaced file h j ys → ArgumentsPlaced file i j (y ∷ ys)
    argument_parts (argument {ts = ts} {us = us} {vs = vs} {ws = ws} word of what many) a ps =
        let b = back_of file ts (us ++ (vs ++ ws)) a in
        let h = halves file us (vs ++ ws) b in
        more_arguments (type_placed file limit of h.one) (named_placed file limit what (front_of file vs ws h.two)) ps

    more_arguments_placed : {ts : Tokens} {ys : List (TypeTree × Declared × Bool)} {i j : ℕ} → MoreOf Comma (Argument limit) ts ys → Ascending file i j ts → ArgumentsPlaced file i j ys
    more_arguments_placed no_item a = no_arguments_in (spans file a)
    more_arguments_placed (next_item {ts = ts} {us = us} t e one more) a = let h = halves file ts us (rest_of file a) in argument_parts one h.one (more_arguments_placed more h.two)

    arguments_placed : {i j : ℕ} {ts : Tokens} {ys : List (TypeTree × Declared × Bool)} → Arguments limit ts ys → Ascending file i j ts → ArgumentsPlaced file i j ys
    arguments_placed (no_arguments o c is_o is_c) a = no_arguments_in (spans file a)
    arguments_placed (arguments o c is_o (listed {ts = ts} {us = us} one more) is_c) a =
        let h = halves file ts us (front_of file (ts ++ us) (c ∷ []) (rest_of file a)) in argument_parts one h.one (more_arguments_placed more h.two)

    locals_placed : {ts : Tokens} {ys : List (TypeTree × Declared)} {i j : ℕ} → Groups (Local limit) ts ys → Ascending file i j ts → LocalsPlaced file i j ys
    locals_placed no_group a = no_locals_in (spans file a)
    locals_placed (next_group {us = zs} (local_var {ts = ts} {us = us} {vs = vs} {ws = ws} c word of what v is_c) more) a =
        let f = halves file (ts ++ (us ++ (vs ++ (ws ++ c ∷ [])))) zs a in
        let b = back_of file ts (us ++ (vs ++ (ws ++ c ∷ []))) f.one in
        let h = halves file us (vs ++ (ws ++ c ∷ [])) b in
        let g = halves file vs (ws ++ c ∷ []) h.two in
        more_locals (type_placed file limit of h.one) (locals_declared what v c h.two) (locals_placed more f.two)
      where
        locals_declared : {i j : ℕ} {vs ws : Tokens} {x : Declared} {y : Option Expr} → Named limit limit vs x → Start limit ws y → (c : Token) → Ascending file i j (vs ++ (ws ++ c ∷ [])) → DeclaredPlaced file i j (started x y ∷ [])
        locals_declared {ws = ws} (named {ts = ts} n is_n dims) v c a =
            let h = halves file ts (ws ++ c ∷ []) (rest_of file (from_first file a)) in
            more_names (first_in file a) (dims_placed file limit dims h.one) (start_placed v (front_of file ws (c ∷ []) h.two)) (no_names (omega arith))

    bodies_placed : {ts : Tokens} {ys : List Stmt} {i j : ℕ} → Groups (Body limit) ts ys → Ascending file i j ts → StatementsPlaced file i j ys
    bodies_placed no_group a = no_statements (spans file a)
    bodies_placed (next_group {ts = ts} {us = us} (body one le) more) a = let h = halves file ts us a in more_statements (statement_placed file limit one h.one) (bodies_placed more h.two)

    function_item_placed : {i j : ℕ} {ts : Tokens} {x : FunctionItem} → Function limit ts x → Ascending file i j ts → (g : ℕ) × (i ≤ g) × ItemPlaced file i g j (out-Item (item.Function x))
    function_item_placed {i = i} (function {ts = ts} {us = us} {vs = vs} f is_f life result (named_function {of = of} {name = name} {ts = gs} {us = bs} n c is_n args is_c (function_body {ts = ls} {us = ss} {ms = ms} e locals all is_e label))) a =
        let r = back_of file ts (us ++ vs) (rest_of file a) in
        let h = halves file us vs r in
        let d = halves file gs (c ∷ bs) (rest_of file (from_first file h.two)) in
        let b = halves file ls (ss ++ (e ∷ ms)) (rest_of file d.two) in (
          h.at,
          spans file h.one,
          function_placed (function_in (result_for of n.at result h.one h.at (omega arith)) (first_in file h.two) (arguments_placed args d.one) (locals_placed locals b.one) (bodies_placed all (front_of file ss (e ∷ ms) b.two))),
        )

    -- ---- what packages and modules have

    params_placed : {lo i j : ℕ} {ts : Tokens} {xs : List Item} → Params limit ts xs → Ascending file i j ts → lo ≤ i → ItemsPlaced file lo i j xs
    params_placed {lo = lo} {i = i} (params {own = own} {of = of} {ts = ts} {us = us} t c is_t kind all is_c) a le =
        let h = halves file ts (us ++ c ∷ []) (rest_of file a) in
        lift (spans file h.one) (all_listed (ParamName limit own of) lo i h.at le (λ ts x g b one asc me. one_param ts x g b one asc (kind_before of kind h.one g me)) all (front_of file us (c ∷ []) h.two) (omega arith))
      where
        one_param : {k : ℕ} {own : Bool} {of : Option TypeTree} (ts : Tokens) (x : Item) (g h : ℕ) → ParamName limit own of ts x → Ascending file g h ts → MaybeTypePlaced file k g of → ItemPlaced file k g h (out-Item x)
        one_param ts x g h (param_name {name = name} n q is_n is_q one) asc kind = param_placed (param_in kind refl (plain_name_placed n name (start_value q is_q one) asc))

    typedef_item_placed : {lo i j : ℕ} {ts : Tokens} {xs : List Item} → Typedef limit ts xs → Ascending file i j ts → lo ≤ i → ItemsPlaced file lo i j xs
    typedef_item_placed (typedef {ts = ts} {us = us} t c is_t of what is_c) a le =
        let h = halves file ts (us ++ c ∷ []) (rest_of file a) in
        one_only le (spans file h.one) (typedef_placed (typedef_in (type_placed file limit of h.one) refl (named_placed file limit what (front_of file us (c ∷ []) h.two))))

    with_placed : {i j : ℕ} {ts : Tokens} {y : Option Path} → With ts y → Ascending file i j ts → MaybePathPlaced file i j y
    with_placed no_resolver a = no_path_in
    with_placed (with_resolver t is_t ref) a = found_path_in (path_in file ref (rest_of file a))

    nettype_item_placed : {lo i j : ℕ} {ts : Tokens} {xs : List Item} → Nettype limit ts xs → Ascending file i j ts → lo ≤ i → ItemsPlaced file lo i j xs
    nettype_item_placed (nettype {ts = ts} {us = us} t n c is_t of is_n res is_c) a le =
        let h = halves file ts (n ∷ (us ++ c ∷ [])) (rest_of file a) in
        one_only le (spans file h.one) (nettype_placed (nettype_in (type_placed file limit of h.one) (first_in file h.two) (with_placed res (front_of file us (c ∷ []) (rest_of file (from_first file h.two))))))

    pub package_item_placed : {lo i j : ℕ} {ts : Tokens} {xs : List Item} → PackageItem limit ts xs → Ascending file i j ts → lo ≤ i → ItemsPlaced file lo i j xs
    package_item_placed (is_import one) a le = imports_placed one a le
    package_item_placed (is_params one) a le = params_placed one a le
    package_item_placed (is_typedef one) a le = typedef_item_placed one a le
    package_item_placed (is_nettype one) a le = nettype_item_placed one a le
    package_item_placed (is_function one) a le = let v = function_item_placed one a in one_only le v.1 v.2

    -- ---- what modules alone have

    nets_placed : {lo i j : ℕ} {ts : Tokens} {xs : List Item} → Nets limit ts xs → Ascending file i j ts → lo ≤ i → ItemsPlaced file lo i j xs
    nets_placed {lo = lo} {i = i} (wires {of = of} {ts = ts} {us = us} t c is_t kind all is_c) a le =
        let h = halves file ts (us ++ c ∷ []) (rest_of file a) in
        lift (spans file h.one) (all_listed (WireName limit of) lo i h.at le (λ ts x g b one asc me. one_wire ts x g b one asc (λ at. type_for of at kind h.one g me)) all (front_of file us (c ∷ []) h.two) (omega arith))
      where
        one_wire : {k : ℕ} {of : Option TypeTree} (ts : Tokens) (x : Item) (g h : ℕ) → WireName limit of ts x → Ascending file g h ts → ((at : Place) → TypeFor file k g at (type_at of at)) → ItemPlaced file k g h (out-Item x)
        one_wire ts x g h (wire_name {name = name} n is_n v) asc kind = net_placed (net_in (kind n.at) refl (plain_name_placed n name v asc))
    nets_placed {lo = lo} {i = i} (links {ts = ts} t c is_t all is_c) a le =
        all_listed LinkName lo i i le (λ ts x g b one asc me. one_link ts x i g b one asc) all (front_of file ts (c ∷ []) (rest_of file a)) (omega arith)
      where
        one_link : (ts : Tokens) (x : Item) (k g h : ℕ) → LinkName ts x → Ascending file g h ts → ItemPlaced file k g h (out-Item x)
        one_link ts x k g h (link_name {name = name} n is_n) asc = net_placed (net_in (unwritten refl) refl (plain_name_placed n name no_start asc))

    vars_placed : {lo i j : ℕ} {ts : Tokens} {xs : List Item} → Vars limit ts xs → Ascending file i j ts → lo ≤ i → ItemsPlaced file lo i j xs
    vars_placed {lo = lo} {i = i} (vars {of = of} {ts = ts} {us = us} {vs = vs} c word kind all is_c) a le =
        let r = back_of file ts (us ++ (vs ++ c ∷ [])) a in
        let h = halves file us (vs ++ c ∷ []) r in
        lift (spans file h.one) (all_listed (VarName limit of) lo i h.at le (λ ts x g b one asc me. one_var ts x g b one asc (type_placed file limit kind (higher me h.one))) all (front_of file vs (c ∷ []) h.two) (omega arith))
      where
        one_var : {k : ℕ} {of : TypeTree} (ts : Tokens) (x : Item) (g h : ℕ) → VarName limit of ts x → Ascending file g h ts → TypePlaced file k g (out-TypeTree of) → ItemPlaced file k g h (out-Item x)
        one_var ts x g h (var_name what v) asc kind = var_placed (var_in kind refl (started_placed what v asc))

    set_placed : (ts : Tokens) (x : Item) (k g h : ℕ) → Set limit ts x → Ascending file g h ts → ItemPlaced file k g h (out-Item x)
    set_placed ts x k g h (set {ts = ls} {us = us} q l le is_q one) a =
        let first = left_begins limit l in
        let b = halves file ls (q ∷ us) (from_start file first (q ∷ us) a) in
        assign_placed (assign_in (start_in file first (front_of file ls (q ∷ us) a)) (left_placed file limit l b.one) (expression_placed file limit one (rest_of file b.two)))

    assigns_placed : {lo i j : ℕ} {ts : Tokens} {xs : List Item} → Assigns limit ts xs → Ascending file i j ts → lo ≤ i → ItemsPlaced file lo i j xs
    assigns_placed {lo = lo} {i = i} (assigns {ts = ts} t c is_t all is_c) a le =
        all_listed (Set limit) lo i i le (λ ts x g h one b me. set_placed ts x i g h one b) all (front_of file ts (c ∷ []) (rest_of file a)) (omega arith)

    instances_placed : {lo i j : ℕ} {ts : Tokens} {xs : List Item} → Instances limit ts xs → Ascending file i j ts → lo ≤ i → ItemsPlaced file lo i j xs
    instances_placed {lo = lo} {i = i} (instances {of = of} {ps = ps} {ts = ts} {us = us} n c is_n params_one all is_c) a le =
        let f = halves file (n ∷ []) (ts ++ (us ++ c ∷ [])) a in
        let h = halves file ts (us ++ c ∷ []) f.two in
        let w = first_in file f.one in
        let s = spans file h.one in
        lift (let m = w.from in let e = w.below in omega arith)
        (all_listed (InstanceName limit n.at of ps) lo i h.at le
        (λ ts x g b one asc me. one_instance ts x g b one asc (record { same = w.same; from = w.from; below = (let e = w.below in omega (arith, me, s, e)) }) (maybe_params_placed params_one (wider file (let e = w.below in omega arith) me h.one)))
        all (front_of file us (c ∷ []) h.two) (omega arith))
      where
        one_instance : {k : ℕ} {at : Place} {of : List ℕ} {ps : List Conn} (ts : Tokens) (x : Item) (g h : ℕ) → InstanceName limit at of ps ts x → Ascending file g h ts → Within file k g at → ConnsPlaced file at.offset g ps → ItemPlaced file k g h (out-Item x)
        one_instance ts x g h (instance_name {ts = cs} n is_n one) asc w given =
            let f = halves file (n ∷ []) cs asc in
            instance_placed (instance_in w given (first_in file f.one) (conns_placed one f.two))

    procedure_item_placed : {lo i j : ℕ} {ts : Tokens} {xs : List Item} → Procedure limit ts xs → Ascending file i j ts → lo ≤ i → ItemsPlaced file lo i j xs
    procedure_item_placed (procedure t is_t one le) a me = one_only me (omega arith) (procedure_placed (procedure_in (first_in file a) (statement_placed file limit one (rest_of file (from_first file a)))))

    pub module_item_placed : {lo i j : ℕ} {ts : Tokens} {xs : List Item} → ModuleItem limit ts xs → Ascending file i j ts → lo ≤ i → ItemsPlaced file lo i j xs
    module_item_placed (is_shared one) a le = package_item_placed one a le
    module_item_placed (is_nets one) a le = nets_placed one a le
    module_item_placed (is_vars one) a le = vars_placed one a le
    module_item_placed (is_assigns one) a le = assigns_placed one a le
    module_item_placed (is_instances one) a le = instances_placed one a le
    module_item_placed (is_procedure one) a le = procedure_item_placed one a le
