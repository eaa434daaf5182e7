-- The grammar of items: which tokens derive which items, one for each name that is declared (IEEE 1800-2017, A.1.4, A.2, A.4, A.6).
-- An item has the place of its name, an import that of the package's name, an assignment that of its left side, a procedure that of
-- its first token.
use Rattle.std.specs.Prelude.{◌≡◌, ℕ, ◌≤◌, Bool, true, List, [], ◌∷◌, ◌++◌, Option, Some, None}
use Rattle.nt_value.specs.declared.place.Place.{Place}
use Rattle.nt_value.specs.declared.kind.ProcKind.{ProcKind}
use Rattle.nt_ast.specs.declared.path.Path.{Path}
use Rattle.nt_ast.specs.declared.path.Declared.{Declared}
use Rattle.nt_ast.specs.declared.expr.Expr.{Expr}
use Rattle.nt_ast.specs.declared.stmt.Stmt.{Stmt}
use Rattle.nt_ast.specs.declared.types.TypeTree.{TypeTree}
use Rattle.nt_items.specs.declared.item.Conn.{Conn}
use Rattle.nt_items.specs.declared.item.FunctionItem.{FunctionItem}
use Rattle.nt_items.specs.declared.item.PortKind.TheVariants as port
use Rattle.nt_items.specs.declared.item.Item.{Item}
use Rattle.nt_items.specs.declared.item.Item.TheVariants as i
use Rattle.nt_lexer.specs.declared.kinds.Mark.TheVariants as m
use Rattle.nt_lexer.specs.declared.kinds.Word.TheVariants as w
use Rattle.nt_lexer.specs.declared.kinds.TokenKind.TheVariants as k
use Rattle.nt_lexer.specs.declared.kinds.Token.{Token}
use Rattle.nt_read_expr.specs.declared.list.Separator.TheVariants.{Comma}
use Rattle.nt_read_expr.specs.Tables.{Tokens, start}
use Rattle.nt_read_expr.specs.Derivation.{Expression, Left}
use Rattle.nt_read_expr.specs.Lists.{ListOf}
use Rattle.nt_read_stmt.specs.Statements.{Statement}
use Rattle.nt_read_unit.specs.Types.{Named, TypeIs, MaybeType}
use Rattle.nt_read_unit.specs.Tables.{one_bit}
use Rattle.nt_read_item.specs.Tables.{param_of, wire_of, proc_of, type_at, plain_name, started}
use Rattle.nt_read_item.specs.Parts.{MaybeWord, With, Start, Conns}
use Rattle.nt_read_item.specs.Functions.{Function}

-- ---- what packages and modules have

-- what is imported (26.3, A.2.1.3 package_import_item)
pub data ImportName : Tokens → Item → Type 0 where
  -- name "::" name
  import_one : {scope name : List ℕ} (p q n : Token) → p.kind ≡ k.Name scope → q.kind ≡ k.Mark m.Scope → n.kind ≡ k.Name name → ImportName (p ∷ q ∷ n ∷ []) (i.Import p.at scope (Some name))
  -- name "::" "*"
  import_all : {scope : List ℕ} (p q n : Token) → p.kind ≡ k.Name scope → q.kind ≡ k.Mark m.Scope → n.kind ≡ k.Mark m.Star → ImportName (p ∷ q ∷ n ∷ []) (i.Import p.at scope None)

-- imports (A.2.1.3 package_import_declaration)
pub data Import : Tokens → List Item → Type 0 where
  -- "import" imported { "," imported } ";"
  imports : {ts : Tokens} {xs : List Item} (t c : Token) → t.kind ≡ k.Word w.Import → ListOf Comma ImportName ts xs → c.kind ≡ k.Mark m.Semicolon → Import (t ∷ (ts ++ c ∷ [])) xs

-- a parameter of this kind (A.2.4 param_assignment)
pub data ParamName (limit : ℕ) : Bool → Option TypeTree → Tokens → Item → Type 0 where
  -- name "=" expression
  param_name : {own : Bool} {of : Option TypeTree} {name : List ℕ} {ts : Tokens} {x : Expr} (n q : Token) → n.kind ≡ k.Name name → q.kind ≡ k.Mark m.Assign → Expression limit limit ts x
      → ParamName limit own of (n ∷ q ∷ ts) (i.Param n.at own of (plain_name n.at name (Some x)))

-- parameters (A.2.1.1)
pub data Params (limit : ℕ) : Tokens → List Item → Type 0 where
  -- ( "parameter" | "localparam" ) [ type ] named { "," named } ";"
  params : {own : Bool} {of : Option TypeTree} {ts us : Tokens} {xs : List Item} (t c : Token) → param_of t.kind ≡ Some own → MaybeType limit limit ts of → ListOf Comma (ParamName limit own of) us xs
      → c.kind ≡ k.Mark m.Semicolon → Params limit (t ∷ (ts ++ (us ++ c ∷ []))) xs

-- a type with a name (6.18, A.2.1.3 type_declaration)
pub data Typedef (limit : ℕ) : Tokens → List Item → Type 0 where
  -- "typedef" type named ";"
  typedef : {ts us : Tokens} {of : TypeTree} {x : Declared} (t c : Token) → t.kind ≡ k.Word w.Typedef → TypeIs limit limit ts of → Named limit limit us x → c.kind ≡ k.Mark m.Semicolon
      → Typedef limit (t ∷ (ts ++ (us ++ c ∷ []))) (i.Typedef x.at of x ∷ [])

-- a nettype (6.6.7, A.2.1.3 net_type_declaration)
pub data Nettype (limit : ℕ) : Tokens → List Item → Type 0 where
  -- "nettype" type name [ "with" reference ] ";"
  nettype : {name : List ℕ} {ts us : Tokens} {of : TypeTree} {path : Option Path} (t n c : Token) → t.kind ≡ k.Word w.Nettype → TypeIs limit limit ts of → n.kind ≡ k.Name name → With us path
      → c.kind ≡ k.Mark m.Semicolon → Nettype limit (t ∷ (ts ++ (n ∷ (us ++ c ∷ [])))) (i.Nettype (record { at = n.at; base = of; name = name; resolver = path }) ∷ [])

-- an item of a package (A.1.11 package_item)
pub data PackageItem (limit : ℕ) : Tokens → List Item → Type 0 where
  is_import : {ts : Tokens} {xs : List Item} → Import ts xs → PackageItem limit ts xs
  is_params : {ts : Tokens} {xs : List Item} → Params limit ts xs → PackageItem limit ts xs
  is_typedef : {ts : Tokens} {xs : List Item} → Typedef limit ts xs → PackageItem limit ts xs
  is_nettype : {ts : Tokens} {xs : List Item} → Nettype limit ts xs → PackageItem limit ts xs
  is_function : {ts : Tokens} {x : FunctionItem} → Function limit ts x → PackageItem limit ts (i.Function x ∷ [])

-- ---- what modules alone have

-- a wire of this type (A.2.4 net_decl_assignment)
pub data WireName (limit : ℕ) : Option TypeTree → Tokens → Item → Type 0 where
  -- name [ "=" expression ]
  wire_name : {of : Option TypeTree} {name : List ℕ} {ts : Tokens} {x : Option Expr} (n : Token) → n.kind ≡ k.Name name → Start limit ts x
      → WireName limit of (n ∷ ts) (i.Net n.at port.Wire (type_at of n.at) (plain_name n.at name x))

-- an interconnect (6.6.8)
pub data LinkName : Tokens → Item → Type 0 where
  -- name
  link_name : {name : List ℕ} (n : Token) → n.kind ≡ k.Name name → LinkName (n ∷ []) (i.Net n.at port.Interconnect (one_bit n.at) (plain_name n.at name None))

-- nets (6.7, A.2.1.3 net_declaration)
pub data Nets (limit : ℕ) : Tokens → List Item → Type 0 where
  -- ( "wire" | "tri" ) [ type ] named { "," named } ";"
  wires : {of : Option TypeTree} {ts us : Tokens} {xs : List Item} (t c : Token) → wire_of t.kind ≡ true → MaybeType limit limit ts of → ListOf Comma (WireName limit of) us xs
      → c.kind ≡ k.Mark m.Semicolon → Nets limit (t ∷ (ts ++ (us ++ c ∷ []))) xs
  -- "interconnect" name { "," name } ";"
  links : {ts : Tokens} {xs : List Item} (t c : Token) → t.kind ≡ k.Word w.Interconnect → ListOf Comma LinkName ts xs → c.kind ≡ k.Mark m.Semicolon → Nets limit (t ∷ (ts ++ c ∷ [])) xs

-- a variable of this type (A.2.4 variable_decl_assignment)
pub data VarName (limit : ℕ) : TypeTree → Tokens → Item → Type 0 where
  -- named [ "=" expression ]
  var_name : {of : TypeTree} {ts us : Tokens} {x : Declared} {y : Option Expr} → Named limit limit ts x → Start limit us y → VarName limit of (ts ++ us) (i.Var x.at of (started x y))

-- variables (6.8, A.2.1.3 data_declaration)
pub data Vars (limit : ℕ) : Tokens → List Item → Type 0 where
  -- [ "var" ] type named { "," named } ";"
  vars : {v : Bool} {of : TypeTree} {ts us vs : Tokens} {xs : List Item} (c : Token) → MaybeWord w.Var ts v → TypeIs limit limit us of → ListOf Comma (VarName limit of) vs xs → c.kind ≡ k.Mark m.Semicolon
      → Vars limit (ts ++ (us ++ (vs ++ c ∷ []))) xs

-- an assignment (A.6.1 net_assignment)
pub data Set (limit : ℕ) : Tokens → Item → Type 0 where
  -- left "=" expression
  set : {n : ℕ} {ts us : Tokens} {x y : Expr} (q : Token) → Left limit limit true n ts x → n ≤ limit → q.kind ≡ k.Mark m.Assign → Expression limit limit us y
      → Set limit (ts ++ (q ∷ us)) (i.Assign (start ts) x y)

-- continuous assignments (10.3, A.6.1 continuous_assign)
pub data Assigns (limit : ℕ) : Tokens → List Item → Type 0 where
  -- "assign" set { "," set } ";"
  assigns : {ts : Tokens} {xs : List Item} (t c : Token) → t.kind ≡ k.Word w.Assign → ListOf Comma (Set limit) ts xs → c.kind ≡ k.Mark m.Semicolon → Assigns limit (t ∷ (ts ++ c ∷ [])) xs

-- an instance of this module with these parameters (A.4.1.1 hierarchical_instance)
pub data InstanceName (limit : ℕ) : Place → List ℕ → List Conn → Tokens → Item → Type 0 where
  -- name "(" [ conns ] ")"
  instance_name : {at : Place} {of name : List ℕ} {ps xs : List Conn} {ts : Tokens} (n : Token) → n.kind ≡ k.Name name → Conns limit ts xs
      → InstanceName limit at of ps (n ∷ ts) (i.Instance n.at at of ps name xs)

-- [ "#" "(" [ conns ] ")" ]
pub data MaybeParams (limit : ℕ) : Tokens → List Conn → Type 0 where
  no_params : MaybeParams limit [] []
  with_params : {ts : Tokens} {xs : List Conn} (t : Token) → t.kind ≡ k.Mark m.Hash → Conns limit ts xs → MaybeParams limit (t ∷ ts) xs

-- instances (23.3.2, A.4.1.1 module_instantiation)
pub data Instances (limit : ℕ) : Tokens → List Item → Type 0 where
  -- name [ "#" "(" [ conns ] ")" ] instance { "," instance } ";"
  instances : {of : List ℕ} {ps : List Conn} {ts us : Tokens} {xs : List Item} (n c : Token) → n.kind ≡ k.Name of → MaybeParams limit ts ps → ListOf Comma (InstanceName limit n.at of ps) us xs
      → c.kind ≡ k.Mark m.Semicolon → Instances limit (n ∷ (ts ++ (us ++ c ∷ []))) xs

-- a procedure (9.2, A.6.2)
pub data Procedure (limit : ℕ) : Tokens → List Item → Type 0 where
  -- ( "initial" | "always" | "always_comb" | "always_ff" ) statement
  procedure : {kind : ProcKind} {n : ℕ} {o : Bool} {ts : Tokens} {x : Stmt} (t : Token) → proc_of t.kind ≡ Some kind → Statement limit limit o n ts x → n ≤ limit
      → Procedure limit (t ∷ ts) (i.Procedure (record { at = t.at; kind = kind; body = x }) ∷ [])

-- an item of a module (A.1.4 module_item)
pub data ModuleItem (limit : ℕ) : Tokens → List Item → Type 0 where
  is_shared : {ts : Tokens} {xs : List Item} → PackageItem limit ts xs → ModuleItem limit ts xs
  is_nets : {ts : Tokens} {xs : List Item} → Nets limit ts xs → ModuleItem limit ts xs
  is_vars : {ts : Tokens} {xs : List Item} → Vars limit ts xs → ModuleItem limit ts xs
  is_assigns : {ts : Tokens} {xs : List Item} → Assigns limit ts xs → ModuleItem limit ts xs
  is_instances : {ts : Tokens} {xs : List Item} → Instances limit ts xs → ModuleItem limit ts xs
  is_procedure : {ts : Tokens} {xs : List Item} → Procedure limit ts xs → ModuleItem limit ts xs
