-- Where items stand in the source: in the order of its text (IEEE 1800-2017, annex A).
use Rattle.std.specs.Prelude.{◌≡◌, ℕ, ◌≤◌, Bool, List, [], ◌∷◌, Option, Some, None}
use Rattle.nt_value.specs.declared.place.Place.{Place}
use Rattle.nt_ast.specs.declared.path.Path.{Path}
use Rattle.nt_ast.specs.declared.path.Declared.{Declared}
use Rattle.nt_ast.specs.declared.expr.Expr.{Expr}
use Rattle.nt_ast.specs.declared.expr.Expr.TheViews.{out-Expr}
use Rattle.nt_ast.specs.declared.stmt.Stmt.TheViews.{out-Stmt}
use Rattle.nt_ast.specs.declared.types.IntWord.TheVariants as int
use Rattle.nt_ast.specs.declared.types.TypeTree.{TypeTree}
use Rattle.nt_ast.specs.declared.types.TypeTree.TheVariants as t
use Rattle.nt_ast.specs.declared.types.TypeTree.TheViews.{out-TypeTree}
use Rattle.nt_ast.specs.Places.{Within, Placed, MaybePlaced, DeclaredPlaced, TypePlaced, StatementPlaced, StatementsPlaced}
use Rattle.nt_items.specs.declared.item.PortKind.{PortKind}
use Rattle.nt_items.specs.declared.item.Port.{Port}
use Rattle.nt_items.specs.declared.item.Conn.{Conn}
use Rattle.nt_items.specs.declared.item.NettypeItem.{NettypeItem}
use Rattle.nt_items.specs.declared.item.FunctionItem.{FunctionItem}
use Rattle.nt_items.specs.declared.item.ProcedureItem.{ProcedureItem}
use Rattle.nt_items.specs.declared.item.Item.{Item}
use Rattle.nt_items.specs.declared.item.Item.TheOpen.{Item-F}
use Rattle.nt_items.specs.declared.item.Item.TheViews.{out-Item}

-- a type in the interval, or one that is not written, at this place
pub data TypeFor (file : ℕ) : ℕ → ℕ → Place → TypeTree → Type 0 where
  before : {k g : ℕ} {at : Place} {of : TypeTree} → TypePlaced file k g (out-TypeTree of) → TypeFor file k g at of
  unwritten : {k g : ℕ} {at : Place} {of : TypeTree} → of ≡ t.Integral at int.Logic None None → TypeFor file k g at of

-- a type that may be missing
pub data MaybeTypePlaced (file : ℕ) : ℕ → ℕ → Option TypeTree → Type 0 where
  no_type_in : {k g : ℕ} → MaybeTypePlaced file k g None
  type_in : {k g : ℕ} {of : TypeTree} → TypePlaced file k g (out-TypeTree of) → MaybeTypePlaced file k g (Some of)

-- a path that may be missing
pub data MaybePathPlaced (file : ℕ) : ℕ → ℕ → Option Path → Type 0 where
  no_path_in : {i j : ℕ} → MaybePathPlaced file i j None
  path_in : {i j : ℕ} {path : Path} → Within file i j path.at → MaybePathPlaced file i j (Some path)

-- connections, in order, each expression from the place of its connection on
pub data ConnsPlaced (file : ℕ) : ℕ → ℕ → List Conn → Type 0 where
  no_conns_in : {i j : ℕ} → i ≤ j → ConnsPlaced file i j []
  more_conns : {i h j : ℕ} {c : Conn} {cs : List Conn} → Within file i h c.at → MaybePlaced file c.at.offset h c.value → ConnsPlaced file h j cs → ConnsPlaced file i j (c ∷ cs)

-- arguments of a function, each after its type
pub data ArgumentsPlaced (file : ℕ) : ℕ → ℕ → List (TypeTree × Declared × Bool) → Type 0 where
  no_arguments_in : {i j : ℕ} → i ≤ j → ArgumentsPlaced file i j []
  more_arguments : {i g h j : ℕ} {of : TypeTree} {what : Declared} {many : Bool} {xs : List (TypeTree × Declared × Bool)} → TypePlaced file i g (out-TypeTree of)
      → DeclaredPlaced file g h (what ∷ []) → ArgumentsPlaced file h j xs → ArgumentsPlaced file i j ((of, what, many) ∷ xs)

-- variables of a function, each after its type
pub data LocalsPlaced (file : ℕ) : ℕ → ℕ → List (TypeTree × Declared) → Type 0 where
  no_locals_in : {i j : ℕ} → i ≤ j → LocalsPlaced file i j []
  more_locals : {i g h j : ℕ} {of : TypeTree} {what : Declared} {xs : List (TypeTree × Declared)} → TypePlaced file i g (out-TypeTree of) → DeclaredPlaced file g h (what ∷ [])
      → LocalsPlaced file h j xs → LocalsPlaced file i j ((of, what) ∷ xs)

-- The ports of a module, by their own places in order. The type of one stands before its name, from lo on, since it may be taken
-- over from a port before.
pub data PortsPlaced (file lo : ℕ) : ℕ → ℕ → List Port → Type 0 where
  no_ports_in : {i j : ℕ} → i ≤ j → PortsPlaced file lo i j []
  more_ports : {i g h j : ℕ} {q : Port} {qs : List Port} → i ≤ g → TypeFor file lo g q.at q.of → q.at ≡ q.what.at → DeclaredPlaced file g h (q.what ∷ []) → PortsPlaced file lo h j qs
      → PortsPlaced file lo i j (q ∷ qs)

-- the parameters in the head of a module, likewise
pub data ParamsPlaced (file lo : ℕ) : ℕ → ℕ → List (Option TypeTree × Declared) → Type 0 where
  no_params_in : {i j : ℕ} → i ≤ j → ParamsPlaced file lo i j []
  more_params : {i g h j : ℕ} {kind : Option TypeTree} {what : Declared} {ps : List (Option TypeTree × Declared)} → i ≤ g → MaybeTypePlaced file lo g kind → DeclaredPlaced file g h (what ∷ [])
      → ParamsPlaced file lo h j ps → ParamsPlaced file lo i j ((kind, what) ∷ ps)

mutual
  -- An item from its own place on lies in the interval of the last two numbers. What all names of its declaration share, as the type
  -- or the module's name, stands before, from the first number on.
  pub data ItemPlaced (file : ℕ) : ℕ → ℕ → ℕ → Item-F Item → Type 0 where
    package_in : {k g h : ℕ} {at : Place} {name : List ℕ} {xs : List Item} → Within file g h at → ItemsPlaced file at.offset at.offset h xs → ItemPlaced file k g h (Item-F.Package at name xs)
    -- the items of a module hold what its head imports, so they begin at its name too
    module_in : {k g m h : ℕ} {at : Place} {name : List ℕ} {ps : List (Option TypeTree × Declared)} {qs : List Port} {xs : List Item} → Within file g h at
        → ParamsPlaced file at.offset at.offset m ps → PortsPlaced file at.offset m h qs → ItemsPlaced file at.offset at.offset h xs → ItemPlaced file k g h (Item-F.Module at name ps qs xs)
    import_in : {k g h : ℕ} {at : Place} {scope : List ℕ} {name : Option (List ℕ)} → Within file g h at → ItemPlaced file k g h (Item-F.Import at scope name)
    typedef_in : {k g h : ℕ} {at : Place} {of : TypeTree} {what : Declared} → TypePlaced file k g (out-TypeTree of) → at ≡ what.at → DeclaredPlaced file g h (what ∷ [])
        → ItemPlaced file k g h (Item-F.Typedef at of what)
    nettype_in : {k g h : ℕ} {n : NettypeItem} → TypePlaced file k g (out-TypeTree n.base) → Within file g h n.at → MaybePathPlaced file n.at.offset h n.resolver → ItemPlaced file k g h (Item-F.Nettype n)
    function_in : {k g a b h : ℕ} {f : FunctionItem} → TypeFor file k g f.at f.result → Within file g h f.at → ArgumentsPlaced file f.at.offset a f.args → LocalsPlaced file a b f.locals
        → StatementsPlaced file b h f.body → ItemPlaced file k g h (Item-F.Function f)
    param_in : {k g h : ℕ} {at : Place} {own : Bool} {kind : Option TypeTree} {what : Declared} → MaybeTypePlaced file k g kind → at ≡ what.at → DeclaredPlaced file g h (what ∷ [])
        → ItemPlaced file k g h (Item-F.Param at own kind what)
    net_in : {k g h : ℕ} {at : Place} {kind : PortKind} {of : TypeTree} {what : Declared} → TypeFor file k g at of → at ≡ what.at → DeclaredPlaced file g h (what ∷ [])
        → ItemPlaced file k g h (Item-F.Net at kind of what)
    var_in : {k g h : ℕ} {at : Place} {of : TypeTree} {what : Declared} → TypePlaced file k g (out-TypeTree of) → at ≡ what.at → DeclaredPlaced file g h (what ∷ [])
        → ItemPlaced file k g h (Item-F.Var at of what)
    assign_in : {k g m h : ℕ} {at : Place} {x y : Expr} → Within file g h at → Placed file at.offset m (out-Expr x) → Placed file m h (out-Expr y) → ItemPlaced file k g h (Item-F.Assign at x y)
    instance_in : {k g m h : ℕ} {at module_at : Place} {of name : List ℕ} {ps qs : List Conn} → Within file k g module_at → ConnsPlaced file module_at.offset g ps → Within file g m at
        → ConnsPlaced file m h qs → ItemPlaced file k g h (Item-F.Instance at module_at of ps name qs)
    procedure_in : {k g h : ℕ} {p : ProcedureItem} → Within file g h p.at → StatementPlaced file p.at.offset h (out-Stmt p.body) → ItemPlaced file k g h (Item-F.Procedure p)

  -- items by their own places in order; what the names of a declaration share stands from the first number on
  pub data ItemsPlaced (file : ℕ) : ℕ → ℕ → ℕ → List Item → Type 0 where
    no_items_in : {lo i j : ℕ} → i ≤ j → ItemsPlaced file lo i j []
    more_items_in : {lo i k g h j : ℕ} {x : Item} {xs : List Item} → lo ≤ k → i ≤ g → ItemPlaced file k g h (out-Item x) → ItemsPlaced file lo h j xs → ItemsPlaced file lo i j (x ∷ xs)
