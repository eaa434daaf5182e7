-- The grammar of modules, packages and source files: which tokens derive which items (IEEE 1800-2017, 23.2, 26.2, A.1.2, A.1.3). A
-- module and a package have the place of their name.
use Rattle.std.specs.Prelude.{◌≡◌, ℕ, Bool, List, [], ◌∷◌, ◌++◌, Option, Some, None}
use Rattle.nt_ast.specs.declared.path.Declared.{Declared}
use Rattle.nt_ast.specs.declared.expr.Expr.{Expr}
use Rattle.nt_ast.specs.declared.types.TypeTree.{TypeTree}
use Rattle.nt_items.specs.declared.item.Way.{Way}
use Rattle.nt_items.specs.declared.item.PortKind.{PortKind}
use Rattle.nt_items.specs.declared.item.Port.{Port}
use Rattle.nt_items.specs.declared.item.Item.{Item}
use Rattle.nt_items.specs.declared.item.Item.TheVariants as i
use Rattle.nt_lexer.specs.declared.kinds.Mark.TheVariants as m
use Rattle.nt_lexer.specs.declared.kinds.Word.TheVariants as w
use Rattle.nt_lexer.specs.declared.kinds.TokenKind.{TokenKind}
use Rattle.nt_lexer.specs.declared.kinds.TokenKind.TheVariants as k
use Rattle.nt_lexer.specs.declared.kinds.Token.{Token}
use Rattle.nt_read_expr.specs.declared.list.Separator.TheVariants.{Comma}
use Rattle.nt_read_expr.specs.Tables.{Tokens}
use Rattle.nt_read_expr.specs.Derivation.{Expression}
use Rattle.nt_read_expr.specs.Lists.{ListOf}
use Rattle.nt_read_stmt.specs.Statements.{Label}
use Rattle.nt_read_unit.specs.Groups.{Groups}
use Rattle.nt_read_unit.specs.Types.{Named, MaybeType}
use Rattle.nt_read_item.specs.Tables.{plain_name}
use Rattle.nt_read_item.specs.Parts.{MaybeWord}
use Rattle.nt_read_item.specs.Items.{Import, PackageItem, ModuleItem}
use Rattle.nt_read_module.specs.declared.carried.PortText.{PortText}
use Rattle.nt_read_module.specs.declared.carried.ParamText.{ParamText}
use Rattle.nt_read_module.specs.declared.carried.Head.{Head}
use Rattle.nt_read_module.specs.Tables.{way_of, net_of}
use Rattle.nt_read_module.specs.Carried.{ports_from, params_from}

-- [ word ], where the function says what it stands for
pub data MaybeBy {A : Type 0} (f : TokenKind → Option A) : Tokens → Option A → Type 0 where
  not_written : MaybeBy f [] None
  written : {a : A} (t : Token) → f t.kind ≡ Some a → MaybeBy f (t ∷ []) (Some a)

-- a port as it is written (A.1.3 ansi_port_declaration)
pub data PortIs (limit : ℕ) : Tokens → PortText → Type 0 where
  -- [ "input" | "output" | "inout" ] [ "wire" | "tri" | "var" | "interconnect" ] [ type ] named
  port : {way : Option Way} {kind : Option PortKind} {of : Option TypeTree} {what : Declared} {ts us vs ws : Tokens} → MaybeBy way_of ts way → MaybeBy net_of us kind → MaybeType limit limit vs of
      → Named limit limit ws what → PortIs limit (ts ++ (us ++ (vs ++ ws))) (record { way = way; kind = kind; of = of; what = what })

-- a parameter as it is written in the list of a module (A.1.3 parameter_port_declaration)
pub data ParamIs (limit : ℕ) : Tokens → ParamText → Type 0 where
  -- [ "parameter" ] [ type ] name "=" expression
  param : {word : Bool} {of : Option TypeTree} {name : List ℕ} {ts us vs : Tokens} {x : Expr} (n q : Token) → MaybeWord w.Parameter ts word → MaybeType limit limit us of → n.kind ≡ k.Name name
      → q.kind ≡ k.Mark m.Assign → Expression limit limit vs x → ParamIs limit (ts ++ (us ++ (n ∷ q ∷ vs))) (record { word = word; of = of; what = plain_name n.at name (Some x) })

-- the parameters of a module (A.1.3 parameter_port_list)
pub data ParamList (limit : ℕ) : Tokens → List (Option TypeTree × Declared) → Type 0 where
  no_param_list : ParamList limit [] []
  -- "#" "(" param { "," param } ")"
  param_list : {ts : Tokens} {ps : List ParamText} (h o c : Token) → h.kind ≡ k.Mark m.Hash → o.kind ≡ k.Mark m.LeftParen → ListOf Comma (ParamIs limit) ts ps → c.kind ≡ k.Mark m.RightParen
      → ParamList limit (h ∷ o ∷ (ts ++ c ∷ [])) (params_from None ps)

-- the ports of a module (A.1.3 list_of_port_declarations)
pub data PortList (limit : ℕ) : Tokens → List Port → Type 0 where
  no_port_list : PortList limit [] []
  -- "(" ")"
  no_ports : (o c : Token) → o.kind ≡ k.Mark m.LeftParen → c.kind ≡ k.Mark m.RightParen → PortList limit (o ∷ c ∷ []) []
  -- "(" port { "," port } ")"
  port_list : {ts : Tokens} {ps : List PortText} (o c : Token) → o.kind ≡ k.Mark m.LeftParen → ListOf Comma (PortIs limit) ts ps → c.kind ≡ k.Mark m.RightParen
      → PortList limit (o ∷ (ts ++ c ∷ [])) (ports_from None ps)

-- the head of a module from its name on (A.1.2 module_ansi_header)
pub data HeadIs (limit : ℕ) : Tokens → Head → Type 0 where
  -- name { import } [ params ] [ ports ] ";"
  head : {name : List ℕ} {ts us vs : Tokens} {imports : List Item} {params : List (Option TypeTree × Declared)} {ports : List Port} (n c : Token) → n.kind ≡ k.Name name → Groups Import ts imports
      → ParamList limit us params → PortList limit vs ports → c.kind ≡ k.Mark m.Semicolon
      → HeadIs limit (n ∷ (ts ++ (us ++ (vs ++ c ∷ [])))) (record { at = n.at; name = name; imports = imports; params = params; ports = ports })

-- a module, a package, or what a package may have outside of one (A.1.2 description)
pub data UnitIs (limit : ℕ) : Tokens → List Item → Type 0 where
  -- "module" head { item } "endmodule" [ ":" name ]
  is_module : {ts us ms : Tokens} {h : Head} {xs : List Item} (t e : Token) → t.kind ≡ k.Word w.Module → HeadIs limit ts h → Groups (ModuleItem limit) us xs → e.kind ≡ k.Word w.EndModule → Label ms
      → UnitIs limit (t ∷ (ts ++ (us ++ (e ∷ ms)))) (i.Module h.at h.name h.params h.ports (h.imports ++ xs) ∷ [])
  -- "package" name ";" { item } "endpackage" [ ":" name ]
  is_package : {name : List ℕ} {ts ms : Tokens} {xs : List Item} (t n c e : Token) → t.kind ≡ k.Word w.Package → n.kind ≡ k.Name name → c.kind ≡ k.Mark m.Semicolon → Groups (PackageItem limit) ts xs
      → e.kind ≡ k.Word w.EndPackage → Label ms → UnitIs limit (t ∷ n ∷ c ∷ (ts ++ (e ∷ ms))) (i.Package n.at name xs ∷ [])
  -- package item
  is_item : {ts : Tokens} {xs : List Item} → PackageItem limit ts xs → UnitIs limit ts xs

-- what a file holds (A.1.2 source_text)
abbrev pub Source : ℕ → Tokens → List Item → Type 0
-- { unit }
Source limit = Groups (UnitIs limit)
