-- The grammar of functions (IEEE 1800-2017, 13.4, A.2.6). A node has the place of its first token, a function that of its name.
use Rattle.std.specs.Prelude.{◌≡◌, ℕ, ◌≤◌, Bool, true, false, List, [], ◌∷◌, ◌++◌, Option, Some}
use Rattle.nt_ast.specs.declared.path.Declared.{Declared}
use Rattle.nt_ast.specs.declared.expr.Expr.{Expr}
use Rattle.nt_ast.specs.declared.stmt.Stmt.{Stmt}
use Rattle.nt_ast.specs.declared.types.TypeTree.{TypeTree}
use Rattle.nt_ast.specs.declared.types.TypeTree.TheVariants as t
use Rattle.nt_items.specs.declared.item.FunctionItem.{FunctionItem}
use Rattle.nt_lexer.specs.declared.kinds.Mark.TheVariants as m
use Rattle.nt_lexer.specs.declared.kinds.Word.TheVariants as w
use Rattle.nt_lexer.specs.declared.kinds.TokenKind.TheVariants as k
use Rattle.nt_lexer.specs.declared.kinds.Token.{Token}
use Rattle.nt_read_expr.specs.declared.list.Separator.TheVariants.{Comma}
use Rattle.nt_read_expr.specs.Tables.{Tokens}
use Rattle.nt_read_expr.specs.Lists.{ListOf}
use Rattle.nt_read_stmt.specs.Statements.{Label, Statement}
use Rattle.nt_read_unit.specs.Groups.{Groups}
use Rattle.nt_read_unit.specs.Types.{Named, TypeIs, MaybeType}
use Rattle.nt_read_item.specs.Tables.{lifetime_of, type_at, started}
use Rattle.nt_read_item.specs.Parts.{MaybeWord, Start}

-- [ automatic | static ]   (A.2.6 lifetime)
pub data Lifetime : Tokens → Bool → Type 0 where
  no_lifetime : Lifetime [] false
  lifetime : {own : Bool} (t : Token) → lifetime_of t.kind ≡ Some own → Lifetime (t ∷ []) own

-- the type of what a function gives (A.2.6 function_data_type_or_implicit)
pub data Result (limit : ℕ) : Tokens → Option TypeTree → Type 0 where
  -- "void"
  no_value : (v : Token) → v.kind ≡ k.Word w.Void → Result limit (v ∷ []) (Some (t.Void v.at))
  -- [ type ]
  value_of : {ts : Tokens} {x : Option TypeTree} → MaybeType limit limit ts x → Result limit ts x

-- [ "[" "]" ]   of a dynamic array (7.5)
pub data Dynamic : Tokens → Bool → Type 0 where
  one_value : Dynamic [] false
  many_values : (o c : Token) → o.kind ≡ k.Mark m.LeftBracket → c.kind ≡ k.Mark m.RightBracket → Dynamic (o ∷ c ∷ []) true

-- an argument (A.2.7 tf_port_item)
pub data Argument (limit : ℕ) : Tokens → TypeTree × Declared × Bool → Type 0 where
  -- [ "input" ] type named [ "[" "]" ]
  argument : {i many : Bool} {ts us vs ws : Tokens} {of : TypeTree} {x : Declared} → MaybeWord w.Input ts i → TypeIs limit limit us of → Named limit limit vs x → Dynamic ws many
      → Argument limit (ts ++ (us ++ (vs ++ ws))) (of, x, many)

-- arguments and their brackets (A.2.7 tf_port_list)
pub data Arguments (limit : ℕ) : Tokens → List (TypeTree × Declared × Bool) → Type 0 where
  -- "(" ")"
  no_arguments : (o c : Token) → o.kind ≡ k.Mark m.LeftParen → c.kind ≡ k.Mark m.RightParen → Arguments limit (o ∷ c ∷ []) []
  -- "(" argument { "," argument } ")"
  arguments : {ts : Tokens} {xs : List (TypeTree × Declared × Bool)} (o c : Token) → o.kind ≡ k.Mark m.LeftParen → ListOf Comma (Argument limit) ts xs → c.kind ≡ k.Mark m.RightParen
      → Arguments limit (o ∷ (ts ++ c ∷ [])) xs

-- a variable of a function (A.2.8 block_item_declaration)
pub data Local (limit : ℕ) : Tokens → List (TypeTree × Declared) → Type 0 where
  -- [ "automatic" ] type named [ "=" expression ] ";"
  local_var : {a : Bool} {ts us vs ws : Tokens} {of : TypeTree} {x : Declared} {y : Option Expr} (c : Token) → MaybeWord w.Automatic ts a → TypeIs limit limit us of → Named limit limit vs x
      → Start limit ws y → c.kind ≡ k.Mark m.Semicolon → Local limit (ts ++ (us ++ (vs ++ (ws ++ c ∷ [])))) ((of, started x y) ∷ [])

-- a statement of a function
pub data Body (limit : ℕ) : Tokens → List Stmt → Type 0 where
  body : {n : ℕ} {o : Bool} {ts : Tokens} {x : Stmt} → Statement limit limit o n ts x → n ≤ limit → Body limit ts (x ∷ [])

-- what a function has between its head and its end, and the end
pub data FunctionBody (limit : ℕ) : Tokens → List (TypeTree × Declared) × List Stmt → Type 0 where
  -- { local } { statement } "endfunction" [ ":" name ]
  function_body : {ts us ms : Tokens} {locals : List (TypeTree × Declared)} {xs : List Stmt} (g : Token) → Groups (Local limit) ts locals → Groups (Body limit) us xs
      → g.kind ≡ k.Word w.EndFunction → Label ms → FunctionBody limit (ts ++ (us ++ (g ∷ ms))) (locals, xs)

-- a function from its name on, with what was written before
pub data NamedFunction (limit : ℕ) : Bool → Option TypeTree → Tokens → FunctionItem → Type 0 where
  -- name arguments ";" body
  named_function : {own : Bool} {of : Option TypeTree} {name : List ℕ} {ts us : Tokens} {args : List (TypeTree × Declared × Bool)} {b : List (TypeTree × Declared) × List Stmt} (n c : Token)
      → n.kind ≡ k.Name name → Arguments limit ts args → c.kind ≡ k.Mark m.Semicolon → FunctionBody limit us b
      → NamedFunction limit own of (n ∷ (ts ++ (c ∷ us)))
      (record { at = n.at; automatic = own; result = type_at of n.at; name = name; args = args; locals = b.0; body = b.1 })

-- a function (A.2.6 function_declaration)
pub data Function (limit : ℕ) : Tokens → FunctionItem → Type 0 where
  -- "function" [ lifetime ] [ result ] named
  function : {own : Bool} {of : Option TypeTree} {ts us vs : Tokens} {x : FunctionItem} (f : Token) → f.kind ≡ k.Word w.Function → Lifetime ts own → Result limit us of
      → NamedFunction limit own of vs x → Function limit (f ∷ (ts ++ (us ++ vs))) x
