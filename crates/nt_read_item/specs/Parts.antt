-- The grammar of parts of items: initial values, paths, connections (IEEE 1800-2017, A.2.4, A.4.1.1). A node has the place of its
-- first token.
use Rattle.std.specs.Prelude.{◌≡◌, ℕ, Bool, true, false, List, [], ◌∷◌, ◌++◌, Option, Some, None}
use Rattle.nt_ast.specs.declared.path.Path.{Path}
use Rattle.nt_ast.specs.declared.expr.Expr.{Expr}
use Rattle.nt_items.specs.declared.item.Conn.{Conn}
use Rattle.nt_lexer.specs.declared.kinds.Mark.TheVariants as m
use Rattle.nt_lexer.specs.declared.kinds.Word.{Word}
use Rattle.nt_lexer.specs.declared.kinds.Word.TheVariants as w
use Rattle.nt_lexer.specs.declared.kinds.TokenKind.TheVariants as k
use Rattle.nt_lexer.specs.declared.kinds.Token.{Token}
use Rattle.nt_read_expr.specs.declared.list.Separator.TheVariants.{Comma}
use Rattle.nt_read_expr.specs.Tables.{Tokens, start}
use Rattle.nt_read_expr.specs.Derivation.{Reference, Expression}
use Rattle.nt_read_expr.specs.Lists.{ListOf}
use Rattle.nt_read_unit.specs.Groups.{Groups}
use Rattle.nt_read_item.specs.Tables.{name_read}

-- [ word ]
pub data MaybeWord (word : Word) : Tokens → Bool → Type 0 where
  no_word : MaybeWord word [] false
  one_word : (t : Token) → t.kind ≡ k.Word word → MaybeWord word (t ∷ []) true

-- [ "with" reference ]   (6.6.7, A.2.1.3 net_type_declaration)
pub data With : Tokens → Option Path → Type 0 where
  no_resolver : With [] None
  with_resolver : {ts : Tokens} {path : Path} (t : Token) → t.kind ≡ k.Word w.With → Reference ts path → With (t ∷ ts) (Some path)

-- [ "=" expression ]   (6.8, A.2.4)
pub data Start (limit : ℕ) : Tokens → Option Expr → Type 0 where
  no_start : Start limit [] None
  start_value : {ts : Tokens} {x : Expr} (q : Token) → q.kind ≡ k.Mark m.Assign → Expression limit limit ts x → Start limit (q ∷ ts) (Some x)

-- a connection by name (23.3.2.2, 23.3.2.3, A.4.1.1 named_port_connection)
pub data NamedConn (limit : ℕ) : Tokens → Conn → Type 0 where
  -- "." name
  same_name : {name : List ℕ} (o n : Token) → o.kind ≡ k.Mark m.Dot → n.kind ≡ k.Name name
      → NamedConn limit (o ∷ n ∷ []) (record { at = o.at; name = Some name; value = Some (name_read n.at name) })
  -- "." name "(" ")"
  left_open : {name : List ℕ} (o n p c : Token) → o.kind ≡ k.Mark m.Dot → n.kind ≡ k.Name name → p.kind ≡ k.Mark m.LeftParen → c.kind ≡ k.Mark m.RightParen
      → NamedConn limit (o ∷ n ∷ p ∷ c ∷ []) (record { at = o.at; name = Some name; value = None })
  -- "." name "(" expression ")"
  joined_to : {name : List ℕ} {ts : Tokens} {x : Expr} (o n p c : Token) → o.kind ≡ k.Mark m.Dot → n.kind ≡ k.Name name → p.kind ≡ k.Mark m.LeftParen → Expression limit limit ts x
      → c.kind ≡ k.Mark m.RightParen → NamedConn limit (o ∷ n ∷ p ∷ (ts ++ c ∷ [])) (record { at = o.at; name = Some name; value = Some x })

-- "," [ expression ]: a connection by order that is not the first (23.3.2.1, A.4.1.1 ordered_port_connection). One without an
-- expression has the place of the comma.
pub data Slot (limit : ℕ) : Tokens → List Conn → Type 0 where
  hole : (t : Token) → t.kind ≡ k.Mark m.Comma → Slot limit (t ∷ []) (record { at = t.at; name = None; value = None } ∷ [])
  filled : {ts : Tokens} {x : Expr} (t : Token) → t.kind ≡ k.Mark m.Comma → Expression limit limit ts x → Slot limit (t ∷ ts) (record { at = start ts; name = None; value = Some x } ∷ [])

-- connections and their brackets (A.4.1.1 list_of_port_connections, list_of_parameter_assignments)
pub data Conns (limit : ℕ) : Tokens → List Conn → Type 0 where
  -- "(" ")"   holds none
  no_conns : (o c : Token) → o.kind ≡ k.Mark m.LeftParen → c.kind ≡ k.Mark m.RightParen → Conns limit (o ∷ c ∷ []) []
  -- "(" expression { "," [ expression ] } ")"
  by_order : {ts us : Tokens} {x : Expr} {xs : List Conn} (o c : Token) → o.kind ≡ k.Mark m.LeftParen → Expression limit limit ts x → Groups (Slot limit) us xs → c.kind ≡ k.Mark m.RightParen
      → Conns limit (o ∷ (ts ++ (us ++ c ∷ []))) (record { at = start ts; name = None; value = Some x } ∷ xs)
  -- "(" "," [ expression ] { "," [ expression ] } ")"   the first has no expression, and the place of the bracket
  after_hole : {ts us : Tokens} {xs ys : List Conn} (o c : Token) → o.kind ≡ k.Mark m.LeftParen → Slot limit ts xs → Groups (Slot limit) us ys → c.kind ≡ k.Mark m.RightParen
      → Conns limit (o ∷ (ts ++ (us ++ c ∷ []))) (record { at = o.at; name = None; value = None } ∷ (xs ++ ys))
  -- "(" named { "," named } ")"
  by_name : {ts : Tokens} {xs : List Conn} (o c : Token) → o.kind ≡ k.Mark m.LeftParen → ListOf Comma (NamedConn limit) ts xs → c.kind ≡ k.Mark m.RightParen
      → Conns limit (o ∷ (ts ++ c ∷ [])) xs
