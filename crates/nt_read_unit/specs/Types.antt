-- The grammar of types and of declared names: which tokens derive which tree (IEEE 1800-2017, clause 6, 7.2, A.2.2.1, A.2.5). The
-- limit bounds the number of links of a chain, the number after it the open nodes over one another. A structure that is the type of
-- a member is an open node. A node has the place of its first token.
use Rattle.std.specs.Prelude.{◌≡◌, ℕ, suc, Bool, List, [], ◌∷◌, ◌++◌, Option, Some, None}
use Rattle.nt_ast.specs.declared.path.Path.{Path}
use Rattle.nt_ast.specs.declared.path.Declared.{Declared}
use Rattle.nt_ast.specs.declared.expr.Expr.{Expr}
use Rattle.nt_ast.specs.declared.types.IntWord.{IntWord}
use Rattle.nt_ast.specs.declared.types.IntWord.TheVariants as int
use Rattle.nt_ast.specs.declared.types.TypeTree.{TypeTree}
use Rattle.nt_ast.specs.declared.types.TypeTree.TheVariants as t
use Rattle.nt_lexer.specs.declared.kinds.Mark.TheVariants as m
use Rattle.nt_lexer.specs.declared.kinds.Word.TheVariants as w
use Rattle.nt_lexer.specs.declared.kinds.TokenKind.TheVariants as k
use Rattle.nt_lexer.specs.declared.kinds.Token.{Token}
use Rattle.nt_read_expr.specs.declared.list.Separator.TheVariants.{Comma}
use Rattle.nt_read_expr.specs.Tables.{Tokens, start}
use Rattle.nt_read_expr.specs.Derivation.{Reference, Expression}
use Rattle.nt_read_expr.specs.Lists.{ListOf}
use Rattle.nt_read_unit.specs.Tables.{vector_of, atom_of, sign_of}
use Rattle.nt_read_unit.specs.Groups.{Groups}

-- [ signed | unsigned ]   (A.2.2.1 signing)
pub data Sign : Tokens → Option Bool → Type 0 where
  no_sign : Sign [] None
  sign : {s : Bool} (t : Token) → sign_of t.kind ≡ Some s → Sign (t ∷ []) (Some s)

-- "[" expression ":" expression "]"   (A.2.5 packed_dimension, unpacked_dimension)
pub data Range (limit : ℕ) : ℕ → Tokens → Expr × Expr → Type 0 where
  range : {d : ℕ} {ts us : Tokens} {x y : Expr} (o q c : Token) → o.kind ≡ k.Mark m.LeftBracket → Expression limit d ts x → q.kind ≡ k.Mark m.Colon → Expression limit d us y
      → c.kind ≡ k.Mark m.RightBracket → Range limit d (o ∷ (ts ++ (q ∷ (us ++ c ∷ [])))) (x, y)

-- [ range ]
pub data MaybeRange (limit : ℕ) : ℕ → Tokens → Option (Expr × Expr) → Type 0 where
  no_range : {d : ℕ} → MaybeRange limit d [] None
  some_range : {d : ℕ} {ts : Tokens} {r : Expr × Expr} → Range limit d ts r → MaybeRange limit d ts (Some r)

-- an unpacked dimension (7.4.2, A.2.5)
pub data Dim (limit : ℕ) : ℕ → Tokens → List (Expr × Option Expr) → Type 0 where
  -- "[" expression "]"
  size : {d : ℕ} {ts : Tokens} {x : Expr} (o c : Token) → o.kind ≡ k.Mark m.LeftBracket → Expression limit d ts x → c.kind ≡ k.Mark m.RightBracket
      → Dim limit d (o ∷ (ts ++ c ∷ [])) ((x, None) ∷ [])
  -- range
  ends : {d : ℕ} {ts : Tokens} {x y : Expr} → Range limit d ts (x, y) → Dim limit d ts ((x, Some y) ∷ [])

-- name { dimension }   (A.2.4 variable_decl_assignment)
pub data Named (limit : ℕ) : ℕ → Tokens → Declared → Type 0 where
  named : {d : ℕ} {name : List ℕ} {ts : Tokens} {xs : List (Expr × Option Expr)} (n : Token) → n.kind ≡ k.Name name → Groups (Dim limit d) ts xs
      → Named limit d (n ∷ ts) (record { at = n.at; name = name; dims = xs; start = None })

-- a type that is no structure (A.2.2.1)
pub data Plain (limit : ℕ) : ℕ → Tokens → TypeTree → Type 0 where
  -- ( logic | reg | bit ) [ sign ] [ range ]
  vector : {d : ℕ} {word : IntWord} {s : Option Bool} {r : Option (Expr × Expr)} {ts us : Tokens} (v : Token) → vector_of v.kind ≡ Some word → Sign ts s → MaybeRange limit d us r
      → Plain limit d (v ∷ (ts ++ us)) (t.Integral v.at word s r)
  -- ( byte | shortint | int | longint | integer | time ) [ sign ]
  atom : {d : ℕ} {word : IntWord} {s : Option Bool} {ts : Tokens} (v : Token) → atom_of v.kind ≡ Some word → Sign ts s → Plain limit d (v ∷ ts) (t.Integral v.at word s None)
  -- reference
  known : {d : ℕ} {ts : Tokens} {path : Path} → Reference ts path → Plain limit d ts (t.Named (start ts) path)

-- a member with this type
pub data MemberName (limit : ℕ) : ℕ → TypeTree → Tokens → TypeTree × Declared → Type 0 where
  member_name : {d : ℕ} {of : TypeTree} {ts : Tokens} {x : Declared} → Named limit d ts x → MemberName limit d of ts (of, x)

mutual
  -- a structure (7.2, A.2.2.1 struct_union)
  pub data Structure (limit : ℕ) : ℕ → Tokens → TypeTree → Type 0 where
    -- "struct" "{" { members } "}"
    structure : {d : ℕ} {ts : Tokens} {xs : List (TypeTree × Declared)} (s o c : Token) → s.kind ≡ k.Word w.Struct → o.kind ≡ k.Mark m.LeftBrace → Members limit d ts xs
        → c.kind ≡ k.Mark m.RightBrace → Structure limit d (s ∷ o ∷ (ts ++ c ∷ [])) (t.Struct s.at xs)

  pub data Members (limit : ℕ) : ℕ → Tokens → List (TypeTree × Declared) → Type 0 where
    no_member : {d : ℕ} → Members limit d [] []
    -- { member }
    next_member : {d : ℕ} {ts us : Tokens} {xs ys : List (TypeTree × Declared)} → Member limit d ts xs → Members limit d us ys → Members limit d (ts ++ us) (xs ++ ys)

  -- members that are declared at once
  pub data Member (limit : ℕ) : ℕ → Tokens → List (TypeTree × Declared) → Type 0 where
    -- type named { "," named } ";"
    member : {d : ℕ} {ts us : Tokens} {of : TypeTree} {xs : List (TypeTree × Declared)} (c : Token) → MemberType limit d ts of → ListOf Comma (MemberName limit d of) us xs
        → c.kind ≡ k.Mark m.Semicolon → Member limit d (ts ++ (us ++ c ∷ [])) xs

  pub data MemberType (limit : ℕ) : ℕ → Tokens → TypeTree → Type 0 where
    -- plain
    flat : {d : ℕ} {ts : Tokens} {x : TypeTree} → Plain limit d ts x → MemberType limit d ts x
    -- structure
    inner : {d : ℕ} {ts : Tokens} {x : TypeTree} → Structure limit d ts x → MemberType limit (suc d) ts x

-- a type (A.2.2.1 data_type)
pub data TypeIs (limit : ℕ) : ℕ → Tokens → TypeTree → Type 0 where
  -- plain
  plain_type : {d : ℕ} {ts : Tokens} {x : TypeTree} → Plain limit d ts x → TypeIs limit d ts x
  -- structure
  struct_type : {d : ℕ} {ts : Tokens} {x : TypeTree} → Structure limit d ts x → TypeIs limit d ts x

-- the type of a net, a port, a parameter or a function, which may be written in part or not at all (A.2.2.1 data_type_or_implicit)
pub data MaybeType (limit : ℕ) : ℕ → Tokens → Option TypeTree → Type 0 where
  no_type : {d : ℕ} → MaybeType limit d [] None
  -- type
  some_type : {d : ℕ} {ts : Tokens} {x : TypeTree} → TypeIs limit d ts x → MaybeType limit d ts (Some x)
  -- ( signed | unsigned ) [ range ]
  only_sign : {d : ℕ} {s : Bool} {r : Option (Expr × Expr)} {ts : Tokens} (v : Token) → sign_of v.kind ≡ Some s → MaybeRange limit d ts r
      → MaybeType limit d (v ∷ ts) (Some (t.Integral v.at int.Logic (Some s) r))
  -- range
  only_range : {d : ℕ} {ts : Tokens} {r : Expr × Expr} → Range limit d ts r → MaybeType limit d ts (Some (t.Integral (start ts) int.Logic None (Some r)))
