-- The grammar of expressions: which tokens derive which tree (IEEE 1800-2017, clause 11, A.8). The limit bounds the number of
-- links of a chain. The number after it bounds the depth: the open nodes over one another. Open nodes are an expression in
-- brackets, the operand of a prefix operator, an arm of `?:`, an index, a list of arguments, a concatenation and a pattern.
-- A node has the place of its first token.
use Rattle.std.specs.Prelude.{◌≡◌, ℕ, suc, ◌+◌, ◌≤◌, Bool, true, false, List, [], ◌∷◌, ◌++◌, Option, Some, None}
use Rattle.nt_value.specs.declared.place.Place.{Place}
use Rattle.nt_value.specs.declared.literal.Literal.{Literal}
use Rattle.nt_value.specs.declared.operator.Unary.{Unary}
use Rattle.nt_value.specs.declared.operator.Binary.{Binary}
use Rattle.nt_ast.specs.declared.path.Path.{Path}
use Rattle.nt_ast.specs.declared.expr.Key.{Key}
use Rattle.nt_ast.specs.declared.expr.Expr.{Expr}
use Rattle.nt_ast.specs.declared.expr.Expr.TheVariants as e
use Rattle.nt_lexer.specs.declared.kinds.Mark.{Mark}
use Rattle.nt_lexer.specs.declared.kinds.Mark.TheVariants as m
use Rattle.nt_lexer.specs.declared.kinds.TokenKind.TheVariants as k
use Rattle.nt_lexer.specs.declared.kinds.Token.{Token}
use Rattle.nt_read_expr.specs.declared.front.System.TheVariants.{Time, Sign}
use Rattle.nt_read_expr.specs.Tables.{Tokens, binary_of, level, unary_of, upward, system_of, is_size, is_member, key_of, start}

-- a name, or a name of a package (A.9.3 package_scope, 26.3)
pub data Reference : Tokens → Path → Type 0 where
  -- name
  alone : {name : List ℕ} (t : Token) → t.kind ≡ k.Name name → Reference (t ∷ []) (record { at = t.at; scope = None; name = name })
  -- package_name :: name
  scoped : {scope name : List ℕ} (p q t : Token) → p.kind ≡ k.Name scope → q.kind ≡ k.Mark m.Scope → t.kind ≡ k.Name name
      → Reference (p ∷ q ∷ t ∷ []) (record { at = p.at; scope = Some scope; name = name })

mutual
  -- an expression, with at most limit operators in its chain (11.3, A.8.3)
  pub data Expression (limit : ℕ) : ℕ → Tokens → Expr → Type 0 where
    -- chain
    plain : {d n : ℕ} {ts : Tokens} {x : Expr} → Chain limit d 10 n ts x → n ≤ limit → Expression limit d ts x
    -- what stands after the colon is a whole expression, so this groups to the right (11.3.2, 11.4.11)
    -- chain ? expression : expression
    choose : {d n : ℕ} {ts us vs : Tokens} {x y z : Expr} (q c : Token)
        → Chain limit (suc d) 10 n ts x → n ≤ limit → q.kind ≡ k.Mark m.Question → Expression limit d us y → c.kind ≡ k.Mark m.Colon
        → Expression limit d vs z → Expression limit (suc d) (ts ++ q ∷ us ++ c ∷ vs) (e.Choose (start ts) x y z)

  -- operands joined by operators of levels up to the second number; the third counts the operators (11.3.2)
  pub data Chain (limit : ℕ) : ℕ → ℕ → ℕ → Tokens → Expr → Type 0 where
    -- operand
    single : {d : ℕ} {ts : Tokens} {x : Expr} → Operand limit d ts x → Chain limit d 0 0 ts x
    -- a chain of the next tighter level
    tighter : {d h n : ℕ} {ts : Tokens} {x : Expr} → Chain limit d h n ts x → Chain limit d (suc h) n ts x
    -- the left side may be of the same level, so this groups to the left
    -- chain operator chain
    joined : {d h n o : ℕ} {ts us : Tokens} {x y : Expr} (mark : Mark) (op : Binary) (t : Token)
        → Chain limit d (suc h) n ts x → t.kind ≡ k.Mark mark → binary_of mark ≡ Some op → level op ≡ suc h → Chain limit d h o us y
        → Chain limit d (suc h) (n + o + 1) (ts ++ t ∷ us) (e.Binary (start ts) op x y)

  -- an operand (A.8.4 primary), with its prefix operators (A.8.3)
  pub data Operand (limit : ℕ) : ℕ → Tokens → Expr → Type 0 where
    -- number   (5.7.1, A.8.7)
    literal : {d : ℕ} {v : Literal} (t : Token) → t.kind ≡ k.Number v → Operand limit d (t ∷ []) (e.Literal t.at v)
    -- 11.5; a name with at most limit selects
    -- left
    left : {d n : ℕ} {ts : Tokens} {x : Expr} → Left limit d false n ts x → n ≤ limit → Operand limit d ts x
    -- left . size   (7.5.2)
    size : {d n : ℕ} {ts : Tokens} {x : Expr} {name : List ℕ} (o t : Token)
        → Left limit d false n ts x → n ≤ limit → o.kind ≡ k.Mark m.Dot → t.kind ≡ k.Name name → is_size name ≡ true
        → Operand limit d (ts ++ o ∷ t ∷ []) (e.Size (start ts) x)
    -- left . size ( )
    size_call : {d n : ℕ} {ts : Tokens} {x : Expr} {name : List ℕ} (o t p c : Token)
        → Left limit d false n ts x → n ≤ limit → o.kind ≡ k.Mark m.Dot → t.kind ≡ k.Name name → is_size name ≡ true
        → p.kind ≡ k.Mark m.LeftParen → c.kind ≡ k.Mark m.RightParen
        → Operand limit d (ts ++ o ∷ t ∷ p ∷ c ∷ []) (e.Size (start ts) x)
    -- ( expression )   (11.3.2)
    bracketed : {d : ℕ} {ts : Tokens} {x : Expr} (o c : Token)
        → o.kind ≡ k.Mark m.LeftParen → Expression limit d ts x → c.kind ≡ k.Mark m.RightParen → Operand limit (suc d) (o ∷ ts ++ c ∷ []) x
    -- operator operand   (11.4.3, 11.4.7 to 11.4.9)
    prefixed : {d : ℕ} {ts : Tokens} {x : Expr} (mark : Mark) (op : Unary) (t : Token)
        → t.kind ≡ k.Mark mark → unary_of mark ≡ Some op → Operand limit d ts x → Operand limit (suc d) (t ∷ ts) (e.Unary t.at op x)
    -- { expression { , expression } }   (11.4.12, A.8.1)
    concat : {d : ℕ} {ts : Tokens} {xs : List Expr} (o c : Token)
        → o.kind ≡ k.Mark m.LeftBrace → Several limit d ts xs → c.kind ≡ k.Mark m.RightBrace → Operand limit (suc d) (o ∷ ts ++ c ∷ []) (e.Concat o.at xs)
    -- { expression { expression { , expression } } }   (11.4.12.1, A.8.1)
    repetition : {d : ℕ} {ts us : Tokens} {x : Expr} {xs : List Expr} (o p q c : Token)
        → o.kind ≡ k.Mark m.LeftBrace → Expression limit d ts x → p.kind ≡ k.Mark m.LeftBrace → Several limit d us xs
        → q.kind ≡ k.Mark m.RightBrace → c.kind ≡ k.Mark m.RightBrace
        → Operand limit (suc d) (o ∷ ts ++ p ∷ us ++ q ∷ c ∷ []) (e.Repeat o.at x xs)
    -- '{ item { , item } }   (10.9, A.6.7.1)
    pattern_of : {d : ℕ} {keyed : Bool} {ts : Tokens} {xs : List (Option Key × Expr)} (o c : Token)
        → o.kind ≡ k.Mark m.TickBrace → Items limit d keyed ts xs → c.kind ≡ k.Mark m.RightBrace
        → Operand limit (suc d) (o ∷ ts ++ c ∷ []) (e.Pattern o.at xs)
    -- reference ( expression { , expression } )   (13.4, A.8.2)
    call : {d : ℕ} {ts us : Tokens} {path : Path} {xs : List Expr} (o c : Token)
        → Reference ts path → o.kind ≡ k.Mark m.LeftParen → Several limit d us xs → c.kind ≡ k.Mark m.RightParen
        → Operand limit (suc d) (ts ++ o ∷ us ++ c ∷ []) (e.Call (start ts) path xs)
    -- reference ( )
    call_none : {d : ℕ} {ts : Tokens} {path : Path} (o c : Token)
        → Reference ts path → o.kind ≡ k.Mark m.LeftParen → c.kind ≡ k.Mark m.RightParen
        → Operand limit d (ts ++ o ∷ c ∷ []) (e.Call (start ts) path [])
    -- $time   (20.3.1)
    now : {d : ℕ} {name : List ℕ} (t : Token) → t.kind ≡ k.System name → system_of name ≡ Some Time → Operand limit d (t ∷ []) (e.Time t.at)
    -- $signed ( expression ) | $unsigned ( expression )   (11.7, 20.5)
    signed : {d : ℕ} {name : List ℕ} {ts : Tokens} {x : Expr} (to : Bool) (t o c : Token)
        → t.kind ≡ k.System name → system_of name ≡ Some (Sign to) → o.kind ≡ k.Mark m.LeftParen → Expression limit d ts x → c.kind ≡ k.Mark m.RightParen
        → Operand limit (suc d) (t ∷ o ∷ ts ++ c ∷ []) (e.Sign t.at to x)

  -- A name and its selects, which the number after the Bool counts. Where the Bool holds, `.size` may be a member. (A.8.4, A.8.5)
  pub data Left (limit : ℕ) : ℕ → Bool → ℕ → Tokens → Expr → Type 0 where
    -- reference
    named : {d : ℕ} {free : Bool} {ts : Tokens} {path : Path} → Reference ts path → Left limit d free 0 ts (e.Read (start ts) path)
    -- left select
    selected : {d n : ℕ} {free : Bool} {ts us : Tokens} {x y : Expr} → Left limit d free n ts x → Select limit d free (start ts) x us y → Left limit d free (suc n) (ts ++ us) y

  -- one select of the first tree, which has this place, and what it gives
  pub data Select (limit : ℕ) : ℕ → Bool → Place → Expr → Tokens → Expr → Type 0 where
    -- . name   (7.2)
    member : {d : ℕ} {free : Bool} {name : List ℕ} {at : Place} {x : Expr} (o t : Token)
        → o.kind ≡ k.Mark m.Dot → t.kind ≡ k.Name name → is_member free name ≡ true → Select limit d free at x (o ∷ t ∷ []) (e.Member at x t.at name)
    -- [ expression ]   (7.4.6, 11.5.1)
    item : {d : ℕ} {free : Bool} {ts : Tokens} {at : Place} {x y : Expr} (o c : Token)
        → o.kind ≡ k.Mark m.LeftBracket → Expression limit d ts y → c.kind ≡ k.Mark m.RightBracket
        → Select limit (suc d) free at x (o ∷ ts ++ c ∷ []) (e.Item at x y)
    -- [ expression : expression ]   (11.5.1)
    part : {d : ℕ} {free : Bool} {ts us : Tokens} {at : Place} {x y z : Expr} (o q c : Token)
        → o.kind ≡ k.Mark m.LeftBracket → Expression limit d ts y → q.kind ≡ k.Mark m.Colon → Expression limit d us z → c.kind ≡ k.Mark m.RightBracket
        → Select limit (suc d) free at x (o ∷ ts ++ q ∷ us ++ c ∷ []) (e.Part at x y z)
    -- [ expression +: expression ] | [ expression -: expression ]   (11.5.1)
    indexed : {d : ℕ} {free : Bool} {ts us : Tokens} {at : Place} {x y z : Expr} (mark : Mark) (up : Bool) (o q c : Token)
        → o.kind ≡ k.Mark m.LeftBracket → Expression limit d ts y → q.kind ≡ k.Mark mark → upward mark ≡ Some up → Expression limit d us z
        → c.kind ≡ k.Mark m.RightBracket → Select limit (suc d) free at x (o ∷ ts ++ q ∷ us ++ c ∷ []) (e.Indexed at x y z up)

  -- one or more, with commas between
  pub data Several (limit : ℕ) : ℕ → Tokens → List Expr → Type 0 where
    -- expression { , expression }
    several : {d : ℕ} {ts us : Tokens} {x : Expr} {xs : List Expr} → Expression limit d ts x → Others limit d us xs → Several limit d (ts ++ us) (x ∷ xs)

  -- what follows the first of them
  pub data Others (limit : ℕ) : ℕ → Tokens → List Expr → Type 0 where
    last : {d : ℕ} → Others limit d [] []
    -- , expression
    another : {d : ℕ} {ts us : Tokens} {x : Expr} {xs : List Expr} (t : Token)
        → t.kind ≡ k.Mark m.Comma → Expression limit d ts x → Others limit d us xs → Others limit d (t ∷ ts ++ us) (x ∷ xs)

  -- an item of a pattern, which has a key where the Bool holds (10.9)
  pub data Entry (limit : ℕ) : ℕ → Bool → Tokens → Option Key × Expr → Type 0 where
    -- expression
    keyless : {d : ℕ} {ts : Tokens} {x : Expr} → Expression limit d ts x → Entry limit d false ts (None, x)
    -- name : expression | default : expression
    keyed : {d : ℕ} {ts : Tokens} {x : Expr} (key : Key) (t c : Token)
        → key_of t.kind ≡ Some key → c.kind ≡ k.Mark m.Colon → Expression limit d ts x → Entry limit d true (t ∷ c ∷ ts) (Some key, x)

  -- one or more of them, all with keys or none
  pub data Items (limit : ℕ) : ℕ → Bool → Tokens → List (Option Key × Expr) → Type 0 where
    -- item { , item }
    items : {d : ℕ} {keyed : Bool} {ts us : Tokens} {x : Option Key × Expr} {xs : List (Option Key × Expr)}
        → Entry limit d keyed ts x → OtherItems limit d keyed us xs → Items limit d keyed (ts ++ us) (x ∷ xs)

  pub data OtherItems (limit : ℕ) : ℕ → Bool → Tokens → List (Option Key × Expr) → Type 0 where
    last_item : {d : ℕ} {keyed : Bool} → OtherItems limit d keyed [] []
    -- , item
    another_item : {d : ℕ} {keyed : Bool} {ts us : Tokens} {x : Option Key × Expr} {xs : List (Option Key × Expr)} (t : Token)
        → t.kind ≡ k.Mark m.Comma → Entry limit d keyed ts x → OtherItems limit d keyed us xs → OtherItems limit d keyed (t ∷ ts ++ us) (x ∷ xs)
