-- What the grammar derives is read, whatever follows that does not go on with it.
use Rattle.std.proofs.Common.{◌≡◌, ℕ, zero, suc, ◌+◌, ◌<◌, ◌≤◌, Bool, true, false, List, [], ◌∷◌, ◌++◌, length, drop, Option, Some, None, refl, sym, ap, ◌∙◌, subst, arith, append_assoc, length-append, append-nil, if◌then◌else◌}
use Rattle.std.proofs.lemmas.Bool.{lt-ltb}
use Rattle.nt_value.specs.declared.place.Place.{Place}
use Rattle.nt_value.specs.declared.operator.Unary.{Unary}
use Rattle.nt_value.specs.declared.operator.Binary.{Binary}
use Rattle.nt_ast.specs.declared.path.Path.{Path}
use Rattle.nt_ast.specs.declared.expr.Key.{Key}
use Rattle.nt_ast.specs.declared.expr.Expr.{Expr}
use Rattle.nt_ast.specs.declared.expr.Expr.TheVariants as e
use Rattle.nt_lexer.specs.declared.kinds.Mark.{Mark}
use Rattle.nt_lexer.specs.declared.kinds.Mark.TheVariants as m
use Rattle.nt_lexer.specs.declared.kinds.TokenKind.{TokenKind}
use Rattle.nt_lexer.specs.declared.kinds.TokenKind.TheVariants as k
use Rattle.nt_lexer.specs.declared.kinds.Token.{Token}
use Rattle.nt_read_expr.specs.declared.front.System.TheVariants.{Time, Sign}
use Rattle.nt_read_expr.specs.Tables.{Tokens, binary_of, level, is_size, is_member, separates, start}
use Rattle.nt_read_expr.specs.Derivation.{Reference, alone, scoped, Expression, plain, choose, Chain, single, tighter, joined, Operand, literal, left, size, size_call, bracketed, prefixed, concat, repetition, pattern_of, call, call_none, now, signed, Left, named, selected, Select, member, item, part, indexed, Several, several, Others, last, another, Entry, keyless, keyed, Items, items, OtherItems, last_item, another_item}
use Rattle.nt_read_expr.specs.declared.list.Separator.{Separator}
use Rattle.nt_read_expr.specs.declared.list.Separator.TheVariants.{Comma, CommaOrWord}
use Rattle.nt_read_expr.specs.Lists.{MoreOf, no_item, next_item, ListOf, listed}
use Rattle.nt_read_expr.specs.Reader as r
use Rattle.nt_read_expr.specs.Reader.{Readers, Read, below, first, same_mark, is_kind, is_at, expect, name_first, binary_first, dotted, key_first, is_some}
use Rattle.nt_read_expr.proofs.Follows.{Follow, reach, reach_kind, at_mark, at_other, not_at, expect_mark, follow_mark, reach_binary, operand_prefix, index_direction, upward_far, binary_none, binary_some, lower, name_some, dotted_none, dotted_some, dotted_other, key_some}
use Rattle.nt_read_expr.proofs.Lists.{Reads, list_stops, list_steps, list_opens}
use Rattle.nt_read_expr.proofs.Begins.{Begins, start_append, left_begins, chain_begins, expression_begins, several_begins}

pub regroup : (a b c : Tokens) → (a ++ b) ++ c ≡ a ++ (b ++ c)
regroup a b c = append_assoc a b c

pub regroup4 : (a b c d : Tokens) → ((a ++ b) ++ c) ++ d ≡ a ++ (b ++ (c ++ d))
regroup4 a b c d = append_assoc (a ++ b) c d ∙ append_assoc a b (c ++ d)

-- what a reference does not go on with, nor is it a call
pub record Selectable (rest : Tokens) : Type 0 where
  pub scope : is_at m.Scope rest ≡ false
  pub paren : is_at m.LeftParen rest ≡ false

selectable_mark : (mark : Mark) (t : Token) (ts : Tokens) → t.kind ≡ k.Mark mark → same_mark mark m.Scope ≡ false → same_mark mark m.LeftParen ≡ false → Selectable (t ∷ ts)
selectable_mark mark t ts e f g = record { scope = at_other m.Scope mark t ts e f; paren = at_other m.LeftParen mark t ts e g }

pub selectable_follow : (ts : Tokens) → Follow 0 ts → Selectable ts
selectable_follow ts fo = record { scope = not_at m.Scope 0 ts (omega arith) fo; paren = not_at m.LeftParen 0 ts (omega arith) fo }

-- what may follow an item of a list: it does not go on with an expression, nor open a repetition, nor end a key
pub record Ends (rest : Tokens) : Type 0 where
  pub follow : Follow 11 rest
  pub brace : is_at m.LeftBrace rest ≡ false
  pub colon : is_at m.Colon rest ≡ false

-- what closes a list
pub record Closes (rest : Tokens) : Type 0 where
  pub ends : Ends rest
  pub comma : separates Comma (first rest) ≡ false

pub ends_by : (mark : Mark) (c : Token) (rest : Tokens) → c.kind ≡ k.Mark mark → 11 < reach mark → same_mark mark m.LeftBrace ≡ false → same_mark mark m.Colon ≡ false → Ends (c ∷ rest)
ends_by mark c rest e lt f g = record { follow = follow_mark mark 11 c rest e lt; brace = at_other m.LeftBrace mark c rest e f; colon = at_other m.Colon mark c rest e g }

-- a mark that neither goes on with an expression nor separates closes a list
pub closes_by : (mark : Mark) (c : Token) (rest : Tokens) → c.kind ≡ k.Mark mark → 11 < reach mark → same_mark mark m.LeftBrace ≡ false → same_mark mark m.Colon ≡ false
    → separates Comma (k.Mark mark) ≡ false → Closes (c ∷ rest)
closes_by mark c rest e lt f g h = record { ends = ends_by mark c rest e lt f g; comma = ap (separates Comma) e ∙ h }

closes_brace : (c : Token) (rest : Tokens) → c.kind ≡ k.Mark m.RightBrace → Closes (c ∷ rest)
closes_brace c rest e = closes_by m.RightBrace c rest e (omega arith) refl refl refl

pub closes_paren : (c : Token) (rest : Tokens) → c.kind ≡ k.Mark m.RightParen → Closes (c ∷ rest)
closes_paren c rest e = closes_by m.RightParen c rest e (omega arith) refl refl refl

pub closes_semicolon : (c : Token) (rest : Tokens) → c.kind ≡ k.Mark m.Semicolon → Closes (c ∷ rest)
closes_semicolon c rest e = closes_by m.Semicolon c rest e (omega arith) refl refl refl

-- after a separator no expression goes on
parted_kind : (by : Separator) (t : Token) (kind : TokenKind) (rest : Tokens) → t.kind ≡ kind → separates by kind ≡ true → Follow 11 (t ∷ rest)
parted_kind by t (k.Mark m.Comma) rest e f = follow_mark m.Comma 11 t rest e (omega arith)
parted_kind by t (k.Word n) rest e f = record { far = let P : TokenKind → Type 0 = λ kind. 11 < reach_kind kind in rw e (omega arith) }
parted_kind Comma t _ rest e f = absurd cc
parted_kind CommaOrWord t _ rest e f = absurd cc

pub parted : (by : Separator) (t : Token) (rest : Tokens) → separates by t.kind ≡ true → Follow 11 (t ∷ rest)
parted by t rest g = parted_kind by t t.kind rest refl g

pub no_close : {ts : Tokens} → Begins ts → (us : Tokens) → is_at m.RightParen (ts ++ us) ≡ false
unfolding is_at
no_close b us = ap (λ s. is_kind m.RightParen (first (s ++ us))) b.is ∙ b.unclosed

module _ (limit : ℕ) where
  -- ---- steps of the reader

  module _ (rs : Readers) where
    chain_single : (ts us : Tokens) (x : Expr) → r.operand limit rs ts ≡ Some (x, us) → r.chain limit rs 0 ts ≡ Some (x, 0, us)
    unfolding r.chain
    chain_single ts us x g = rw g refl

    chain_opens : (h n : ℕ) (ts us : Tokens) (x : Expr) → r.chain limit rs h ts ≡ Some (x, n, us)
        → r.chain limit rs (suc h) ts ≡ r.more limit rs (r.chain limit rs h) (suc h) (suc limit) (start ts) x n us
    unfolding r.chain
    chain_opens h n ts us x g = rw g refl

    more_stops : (next : Tokens → r.Part) (h f n : ℕ) (at : Place) (x : Expr) (ts : Tokens) → binary_first h ts ≡ None
        → r.more limit rs next h (suc f) at x n ts ≡ Some (x, n, ts)
    unfolding r.more
    more_stops next h f n at x ts g = rw g refl

    more_steps : (next : Tokens → r.Part) (h f n o : ℕ) (at : Place) (op : Binary) (x y : Expr) (ts us : Tokens)
        → binary_first h ts ≡ Some op → next (drop 1 ts) ≡ Some (y, o, us) → n + o < limit
        → r.more limit rs next h (suc f) at x n ts ≡ r.more limit rs next h f at (e.Binary at op x y) (n + o + 1) us
    unfolding r.more
    more_steps next h f n o at op x y ts us g j lt = rw (g, j, lt-ltb (n + o) limit lt) refl

    pub selects_stop : (free : Bool) (f : ℕ) (at : Place) (x : Expr) (ts : Tokens) → is_at m.LeftBracket ts ≡ false → dotted (is_member free) ts ≡ None
        → r.selects limit rs free (suc f) at x ts ≡ Some (x, ts)
    unfolding r.selects
    selects_stop free f at x ts g j = rw (g, j) refl

    selects_bracket : (free : Bool) (f : ℕ) (at : Place) (x y : Expr) (ts us : Tokens) → is_at m.LeftBracket ts ≡ true → r.index limit rs at x (drop 1 ts) ≡ Some (y, us)
        → r.selects limit rs free (suc f) at x ts ≡ r.selects limit rs free f at y us
    unfolding r.selects
    selects_bracket free f at x y ts us g j = rw (g, j) refl

    selects_member : (free : Bool) (f : ℕ) (at : Place) (x : Expr) (name : List ℕ) (ts : Tokens) → is_at m.LeftBracket ts ≡ false → dotted (is_member free) ts ≡ Some name
        → r.selects limit rs free (suc f) at x ts ≡ r.selects limit rs free f at (e.Member at x (start (drop 1 ts)) name) (drop 2 ts)
    unfolding r.selects
    selects_member free f at x name ts g j = rw (g, j) refl

    index_by_kind : (at : Place) (x y : Expr) (c : Token) (ts us : Tokens) (kind : TokenKind) → rs.whole ts ≡ Some (y, c ∷ us) → c.kind ≡ kind
        → r.index limit rs at x ts ≡ r.index_by limit rs kind at x y us
    unfolding r.index
    index_by_kind at x y c ts us kind g j = rw g (ap (λ w. r.index_by limit rs w at x y us) j)

    reads_closing : (tree : Expr → Expr) (z : Expr) (ts us vs : Tokens) → rs.whole ts ≡ Some (z, us) → expect m.RightBracket us ≡ Some vs
        → r.closing limit rs tree ts ≡ Some (tree z, vs)
    unfolding r.closing
    reads_closing tree z ts us vs g j = rw (g, j) refl

    reads_direction : (at : Place) (x y z : Expr) (up : Bool) (ts us vs : Tokens) → rs.whole ts ≡ Some (z, us) → expect m.RightBracket us ≡ Some vs
        → r.direction limit rs at x y (Some up) ts ≡ Some (e.Indexed at x y z up, vs)
    unfolding r.direction
    reads_direction at x y z up ts us vs g j = reads_closing (λ v. e.Indexed at x y v up) z ts us vs g j

    reads_keyless : (x : Expr) (ts us : Tokens) → rs.whole ts ≡ Some (x, us) → r.entry limit rs false ts ≡ Some ((None, x), us)
    unfolding r.entry
    reads_keyless x ts us g = rw g refl

    reads_keyed : (x : Expr) (key : Key) (ts us : Tokens) → key_first ts ≡ Some key → rs.whole (drop 2 ts) ≡ Some (x, us) → r.entry limit rs true ts ≡ Some ((Some key, x), us)
    unfolding r.entry
    reads_keyed x key ts us g j = rw (g, j) refl

    whole_plain : (n : ℕ) (ts us : Tokens) (x : Expr) → r.chain limit rs 10 ts ≡ Some (x, n, us) → is_at m.Question us ≡ false → r.whole limit rs ts ≡ Some (x, us)
    unfolding r.whole
    whole_plain n ts us x g q = rw (g, q) refl

    whole_choose : (n : ℕ) (ts us vs ws rest : Tokens) (x y z : Expr) → r.chain limit rs 10 ts ≡ Some (x, n, us)
        → is_at m.Question us ≡ true → rs.whole (drop 1 us) ≡ Some (y, vs) → expect m.Colon vs ≡ Some ws → rs.whole ws ≡ Some (z, rest)
        → r.whole limit rs ts ≡ Some (e.Choose (start ts) x y z, rest)
    unfolding r.whole r.choose
    whole_choose n ts us vs ws rest x y z g q h i j = rw (g, q, h, i, j) refl

    -- ---- operands

    by_kind : (t : Token) (kind : TokenKind) (ts : Tokens) → t.kind ≡ kind → r.operand limit rs (t ∷ ts) ≡ r.operand_by limit rs kind t.at ts
    unfolding r.operand
    by_kind t kind ts g = ap (λ x. r.operand_by limit rs x t.at ts) g

    reads_bracketed : (ts us vs : Tokens) (x : Expr) → rs.whole ts ≡ Some (x, us) → expect m.RightParen us ≡ Some vs → r.bracketed limit rs ts ≡ Some (x, vs)
    unfolding r.bracketed
    reads_bracketed ts us vs x g j = rw (g, j) refl

    reads_prefixed : (at : Place) (op : Unary) (ts us : Tokens) (x : Expr) → rs.operand ts ≡ Some (x, us) → r.prefixed limit rs at (Some op) ts ≡ Some (e.Unary at op x, us)
    unfolding r.prefixed
    reads_prefixed at op ts us x g = rw g refl

    reads_concat : (at : Place) (x : Expr) (ts us vs ws : Tokens) (xs : List Expr) → rs.whole ts ≡ Some (x, us) → is_at m.LeftBrace us ≡ false
        → r.more_of Comma rs.whole (length us + 1) (x ∷ []) us ≡ Some (xs, vs) → expect m.RightBrace vs ≡ Some ws → r.braced limit rs at ts ≡ Some (e.Concat at xs, ws)
    unfolding r.braced r.concat
    reads_concat at x ts us vs ws xs g h i j = rw (g, h, i, j) refl

    reads_repetition : (at : Place) (x : Expr) (ts us vs ws zs : Tokens) (xs : List Expr) → rs.whole ts ≡ Some (x, us) → is_at m.LeftBrace us ≡ true
        → r.several limit rs (drop 1 us) ≡ Some (xs, vs) → expect m.RightBrace vs ≡ Some ws → expect m.RightBrace ws ≡ Some zs → r.braced limit rs at ts ≡ Some (e.Repeat at x xs, zs)
    unfolding r.braced r.repetition
    reads_repetition at x ts us vs ws zs xs g h i j l = rw (g, h, i, j, l) refl

    reads_pattern : (at : Place) (keys : Bool) (ts us vs : Tokens) (xs : List (Option Key × Expr)) → is_some (key_first ts) ≡ keys
        → r.items limit rs keys ts ≡ Some (xs, us) → expect m.RightBrace us ≡ Some vs → r.pattern_of limit rs at ts ≡ Some (e.Pattern at xs, vs)
    unfolding r.pattern_of
    reads_pattern at keys ts us vs xs g h i = rw (g, h, i) refl

    reads_call : (at : Place) (path : Path) (ts us vs : Tokens) (xs : List Expr) → is_at m.RightParen ts ≡ false
        → r.several limit rs ts ≡ Some (xs, us) → expect m.RightParen us ≡ Some vs → r.call limit rs at path ts ≡ Some (e.Call at path xs, vs)
    unfolding r.call
    reads_call at path ts us vs xs g h i = rw (g, h, i) refl

    reads_call_none : (at : Place) (path : Path) (ts : Tokens) → is_at m.RightParen ts ≡ true → r.call limit rs at path ts ≡ Some (e.Call at path [], drop 1 ts)
    unfolding r.call
    reads_call_none at path ts g = rw g refl

    reads_sign : (at : Place) (to : Bool) (ts us vs ws : Tokens) (x : Expr) → expect m.LeftParen ts ≡ Some us → rs.whole us ≡ Some (x, vs) → expect m.RightParen vs ≡ Some ws
        → r.system limit rs at (Some (Sign to)) ts ≡ Some (e.Sign at to x, ws)
    unfolding r.system
    reads_sign at to ts us vs ws x g h i = rw (g, h, i) refl

    reads_time : (at : Place) (ts : Tokens) → r.system limit rs at (Some Time) ts ≡ Some (e.Time at, ts)
    unfolding r.system
    reads_time at ts = refl

    -- what a reference goes on with
    after_reference : Place → Path → Tokens → Read Expr
    after_reference at path zs = if is_at m.LeftParen zs then r.call limit rs at path (drop 1 zs) else r.left limit rs at path zs

    reads_alone : (t : Token) (name : List ℕ) (zs : Tokens) → is_at m.Scope zs ≡ false
        → r.named limit rs t.at name zs ≡ after_reference t.at (record { at = t.at; scope = None; name = name }) zs
    unfolding r.named r.reference after_reference
    reads_alone t name zs g = rw g refl

    reads_scoped : (at : Place) (scope name : List ℕ) (q t : Token) (zs : Tokens) → is_at m.Scope (q ∷ t ∷ zs) ≡ true → name_first (t ∷ zs) ≡ Some name
        → r.named limit rs at scope (q ∷ t ∷ zs) ≡ after_reference at (record { at = at; scope = Some scope; name = name }) zs
    unfolding r.named r.reference after_reference
    reads_scoped at scope name q t zs g h = rw (g, h) refl

    reads_reference : {ps : Tokens} {path : Path} → Reference ps path → (zs : Tokens) → is_at m.Scope zs ≡ false → r.operand limit rs (ps ++ zs) ≡ after_reference (start ps) path zs
    reads_reference (alone {name = name} t g) zs s = by_kind t (k.Name name) zs g ∙ reads_alone t name zs s
    reads_reference (scoped {scope = scope} {name = name} p q t ep eq et) zs s =
        by_kind p (k.Name scope) (q ∷ t ∷ zs) ep ∙ reads_scoped p.at scope name q t zs (at_mark m.Scope q (t ∷ zs) eq) (name_some t zs name et)

    after_paren : (at : Place) (path : Path) (zs : Tokens) → is_at m.LeftParen zs ≡ true → after_reference at path zs ≡ r.call limit rs at path (drop 1 zs)
    unfolding after_reference
    after_paren at path zs g = rw g refl

    after_other : (at : Place) (path : Path) (zs : Tokens) → is_at m.LeftParen zs ≡ false → after_reference at path zs ≡ r.left limit rs at path zs
    unfolding after_reference
    after_other at path zs g = rw g refl

    reads_left : (at : Place) (path : Path) (x : Expr) (zs us : Tokens) → r.selects limit rs false (suc limit) at (e.Read at path) zs ≡ Some (x, us)
        → r.left limit rs at path zs ≡ r.sized at x us
    unfolding r.left
    reads_left at path x zs us g = rw g refl

  sized_stop : (at : Place) (x : Expr) (ts : Tokens) → dotted is_size ts ≡ None → r.sized at x ts ≡ Some (x, ts)
  unfolding r.sized
  sized_stop at x ts g = rw g refl

  sized_plain : (at : Place) (x : Expr) (ts : Tokens) (name : List ℕ) → dotted is_size ts ≡ Some name → is_at m.LeftParen (drop 2 ts) ≡ false → r.sized at x ts ≡ Some (e.Size at x, drop 2 ts)
  unfolding r.sized r.past_parens
  sized_plain at x ts name g h = rw (g, h) refl

  sized_call : (at : Place) (x : Expr) (ts : Tokens) (name : List ℕ) → dotted is_size ts ≡ Some name → is_at m.LeftParen (drop 2 ts) ≡ true → is_at m.RightParen (drop 1 (drop 2 ts)) ≡ true
      → r.sized at x ts ≡ Some (e.Size at x, drop 2 (drop 2 ts))
  unfolding r.sized r.past_parens
  sized_call at x ts name g h i = rw (g, h, i) refl

  -- ---- loops that have read a front, and may go on

  -- After `ts`, an expression `x` of `n` operators, the loop of the level has turns left for the rest.
  record Opened (rs : Readers) (h n : ℕ) (ts : Tokens) (x : Expr) (rest : Tokens) : Type 0 where
    turns : ℕ
    room : limit ≤ turns + n
    eq : r.chain limit rs (suc h) (ts ++ rest) ≡ r.more limit rs (r.chain limit rs h) (suc h) (suc turns) (start ts) x n rest

  closes : (rs : Readers) (h n : ℕ) (ts : Tokens) (x : Expr) (rest : Tokens) → Opened rs h n ts x rest → binary_first (suc h) rest ≡ None
      → r.chain limit rs (suc h) (ts ++ rest) ≡ Some (x, n, rest)
  closes rs h n ts x rest o g = o.eq ∙ more_stops rs (r.chain limit rs h) (suc h) o.turns n (start ts) x rest g

  opens : (rs : Readers) (h n : ℕ) (ts : Tokens) (x : Expr) (rest : Tokens) → Begins ts → r.chain limit rs h (ts ++ rest) ≡ Some (x, n, rest)
      → Opened rs h n ts x rest
  opens rs h n ts x rest b g = record {
    turns = limit;
    room = omega arith;
    eq = chain_opens rs h n (ts ++ rest) rest x g ∙ ap (λ at. r.more limit rs (r.chain limit rs h) (suc h) (suc limit) at x n rest) (start_append b rest);
  }

  grows_by : (turns n o : ℕ) → limit ≤ turns + n → n + o + 1 ≤ limit → (t : ℕ) × (turns ≡ suc t) × (limit ≤ t + (n + o + 1))
  grows_by zero n o room le = absurd (omega arith)
  grows_by (suc t) n o room le = (t, refl, omega arith)

  grows : (rs : Readers) (h n o : ℕ) (ts us : Tokens) (x y : Expr) (mark : Mark) (op : Binary) (t : Token) (rest : Tokens) → Begins ts
      → Opened rs h n ts x (t ∷ (us ++ rest)) → n + o + 1 ≤ limit → t.kind ≡ k.Mark mark → binary_of mark ≡ Some op → level op ≡ suc h
      → r.chain limit rs h (us ++ rest) ≡ Some (y, o, rest)
      → Opened rs h (n + o + 1) (ts ++ t ∷ us) (e.Binary (start ts) op x y) rest
  grows rs h n o ts us x y mark op t rest b open_left le is_mark is_op at_level right =
      let g = grows_by open_left.turns n o open_left.room le in
      let next = r.chain limit rs h in
      let whole : (ts ++ t ∷ us) ++ rest ≡ ts ++ (t ∷ (us ++ rest)) = regroup ts (t ∷ us) rest in
      record {
        turns = g.0;
        room = g.2;
        eq = ap (r.chain limit rs (suc h)) whole ∙ open_left.eq
            ∙ more_steps rs next (suc h) open_left.turns n o (start ts) op x y (t ∷ (us ++ rest)) rest (binary_some (suc h) mark op t (us ++ rest) is_mark is_op at_level) right (omega arith)
            ∙ ap (λ f. r.more limit rs next (suc h) f (start ts) (e.Binary (start ts) op x y) (n + o + 1) rest) g.1
            ∙ ap (λ at. r.more limit rs next (suc h) (suc g.0) at (e.Binary (start ts) op x y) (n + o + 1) rest) (sym (start_append b (t ∷ us)));
      }

  -- The same for selects: `ts` begins with a reference, and the loop has turns left for the rest.
  pub record Selected (rs : Readers) (free : Bool) (n : ℕ) (ts : Tokens) (x : Expr) (rest : Tokens) : Type 0 where
    pub begin : Tokens
    pub others : Tokens
    pub path : Path
    pub is : ts ≡ begin ++ others
    pub reference : Reference begin path
    pub starts : start begin ≡ start ts
    pub goes_on : Selectable (others ++ rest)
    pub turns : ℕ
    pub room : limit ≤ turns + n
    pub eq : r.selects limit rs free (suc limit) (start begin) (e.Read (start begin) path) (others ++ rest) ≡ r.selects limit rs free (suc turns) (start ts) x rest

  selected_none : (rs : Readers) (free : Bool) (ts : Tokens) (path : Path) (rest : Tokens) → Reference ts path → Selectable rest → Selected rs free 0 ts (e.Read (start ts) path) rest
  selected_none rs free ts path rest p on = record { begin = ts; others = []; path = path; is = sym (append-nil ts); reference = p; starts = refl; goes_on = on; turns = limit; room = omega arith; eq = refl }

  grows_by_one : (turns n : ℕ) → limit ≤ turns + n → suc n ≤ limit → (t : ℕ) × (turns ≡ suc t) × (limit ≤ t + suc n)
  grows_by_one zero n room le = absurd (omega arith)
  grows_by_one (suc t) n room le = (t, refl, omega arith)

  selected_more : (rs : Readers) (free : Bool) (n : ℕ) (ts us : Tokens) (x y : Expr) (rest : Tokens) → Begins ts
      → Selected rs free n ts x (us ++ rest) → suc n ≤ limit
      → ((f : ℕ) → r.selects limit rs free (suc f) (start ts) x (us ++ rest) ≡ r.selects limit rs free f (start ts) y rest)
      → Selected rs free (suc n) (ts ++ us) y rest
  selected_more rs free n ts us x y rest b sel le step =
      let g = grows_by_one sel.turns n sel.room le in
      let starts : start (ts ++ us) ≡ start ts = start_append b us in
      let group : (sel.others ++ us) ++ rest ≡ sel.others ++ (us ++ rest) = regroup sel.others us rest in
      record {
        begin = sel.begin;
        others = sel.others ++ us;
        path = sel.path;
        is = ap (λ l. l ++ us) sel.is ∙ regroup sel.begin sel.others us;
        reference = sel.reference;
        starts = sel.starts ∙ sym starts;
        goes_on = subst Selectable (sym group) sel.goes_on;
        turns = g.0;
        room = g.2;
        eq = ap (r.selects limit rs free (suc limit) (start sel.begin) (e.Read (start sel.begin) sel.path)) group ∙ sel.eq ∙ step sel.turns
            ∙ ap (λ f. r.selects limit rs free f (start ts) y rest) g.1
            ∙ ap (λ at. r.selects limit rs free (suc g.0) at y rest) (sym starts);
      }

  -- a left side, where the selects stop, as an operand
  operand_left : (rs : Readers) (n : ℕ) (ts : Tokens) (x : Expr) (rest us : Tokens) (y : Expr) → Selected rs false n ts x rest
      → is_at m.LeftBracket rest ≡ false → dotted (is_member false) rest ≡ None → r.sized (start ts) x rest ≡ Some (y, us)
      → r.operand limit rs (ts ++ rest) ≡ Some (y, us)
  operand_left rs n ts x rest us y sel no_bracket no_dot last_one =
      ap (r.operand limit rs) (ap (λ l. l ++ rest) sel.is ∙ regroup sel.begin sel.others rest)
      ∙ reads_reference rs sel.reference (sel.others ++ rest) sel.goes_on.scope
      ∙ after_other rs (start sel.begin) sel.path (sel.others ++ rest) sel.goes_on.paren
      ∙ reads_left rs (start sel.begin) sel.path x (sel.others ++ rest) rest (sel.eq ∙ selects_stop rs false sel.turns (start ts) x rest no_bracket no_dot)
      ∙ ap (λ at. r.sized at x rest) sel.starts
      ∙ last_one

  -- ---- the induction

  follow_op : (mark : Mark) (op : Binary) (t : Token) (ts : Tokens) (h : ℕ) → t.kind ≡ k.Mark mark → binary_of mark ≡ Some op → level op ≡ suc h → Follow h (t ∷ ts)
  follow_op mark op t ts h is_mark is_op l = follow_mark mark h t ts is_mark (omega (arith, reach_binary mark op is_op))

  others_end : {d : ℕ} {us : Tokens} {xs : List Expr} → Others limit d us xs → (rest : Tokens) → Ends rest → Ends (us ++ rest)
  others_end last rest n = n
  others_end (another {ts = ts} {us = us} t g x xs) rest n = ends_by m.Comma t ((ts ++ us) ++ rest) g (omega arith) refl refl

  items_end : {d : ℕ} {keys : Bool} {us : Tokens} {xs : List (Option Key × Expr)} → OtherItems limit d keys us xs → (rest : Tokens) → Ends rest → Ends (us ++ rest)
  items_end last_item rest n = n
  items_end (another_item {ts = ts} {us = us} t g x xs) rest n = ends_by m.Comma t ((ts ++ us) ++ rest) g (omega arith) refl refl

  -- whether a pattern has keys shows in its first two tokens
  entry_keys : {d : ℕ} {keys : Bool} {ts : Tokens} {x : Option Key × Expr} → Entry limit d keys ts x → (rest : Tokens) → is_at m.Colon rest ≡ false → is_some (key_first (ts ++ rest)) ≡ keys
  entry_keys (keyless x) rest c = ap is_some ((expression_begins limit x).unkeyed rest c)
  entry_keys (keyed {ts = ts} key t c is_key is_c x) rest f = ap is_some (key_some t c (ts ++ rest) key is_key is_c)

  items_keys : {d : ℕ} {keys : Bool} {ts : Tokens} {xs : List (Option Key × Expr)} → Items limit d keys ts xs → (rest : Tokens) → Ends rest → is_some (key_first (ts ++ rest)) ≡ keys
  items_keys (items {ts = ts} {us = us} x xs) rest n = ap (λ l. is_some (key_first l)) (regroup ts us rest) ∙ entry_keys x (us ++ rest) (items_end xs rest n).colon

  pub longer : (us rest : Tokens) → length us < length (us ++ rest) + 1
  longer us rest = omega (arith, length-append us rest)

  pub shorter : (t : Token) (ts us : Tokens) (f : ℕ) → length (t ∷ (ts ++ us)) < suc f → length us < f
  shorter t ts us f lt = omega (arith, lt, length-append ts us)

  select_goes_on : {d : ℕ} {free : Bool} {at : Place} {x y : Expr} {us : Tokens} → Select limit d free at x us y → (rest : Tokens) → Selectable (us ++ rest)
  select_goes_on (member o t eo et f) rest = selectable_mark m.Dot o (t ∷ rest) eo refl refl
  select_goes_on (item {ts = ts} o c eo y ec) rest = selectable_mark m.LeftBracket o ((ts ++ c ∷ []) ++ rest) eo refl refl
  select_goes_on (part {ts = ts} {us = us} o q c eo y eq z ec) rest = selectable_mark m.LeftBracket o (((ts ++ q ∷ us) ++ c ∷ []) ++ rest) eo refl refl
  select_goes_on (indexed {ts = ts} {us = us} mark up o q c eo y eq eu z ec) rest = selectable_mark m.LeftBracket o (((ts ++ q ∷ us) ++ c ∷ []) ++ rest) eo refl refl

  member_not_size : (name : List ℕ) → is_size name ≡ true → is_member false name ≡ false
  member_not_size name g = rw g refl

  mutual
    unfolding below

    pub expression_complete : {d : ℕ} {ts : Tokens} {x : Expr} → Expression limit d ts x → (rest : Tokens) → Follow 11 rest
        → r.whole limit (below limit d) (ts ++ rest) ≡ Some (x, rest)
    expression_complete {d = d} {ts = ts} {x = x} (plain {n = n} c le) rest fo =
        whole_plain (below limit d) n (ts ++ rest) rest x (chain_complete c rest le (lower fo (omega arith))) (not_at m.Question 11 rest (omega arith) fo)
    expression_complete (choose {d = d} {n = n} {ts = ts} {us = us} {vs = vs} {x = x} {y = y} {z = z} q a c le is_q arm is_a other) rest fo =
        let s : Tokens = ts ++ (q ∷ (us ++ (a ∷ (vs ++ rest)))) in
        ap (r.whole limit (below limit (suc d))) (regroup4 ts (q ∷ us) (a ∷ vs) rest)
        ∙ whole_choose (below limit (suc d)) n s (q ∷ (us ++ (a ∷ (vs ++ rest)))) (a ∷ (vs ++ rest)) (vs ++ rest) rest x y z
        (chain_complete c _ le (follow_mark m.Question 10 q _ is_q (omega arith))) (at_mark m.Question q _ is_q)
        (expression_complete arm (a ∷ (vs ++ rest)) (follow_mark m.Colon 11 a _ is_a (omega arith)))
        (expect_mark m.Colon a (vs ++ rest) is_a)
        (expression_complete other rest fo)
        ∙ ap (λ at. Some (e.Choose at x y z, rest)) (start_append (chain_begins limit c) (q ∷ (us ++ (a ∷ (vs ++ rest)))))

    pub chain_complete : {d h n : ℕ} {ts : Tokens} {x : Expr} → Chain limit d h n ts x → (rest : Tokens) → n ≤ limit → Follow h rest
        → r.chain limit (below limit d) h (ts ++ rest) ≡ Some (x, n, rest)
    chain_complete {d = d} {ts = ts} {x = x} (single o) rest le fo = chain_single (below limit d) (ts ++ rest) rest x (operand_complete o rest fo)
    chain_complete {d = d} {n = n} {ts = ts} {x = x} (tighter {h = h} c) rest le fo =
        closes (below limit d) h n ts x rest (opens (below limit d) h n ts x rest (chain_begins limit c) (chain_complete c rest le (lower fo (omega arith)))) (binary_none (suc h) rest fo)
    chain_complete {d = d} (joined {h = h} {n = n} {o = o} {ts = ts} {us = us} {x = x} {y = y} mark op t c is_mark is_op at_level right) rest le fo =
        closes (below limit d) h (n + o + 1) (ts ++ t ∷ us) (e.Binary (start ts) op x y) rest
        (grows (below limit d) h n o ts us x y mark op t rest (chain_begins limit c)
        (chain_open c (t ∷ (us ++ rest)) (omega arith) (follow_op mark op t (us ++ rest) h is_mark is_op at_level)) le is_mark is_op at_level
        (chain_complete right rest (omega arith) (lower fo (omega arith))))
        (binary_none (suc h) rest fo)

    chain_open : {d h n : ℕ} {ts : Tokens} {x : Expr} → Chain limit d (suc h) n ts x → (rest : Tokens) → n ≤ limit → Follow h rest
        → Opened (below limit d) h n ts x rest
    chain_open {d = d} {h = h} {n = n} {ts = ts} {x = x} (tighter c) rest le fo =
        opens (below limit d) h n ts x rest (chain_begins limit c) (chain_complete c rest le fo)
    chain_open {d = d} {h = h} (joined {n = n} {o = o} {ts = ts} {us = us} {x = x} {y = y} mark op t c is_mark is_op at_level right) rest le fo =
        grows (below limit d) h n o ts us x y mark op t rest (chain_begins limit c)
        (chain_open c (t ∷ (us ++ rest)) (omega arith) (follow_op mark op t (us ++ rest) h is_mark is_op at_level)) le is_mark is_op at_level
        (chain_complete right rest (omega arith) fo)

    pub operand_complete : {d : ℕ} {ts : Tokens} {x : Expr} → Operand limit d ts x → (rest : Tokens) → Follow 0 rest
        → r.operand limit (below limit d) (ts ++ rest) ≡ Some (x, rest)
    operand_complete {d = d} (literal t is_number) rest fo = by_kind (below limit d) t _ rest is_number
    operand_complete {d = d} {ts = ts} {x = x} (left {n = n} l le) rest fo =
        operand_left (below limit d) n ts x rest rest x (left_complete l rest le (selectable_follow rest fo))
        (not_at m.LeftBracket 0 rest (omega arith) fo) (dotted_none (is_member false) rest fo) (sized_stop (start ts) x rest (dotted_none is_size rest fo))
    operand_complete {d = d} (size {n = n} {ts = ts} {x = x} {name = name} o t l le is_o is_t is_name) rest fo =
        ap (r.operand limit (below limit d)) (regroup ts (o ∷ t ∷ []) rest)
        ∙ operand_left (below limit d) n ts x (o ∷ t ∷ rest) rest (e.Size (start ts) x) (left_complete l (o ∷ t ∷ rest) le (selectable_mark m.Dot o (t ∷ rest) is_o refl refl))
        (at_other m.LeftBracket m.Dot o (t ∷ rest) is_o refl) (dotted_other (is_member false) o t rest name is_o is_t (member_not_size name is_name))
        (sized_plain (start ts) x (o ∷ t ∷ rest) name (dotted_some is_size o t rest name is_o is_t is_name) (not_at m.LeftParen 0 rest (omega arith) fo))
    operand_complete {d = d} (size_call {n = n} {ts = ts} {x = x} {name = name} o t p c l le is_o is_t is_name is_p is_c) rest fo =
        ap (r.operand limit (below limit d)) (regroup ts (o ∷ t ∷ p ∷ c ∷ []) rest)
        ∙ operand_left (below limit d) n ts x (o ∷ t ∷ p ∷ c ∷ rest) rest (e.Size (start ts) x) (left_complete l (o ∷ t ∷ p ∷ c ∷ rest) le (selectable_mark m.Dot o (t ∷ p ∷ c ∷ rest) is_o refl refl))
        (at_other m.LeftBracket m.Dot o (t ∷ p ∷ c ∷ rest) is_o refl) (dotted_other (is_member false) o t (p ∷ c ∷ rest) name is_o is_t (member_not_size name is_name))
        (sized_call (start ts) x (o ∷ t ∷ p ∷ c ∷ rest) name (dotted_some is_size o t (p ∷ c ∷ rest) name is_o is_t is_name) (at_mark m.LeftParen p (c ∷ rest) is_p) (at_mark m.RightParen c rest is_c))
    operand_complete (bracketed {d = d} {ts = ts} {x = x} o c is_o inner is_c) rest fo =
        ap (r.operand limit (below limit (suc d))) (regroup (o ∷ ts) (c ∷ []) rest)
        ∙ by_kind (below limit (suc d)) o (k.Mark m.LeftParen) (ts ++ (c ∷ rest)) is_o
        ∙ reads_bracketed (below limit (suc d)) (ts ++ (c ∷ rest)) (c ∷ rest) rest x (expression_complete inner (c ∷ rest) (follow_mark m.RightParen 11 c rest is_c (omega arith))) (expect_mark m.RightParen c rest is_c)
    operand_complete (prefixed {d = d} {ts = ts} {x = x} mark op t is_mark is_op inner) rest fo =
        by_kind (below limit (suc d)) t t.kind (ts ++ rest) refl
        ∙ operand_prefix limit (below limit (suc d)) mark op t.kind (ts ++ rest) t.at is_mark is_op
        ∙ reads_prefixed (below limit (suc d)) t.at op (ts ++ rest) rest x (operand_complete inner rest fo)
    operand_complete (concat {d = d} {xs = xs} o c is_o (several {ts = ts} {us = us} {x = x} {xs = ys} first_one more_of) is_c) rest fo =
        let cl = closes_brace c rest is_c in
        let n = others_end more_of (c ∷ rest) cl.ends in
        ap (r.operand limit (below limit (suc d))) (regroup4 (o ∷ ts) us (c ∷ []) rest)
        ∙ by_kind (below limit (suc d)) o (k.Mark m.LeftBrace) (ts ++ (us ++ (c ∷ rest))) is_o
        ∙ reads_concat (below limit (suc d)) o.at x (ts ++ (us ++ (c ∷ rest))) (us ++ (c ∷ rest)) (c ∷ rest) rest (x ∷ ys)
        (expression_complete first_one (us ++ (c ∷ rest)) n.follow) n.brace
        (others_complete more_of (x ∷ []) (c ∷ rest) (length (us ++ (c ∷ rest)) + 1) (longer us (c ∷ rest)) cl)
        (expect_mark m.RightBrace c rest is_c)
    operand_complete (repetition {d = d} {ts = ts} {us = us} {x = x} {xs = xs} o p q c is_o count is_p inner is_q is_c) rest fo =
        ap (r.operand limit (below limit (suc d))) (regroup4 (o ∷ ts) (p ∷ us) (q ∷ c ∷ []) rest)
        ∙ by_kind (below limit (suc d)) o (k.Mark m.LeftBrace) (ts ++ (p ∷ (us ++ (q ∷ c ∷ rest)))) is_o
        ∙ reads_repetition (below limit (suc d)) o.at x (ts ++ (p ∷ (us ++ (q ∷ c ∷ rest)))) (p ∷ (us ++ (q ∷ c ∷ rest))) (q ∷ c ∷ rest) (c ∷ rest) rest xs
        (expression_complete count (p ∷ (us ++ (q ∷ c ∷ rest))) (follow_mark m.LeftBrace 11 p (us ++ (q ∷ c ∷ rest)) is_p (omega arith)))
        (at_mark m.LeftBrace p (us ++ (q ∷ c ∷ rest)) is_p)
        (several_complete inner (q ∷ c ∷ rest) (closes_brace q (c ∷ rest) is_q))
        (expect_mark m.RightBrace q (c ∷ rest) is_q) (expect_mark m.RightBrace c rest is_c)
    operand_complete (pattern_of {d = d} {keyed = keys} {ts = ts} {xs = xs} o c is_o inner is_c) rest fo =
        let cl = closes_brace c rest is_c in
        ap (r.operand limit (below limit (suc d))) (regroup (o ∷ ts) (c ∷ []) rest)
        ∙ by_kind (below limit (suc d)) o (k.Mark m.TickBrace) (ts ++ (c ∷ rest)) is_o
        ∙ reads_pattern (below limit (suc d)) o.at keys (ts ++ (c ∷ rest)) (c ∷ rest) rest xs (items_keys inner (c ∷ rest) cl.ends)
        (items_complete inner (c ∷ rest) cl) (expect_mark m.RightBrace c rest is_c)
    operand_complete (call {d = d} {ts = ts} {us = us} {path = path} {xs = xs} o c p is_o inner is_c) rest fo =
        ap (r.operand limit (below limit (suc d))) (regroup4 ts (o ∷ us) (c ∷ []) rest)
        ∙ reads_reference (below limit (suc d)) p (o ∷ (us ++ (c ∷ rest))) (at_other m.Scope m.LeftParen o (us ++ (c ∷ rest)) is_o refl)
        ∙ after_paren (below limit (suc d)) (start ts) path (o ∷ (us ++ (c ∷ rest))) (at_mark m.LeftParen o (us ++ (c ∷ rest)) is_o)
        ∙ reads_call (below limit (suc d)) (start ts) path (us ++ (c ∷ rest)) (c ∷ rest) rest xs (no_close (several_begins limit inner) (c ∷ rest))
        (several_complete inner (c ∷ rest) (closes_paren c rest is_c)) (expect_mark m.RightParen c rest is_c)
    operand_complete (call_none {d = d} {ts = ts} {path = path} o c p is_o is_c) rest fo =
        ap (r.operand limit (below limit d)) (regroup ts (o ∷ c ∷ []) rest)
        ∙ reads_reference (below limit d) p (o ∷ c ∷ rest) (at_other m.Scope m.LeftParen o (c ∷ rest) is_o refl)
        ∙ after_paren (below limit d) (start ts) path (o ∷ c ∷ rest) (at_mark m.LeftParen o (c ∷ rest) is_o)
        ∙ reads_call_none (below limit d) (start ts) path (c ∷ rest) (at_mark m.RightParen c rest is_c)
    operand_complete (now {d = d} {name = name} t is_t is_time) rest fo =
        by_kind (below limit d) t (k.System name) rest is_t
        ∙ ap (λ s. r.system limit (below limit d) t.at s rest) is_time
        ∙ reads_time (below limit d) t.at rest
    operand_complete (signed {d = d} {name = name} {ts = ts} {x = x} to t o c is_t is_sign is_o inner is_c) rest fo =
        ap (r.operand limit (below limit (suc d))) (regroup (t ∷ o ∷ ts) (c ∷ []) rest)
        ∙ by_kind (below limit (suc d)) t (k.System name) (o ∷ (ts ++ (c ∷ rest))) is_t
        ∙ ap (λ s. r.system limit (below limit (suc d)) t.at s (o ∷ (ts ++ (c ∷ rest)))) is_sign
        ∙ reads_sign (below limit (suc d)) t.at to (o ∷ (ts ++ (c ∷ rest))) (ts ++ (c ∷ rest)) (c ∷ rest) rest x
        (expect_mark m.LeftParen o (ts ++ (c ∷ rest)) is_o)
        (expression_complete inner (c ∷ rest) (follow_mark m.RightParen 11 c rest is_c (omega arith))) (expect_mark m.RightParen c rest is_c)

    pub left_complete : {d n : ℕ} {free : Bool} {ts : Tokens} {x : Expr} → Left limit d free n ts x → (rest : Tokens) → n ≤ limit → Selectable rest
        → Selected (below limit d) free n ts x rest
    left_complete {d = d} {free = free} (named {ts = ts} {path = path} p) rest le on = selected_none (below limit d) free ts path rest p on
    left_complete {d = d} {free = free} (selected {n = n} {ts = ts} {us = us} {x = x} {y = y} l s) rest le on =
        selected_more (below limit d) free n ts us x y rest (left_begins limit l)
        (left_complete l (us ++ rest) (omega arith) (select_goes_on s rest)) le (select_complete s rest)

    select_complete : {d : ℕ} {free : Bool} {at : Place} {x y : Expr} {us : Tokens} → Select limit d free at x us y → (rest : Tokens) → (f : ℕ)
        → r.selects limit (below limit d) free (suc f) at x (us ++ rest) ≡ r.selects limit (below limit d) free f at y rest
    select_complete {d = d} {free = free} {at = at} {x = x} (member {name = name} o t is_o is_t is_name) rest f =
        selects_member (below limit d) free f at x name (o ∷ t ∷ rest) (at_other m.LeftBracket m.Dot o (t ∷ rest) is_o refl) (dotted_some (is_member free) o t rest name is_o is_t is_name)
    select_complete {free = free} {at = at} {x = x} (item {d = d} {ts = ts} {y = y} o c is_o inner is_c) rest f =
        ap (r.selects limit (below limit (suc d)) free (suc f) at x) (regroup (o ∷ ts) (c ∷ []) rest)
        ∙ selects_bracket (below limit (suc d)) free f at x (e.Item at x y) (o ∷ (ts ++ (c ∷ rest))) rest (at_mark m.LeftBracket o (ts ++ (c ∷ rest)) is_o)
        (index_by_kind (below limit (suc d)) at x y c (ts ++ (c ∷ rest)) rest (k.Mark m.RightBracket)
        (expression_complete inner (c ∷ rest) (follow_mark m.RightBracket 11 c rest is_c (omega arith))) is_c)
    select_complete {free = free} {at = at} {x = x} (part {d = d} {ts = ts} {us = us} {y = y} {z = z} o q c is_o from is_q to is_c) rest f =
        ap (r.selects limit (below limit (suc d)) free (suc f) at x) (regroup4 (o ∷ ts) (q ∷ us) (c ∷ []) rest)
        ∙ selects_bracket (below limit (suc d)) free f at x (e.Part at x y z) (o ∷ (ts ++ (q ∷ (us ++ (c ∷ rest))))) rest (at_mark m.LeftBracket o (ts ++ (q ∷ (us ++ (c ∷ rest)))) is_o)
        (index_by_kind (below limit (suc d)) at x y q (ts ++ (q ∷ (us ++ (c ∷ rest)))) (us ++ (c ∷ rest)) (k.Mark m.Colon)
        (expression_complete from (q ∷ (us ++ (c ∷ rest))) (follow_mark m.Colon 11 q (us ++ (c ∷ rest)) is_q (omega arith))) is_q
        ∙ reads_closing (below limit (suc d)) (λ v. e.Part at x y v) z (us ++ (c ∷ rest)) (c ∷ rest) rest
        (expression_complete to (c ∷ rest) (follow_mark m.RightBracket 11 c rest is_c (omega arith))) (expect_mark m.RightBracket c rest is_c))
    select_complete {free = free} {at = at} {x = x} (indexed {d = d} {ts = ts} {us = us} {y = y} {z = z} mark up o q c is_o from is_q is_up to is_c) rest f =
        ap (r.selects limit (below limit (suc d)) free (suc f) at x) (regroup4 (o ∷ ts) (q ∷ us) (c ∷ []) rest)
        ∙ selects_bracket (below limit (suc d)) free f at x (e.Indexed at x y z up) (o ∷ (ts ++ (q ∷ (us ++ (c ∷ rest))))) rest (at_mark m.LeftBracket o (ts ++ (q ∷ (us ++ (c ∷ rest)))) is_o)
        (index_by_kind (below limit (suc d)) at x y q (ts ++ (q ∷ (us ++ (c ∷ rest)))) (us ++ (c ∷ rest)) q.kind
        (expression_complete from (q ∷ (us ++ (c ∷ rest))) (follow_mark mark 11 q (us ++ (c ∷ rest)) is_q (upward_far mark up is_up))) refl
        ∙ index_direction limit (below limit (suc d)) mark up q.kind (us ++ (c ∷ rest)) at x y is_q is_up
        ∙ reads_direction (below limit (suc d)) at x y z up (us ++ (c ∷ rest)) (c ∷ rest) rest
        (expression_complete to (c ∷ rest) (follow_mark m.RightBracket 11 c rest is_c (omega arith))) (expect_mark m.RightBracket c rest is_c))

    pub several_complete : {d : ℕ} {ts : Tokens} {xs : List Expr} → Several limit d ts xs → (rest : Tokens) → Closes rest
        → r.several limit (below limit (suc d)) (ts ++ rest) ≡ Some (xs, rest)
    several_complete {d = d} (several {ts = ts} {us = us} {x = x} {xs = xs} first_one more_of) rest cl =
        ap (r.several limit (below limit (suc d))) (regroup ts us rest)
        ∙ list_opens Comma (below limit (suc d)).whole x (ts ++ (us ++ rest)) (us ++ rest) (expression_complete first_one (us ++ rest) (others_end more_of rest cl.ends).follow)
        ∙ others_complete more_of (x ∷ []) rest (length (us ++ rest) + 1) (longer us rest) cl

    pub others_complete : {d : ℕ} {us : Tokens} {xs : List Expr} → Others limit d us xs → (found : List Expr) (rest : Tokens) (f : ℕ) → length us < f → Closes rest
        → r.more_of Comma (below limit (suc d)).whole f found (us ++ rest) ≡ Some (found ++ xs, rest)
    others_complete more_of found rest zero lt cl = absurd (omega arith)
    others_complete {d = d} last found rest (suc f) lt cl =
        list_stops Comma (below limit (suc d)).whole f found rest cl.comma ∙ ap (λ l. Some (l, rest)) (sym (append-nil found))
    others_complete {d = d} (another {ts = ts} {us = us} {x = x} {xs = xs} t is_t one_more more_of) found rest (suc f) lt cl =
        ap (λ l. r.more_of Comma (below limit (suc d)).whole (suc f) found (t ∷ l)) (regroup ts us rest)
        ∙ list_steps Comma (below limit (suc d)).whole f found x (t ∷ (ts ++ (us ++ rest))) (us ++ rest) (ap (separates Comma) is_t)
        (expression_complete one_more (us ++ rest) (others_end more_of rest cl.ends).follow)
        ∙ others_complete more_of (found ++ x ∷ []) rest f (shorter t ts us f lt) cl
        ∙ ap (λ l. Some (l, rest)) (append_assoc found (x ∷ []) xs)

    entry_complete : {d : ℕ} {keys : Bool} {ts : Tokens} {x : Option Key × Expr} → Entry limit d keys ts x → (rest : Tokens) → Ends rest
        → r.entry limit (below limit (suc d)) keys (ts ++ rest) ≡ Some (x, rest)
    entry_complete {d = d} (keyless {ts = ts} {x = x} inner) rest n = reads_keyless (below limit (suc d)) x (ts ++ rest) rest (expression_complete inner rest n.follow)
    entry_complete {d = d} (keyed {ts = ts} {x = x} key t c is_key is_c inner) rest n =
        reads_keyed (below limit (suc d)) x key (t ∷ c ∷ (ts ++ rest)) rest (key_some t c (ts ++ rest) key is_key is_c) (expression_complete inner rest n.follow)

    items_complete : {d : ℕ} {keys : Bool} {ts : Tokens} {xs : List (Option Key × Expr)} → Items limit d keys ts xs → (rest : Tokens) → Closes rest
        → r.items limit (below limit (suc d)) keys (ts ++ rest) ≡ Some (xs, rest)
    items_complete {d = d} {keys = keys} (items {ts = ts} {us = us} {x = x} {xs = xs} first_one more_of) rest cl =
        ap (r.items limit (below limit (suc d)) keys) (regroup ts us rest)
        ∙ list_opens Comma (r.entry limit (below limit (suc d)) keys) x (ts ++ (us ++ rest)) (us ++ rest) (entry_complete first_one (us ++ rest) (items_end more_of rest cl.ends))
        ∙ other_items_complete more_of (x ∷ []) rest (length (us ++ rest) + 1) (longer us rest) cl

    other_items_complete : {d : ℕ} {keys : Bool} {us : Tokens} {xs : List (Option Key × Expr)} → OtherItems limit d keys us xs → (found : List (Option Key × Expr)) (rest : Tokens) (f : ℕ)
        → length us < f → Closes rest → r.more_of Comma (r.entry limit (below limit (suc d)) keys) f found (us ++ rest) ≡ Some (found ++ xs, rest)
    other_items_complete more_of found rest zero lt cl = absurd (omega arith)
    other_items_complete {d = d} {keys = keys} last_item found rest (suc f) lt cl =
        list_stops Comma (r.entry limit (below limit (suc d)) keys) f found rest cl.comma ∙ ap (λ l. Some (l, rest)) (sym (append-nil found))
    other_items_complete {d = d} {keys = keys} (another_item {ts = ts} {us = us} {x = x} {xs = xs} t is_t one_more more_of) found rest (suc f) lt cl =
        ap (λ l. r.more_of Comma (r.entry limit (below limit (suc d)) keys) (suc f) found (t ∷ l)) (regroup ts us rest)
        ∙ list_steps Comma (r.entry limit (below limit (suc d)) keys) f found x (t ∷ (ts ++ (us ++ rest))) (us ++ rest) (ap (separates Comma) is_t)
        (entry_complete one_more (us ++ rest) (items_end more_of rest cl.ends))
        ∙ other_items_complete more_of (found ++ x ∷ []) rest f (shorter t ts us f lt) cl
        ∙ ap (λ l. Some (l, rest)) (append_assoc found (x ∷ []) xs)

  -- ---- lists of expressions that open no node

  pub expressions : (d : ℕ) → Reads Comma (r.whole limit (below limit d)) (Expression limit d) (Follow 11)
  expressions d = record { complete = expression_complete; parted = parted Comma }

  more_is : {d : ℕ} {us : Tokens} {xs : List Expr} → Others limit d us xs → MoreOf Comma (Expression limit d) us xs
  more_is last = no_item
  more_is (another t is_t one more) = next_item t (ap (separates Comma) is_t) one (more_is more)

  pub list_is : {d : ℕ} {us : Tokens} {xs : List Expr} → Several limit d us xs → ListOf Comma (Expression limit d) us xs
  list_is (several one more) = listed one (more_is more)
