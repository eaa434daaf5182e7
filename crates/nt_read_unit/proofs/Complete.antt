-- What the grammar derives as a type or a declared name is read, before what may follow it.
use Rattle.std.proofs.Common.{◌≡◌, ℕ, suc, ◌+◌, ◌<◌, Bool, true, false, not, List, [], ◌∷◌, ◌++◌, length, Option, Some, None, refl, sym, ap, ◌∙◌, arith, append_assoc, length-append}
use Rattle.nt_value.specs.declared.place.Place.{Place}
use Rattle.nt_ast.specs.declared.path.Path.{Path}
use Rattle.nt_ast.specs.declared.path.Declared.{Declared}
use Rattle.nt_ast.specs.declared.expr.Expr.{Expr}
use Rattle.nt_ast.specs.declared.types.IntWord.{IntWord}
use Rattle.nt_ast.specs.declared.types.IntWord.TheVariants as int
use Rattle.nt_ast.specs.declared.types.TypeTree.{TypeTree}
use Rattle.nt_ast.specs.declared.types.TypeTree.TheVariants as t
use Rattle.nt_lexer.specs.declared.kinds.Mark.{Mark}
use Rattle.nt_lexer.specs.declared.kinds.Mark.TheVariants as m
use Rattle.nt_lexer.specs.declared.kinds.Word.{Word}
use Rattle.nt_lexer.specs.declared.kinds.Word.TheVariants as w
use Rattle.nt_lexer.specs.declared.kinds.TokenKind.{TokenKind}
use Rattle.nt_lexer.specs.declared.kinds.TokenKind.TheVariants as k
use Rattle.nt_lexer.specs.declared.kinds.Token.{Token}
use Rattle.nt_read_expr.specs.declared.list.Separator.TheVariants.{Comma}
use Rattle.nt_read_expr.specs.Tables.{Tokens, start, separates}
use Rattle.nt_read_expr.specs.Derivation.{Reference, alone, scoped, Expression}
use Rattle.nt_read_expr.specs.Lists.{ListOf, listed}
use Rattle.nt_read_expr.specs.Reader as x
use Rattle.nt_read_expr.specs.Reader.{Read, ◌>>=◌, either, first, is_kind, is_at, expect, name_first, below, whole, list_of}
use Rattle.nt_read_stmt.specs.Reader.{is_word_kind, is_word, take_name}
use Rattle.nt_read_expr.proofs.Follows.{at_mark, at_other, expect_mark, follow_mark, name_some}
use Rattle.nt_read_expr.proofs.Lists.{Reads, comma_of, list_complete}
use Rattle.nt_read_expr.proofs.Complete.{expression_complete, longer}
use Rattle.nt_read_stmt.proofs.Firsts.{at_word, expect_at, no_mark, opens_expression, expression_opens}
use Rattle.nt_read_unit.specs.Tables.{vector_of, atom_of, sign_of}
use Rattle.nt_read_unit.specs.Groups.{Groups, no_group, next_group}
use Rattle.nt_read_unit.specs.Types.{Sign, no_sign, sign, Range, range, MaybeRange, no_range, some_range, Dim, size, ends, Named, named, Plain, vector, atom, known, MemberName, member_name, Structure, structure, Members, no_member, next_member, Member, member, MemberType, flat, inner, TypeIs, plain_type, struct_type, MaybeType, no_type, some_type, only_sign, only_range}
use Rattle.nt_read_unit.specs.Reader as r
use Rattle.nt_read_unit.specs.Reader.{groups_of, is_name, is_bare, dim_goes, member_goes, inside}
use Rattle.nt_read_unit.proofs.GroupLaws.{Reads as GroupReads, groups_complete}

-- ---- names

pub name_taken : (t : Token) (name : List ℕ) (rest : Tokens) → t.kind ≡ k.Name name → take_name (t ∷ rest) ≡ Some (name, rest)
unfolding take_name
name_taken t name rest e = rw (name_some t rest name e) refl

-- a name stands first
pub record NameFirst (ts : Tokens) : Type 0 where
  pub token : Token
  pub others : Tokens
  pub name : List ℕ
  pub is_named : token.kind ≡ k.Name name
  pub is : ts ≡ token ∷ others

pub name_by : (n : Token) (ts : Tokens) (name : List ℕ) → n.kind ≡ k.Name name → NameFirst (n ∷ ts)
name_by n ts name e = record { token = n; others = ts; name = name; is_named = e; is = refl }

pub name_kind : {A : Type 0} (f : TokenKind → A) {ts : Tokens} (n : NameFirst ts) → f (first ts) ≡ f (k.Name n.name)
name_kind f n = ap (λ l. f (first l)) n.is ∙ ap f n.is_named

pub name_no_mark : (mark : Mark) {ts : Tokens} → NameFirst ts → is_at mark ts ≡ false
unfolding is_at
name_no_mark mark n = name_kind (is_kind mark) n

pub no_name_word : (word : Word) {ts : Tokens} → NameFirst ts → is_word word ts ≡ false
unfolding is_word
no_name_word word n = name_kind (is_word_kind word) n

pub mark_no_name : (mark : Mark) (t : Token) (ts : Tokens) → t.kind ≡ k.Mark mark → is_name (t ∷ ts) ≡ false
unfolding is_name name_first
mark_no_name mark t ts e = ap (λ kind. x.is_some (x.name_kind kind)) e

pub word_no_name : (word : Word) (t : Token) (ts : Tokens) → t.kind ≡ k.Word word → is_name (t ∷ ts) ≡ false
unfolding is_name name_first
word_no_name word t ts e = ap (λ kind. x.is_some (x.name_kind kind)) e

pub is_a_name : (t : Token) (ts : Tokens) (name : List ℕ) → t.kind ≡ k.Name name → is_name (t ∷ ts) ≡ true
unfolding is_name name_first
is_a_name t ts name e = ap (λ kind. x.is_some (x.name_kind kind)) e

-- ---- parts of types

pub sign_complete : {ts : Tokens} {y : Option Bool} → Sign ts y → (rest : Tokens) → sign_of (first rest) ≡ None → r.sign (ts ++ rest) ≡ Some (y, rest)
unfolding r.sign
sign_complete no_sign rest lacks = rw lacks refl
sign_complete (sign t is) rest lacks = rw is refl

-- no dimension goes on
pub no_dim : (ts : Tokens) → is_at m.LeftBracket ts ≡ false → dim_goes ts ≡ false
unfolding dim_goes
no_dim ts e = rw e refl

pub mark_no_dim : (mark : Mark) (t : Token) (ts : Tokens) → t.kind ≡ k.Mark mark → x.same_mark mark m.LeftBracket ≡ false → dim_goes (t ∷ ts) ≡ false
mark_no_dim mark t ts e f = no_dim (t ∷ ts) (at_other m.LeftBracket mark t ts e f)

pub comma_no_dim : (t : Token) (ts : Tokens) → separates Comma t.kind ≡ true → dim_goes (t ∷ ts) ≡ false
comma_no_dim t ts e = mark_no_dim m.Comma t ts (comma_of t.kind e) refl

-- brackets with nothing in them are no dimension
pub empty_no_dim : (o c : Token) (ts : Tokens) → o.kind ≡ k.Mark m.LeftBracket → c.kind ≡ k.Mark m.RightBracket → dim_goes (o ∷ c ∷ ts) ≡ false
unfolding dim_goes
empty_no_dim o c ts e f = rw (at_mark m.LeftBracket o (c ∷ ts) e, at_mark m.RightBracket c ts f) refl

atom_no_vector : (kind : TokenKind) (word : IntWord) → atom_of kind ≡ Some word → vector_of kind ≡ None
atom_no_vector (k.Word w.Byte) word e = refl
atom_no_vector (k.Word w.Shortint) word e = refl
atom_no_vector (k.Word w.Int) word e = refl
atom_no_vector (k.Word w.Longint) word e = refl
atom_no_vector (k.Word w.Integer) word e = refl
atom_no_vector (k.Word w.Time) word e = refl
atom_no_vector _ word e = absurd cc

-- the words that types begin with are no other words, names or marks
abbrev pub Elsewhere : {A : Type 0} → (TokenKind → A) → A → Type 0
Elsewhere f a = ((kind : TokenKind) (word : IntWord) → vector_of kind ≡ Some word → f kind ≡ a) × ((kind : TokenKind) (word : IntWord) → atom_of kind ≡ Some word → f kind ≡ a)

pub elsewhere : {A : Type 0} (f : TokenKind → A) (a : A) → f (k.Word w.Logic) ≡ a → f (k.Word w.Reg) ≡ a → f (k.Word w.Bit) ≡ a → f (k.Word w.Byte) ≡ a → f (k.Word w.Shortint) ≡ a → f (k.Word w.Int) ≡ a → f (k.Word w.Longint) ≡ a
    → f (k.Word w.Integer) ≡ a → f (k.Word w.Time) ≡ a → Elsewhere f a
elsewhere f a e1 e2 e3 e4 e5 e6 e7 e8 e9 = (vectors, atoms)
  where
    vectors : (kind : TokenKind) (word : IntWord) → vector_of kind ≡ Some word → f kind ≡ a
    vectors (k.Word w.Logic) word e = e1
    vectors (k.Word w.Reg) word e = e2
    vectors (k.Word w.Bit) word e = e3
    vectors _ word e = absurd cc

    atoms : (kind : TokenKind) (word : IntWord) → atom_of kind ≡ Some word → f kind ≡ a
    atoms (k.Word w.Byte) word e = e4
    atoms (k.Word w.Shortint) word e = e5
    atoms (k.Word w.Int) word e = e6
    atoms (k.Word w.Longint) word e = e7
    atoms (k.Word w.Integer) word e = e8
    atoms (k.Word w.Time) word e = e9
    atoms _ word e = absurd cc

no_struct_words : Elsewhere (is_word_kind w.Struct) false
no_struct_words = elsewhere (is_word_kind w.Struct) false refl refl refl refl refl refl refl refl refl

no_sign_words : Elsewhere sign_of None
no_sign_words = elsewhere sign_of None refl refl refl refl refl refl refl refl refl

no_bracket_words : Elsewhere (is_kind m.LeftBracket) false
no_bracket_words = elsewhere (is_kind m.LeftBracket) false refl refl refl refl refl refl refl refl refl

no_name_words : Elsewhere (λ kind. x.is_some (x.name_kind kind)) false
no_name_words = elsewhere (λ kind. x.is_some (x.name_kind kind)) false refl refl refl refl refl refl refl refl refl

module _ (limit : ℕ) where
  range_complete : {d : ℕ} {ts : Tokens} {x : Expr × Expr} → Range limit d ts x → (rest : Tokens) → r.range limit d (ts ++ rest) ≡ Some (x, rest)
  unfolding r.range
  range_complete {d = d} (range {ts = ts} {us = us} {x = a} {y = b} o q c is_o d_ts is_q d_us is_c) rest =
      ap (r.range limit d) (ap (λ l. o ∷ l) (append_assoc ts (q ∷ (us ++ (c ∷ []))) rest ∙ ap (λ l. ts ++ l) (ap (λ l. q ∷ l) (append_assoc us (c ∷ []) rest)))) ∙ rw (expect_mark m.LeftBracket o (ts ++ (q ∷ (us ++ (c ∷ rest)))) is_o, expression_complete limit d_ts (q ∷ (us ++ (c ∷ rest))) (follow_mark m.Colon 11 q _ is_q (omega arith)), expect_mark m.Colon q (us ++ (c ∷ rest)) is_q, expression_complete limit d_us (c ∷ rest) (follow_mark m.RightBracket 11 c _ is_c (omega arith)), expect_mark m.RightBracket c rest is_c) refl

  pub range_first : {d : ℕ} {ts : Tokens} {y : Expr × Expr} → Range limit d ts y → (rest : Tokens) → is_at m.LeftBracket (ts ++ rest) ≡ true
  range_first (range o q c is_o x_is is_q y_is is_c) rest = at_mark m.LeftBracket o _ is_o

  maybe_range_complete : {d : ℕ} {ts : Tokens} {y : Option (Expr × Expr)} → MaybeRange limit d ts y → (rest : Tokens) → is_at m.LeftBracket rest ≡ false → r.maybe_range limit d (ts ++ rest) ≡ Some (y, rest)
  unfolding r.maybe_range
  maybe_range_complete no_range rest lacks = rw lacks refl
  maybe_range_complete (some_range one) rest lacks = rw (range_first one rest, range_complete one rest) refl

  -- before a name no sign follows what may be a range
  maybe_range_sign : {d : ℕ} {ts : Tokens} {y : Option (Expr × Expr)} → MaybeRange limit d ts y → (rest : Tokens) → NameFirst rest → sign_of (first (ts ++ rest)) ≡ None
  maybe_range_sign no_range rest n = name_kind sign_of n
  maybe_range_sign (some_range (range o q c is_o x_is is_q y_is is_c)) rest n = ap sign_of is_o

  dim_complete : {d : ℕ} {ts : Tokens} {y : List (Expr × Option Expr)} → Dim limit d ts y → (rest : Tokens) → r.dim limit d (ts ++ rest) ≡ Some (y, rest)
  unfolding r.dim r.dim_end
  dim_complete {d = d} (size {ts = ts} {x = a} o c is_o d_ts is_c) rest =
      ap (r.dim limit d) (ap (λ l. o ∷ l) (append_assoc ts (c ∷ []) rest))
      ∙ rw (expect_mark m.LeftBracket o (ts ++ (c ∷ rest)) is_o, expression_complete limit d_ts (c ∷ rest) (follow_mark m.RightBracket 11 c _ is_c (omega arith)), at_mark m.RightBracket c rest is_c) refl
  dim_complete {d = d} (ends (range {ts = ts} {us = us} {x = a} {y = b} o q c is_o d_ts is_q d_us is_c)) rest =
      ap (r.dim limit d) (ap (λ l. o ∷ l) (append_assoc ts (q ∷ (us ++ c ∷ [])) rest ∙ ap (λ l. ts ++ l) (ap (λ l. q ∷ l) (append_assoc us (c ∷ []) rest))))
      ∙ rw (
        expect_mark m.LeftBracket o (ts ++ (q ∷ (us ++ (c ∷ rest)))) is_o,
        expression_complete limit d_ts (q ∷ (us ++ (c ∷ rest))) (follow_mark m.Colon 11 q _ is_q (omega arith)),
        at_other m.RightBracket m.Colon q (us ++ (c ∷ rest)) is_q refl,
        expect_mark m.Colon q (us ++ (c ∷ rest)) is_q,
        expression_complete limit d_us (c ∷ rest) (follow_mark m.RightBracket 11 c _ is_c (omega arith)),
        expect_mark m.RightBracket c rest is_c,
      ) refl

  bracket_goes : {d : ℕ} {ts : Tokens} {y : Expr} (o : Token) → o.kind ≡ k.Mark m.LeftBracket → Expression limit d ts y → (rest : Tokens) → dim_goes (o ∷ (ts ++ rest)) ≡ true
  unfolding dim_goes
  bracket_goes {ts = ts} o is_o one rest = rw (at_mark m.LeftBracket o (ts ++ rest) is_o, no_mark opens_expression m.RightBracket refl (expression_opens limit one) rest) refl

  dim_opens : {d : ℕ} {ts : Tokens} {y : List (Expr × Option Expr)} → Dim limit d ts y → (rest : Tokens) → dim_goes (ts ++ rest) ≡ true
  dim_opens (size {ts = ts} o c is_o one is_c) rest = ap (λ l. dim_goes (o ∷ l)) (append_assoc ts (c ∷ []) rest) ∙ bracket_goes o is_o one (c ∷ rest)
  dim_opens (ends (range {ts = ts} {us = us} o q c is_o one is_q two is_c)) rest = ap (λ l. dim_goes (o ∷ l)) (append_assoc ts (q ∷ (us ++ c ∷ [])) rest) ∙ bracket_goes o is_o one ((q ∷ (us ++ c ∷ [])) ++ rest)

  dim_longer : {d : ℕ} {ts : Tokens} {y : List (Expr × Option Expr)} → Dim limit d ts y → 0 < length ts
  dim_longer (size o c is_o one is_c) = omega arith
  dim_longer (ends (range o q c is_o one is_q two is_c)) = omega arith

  dims_read : (d : ℕ) → GroupReads dim_goes (r.dim limit d) (Dim limit d) (λ rest. Unit {0})
  dims_read d = record { complete = λ one rest fit. dim_complete one rest; opens = dim_opens; fits = λ one rest. tt; longer = dim_longer }

  pub named_complete : {d : ℕ} {ts : Tokens} {y : Declared} → Named limit d ts y → (rest : Tokens) → dim_goes rest ≡ false → r.named limit d (ts ++ rest) ≡ Some (y, rest)
  unfolding r.named
  named_complete {d = d} (named {name = name} {ts = ts} {xs = xs} n is_n dims) rest lacks =
      rw (name_taken n name (ts ++ rest) is_n, groups_complete dim_goes (r.dim limit d) (dims_read d) dims [] rest (length (ts ++ rest) + 1) (longer limit ts rest) tt lacks) refl

  pub named_first : {d : ℕ} {ts : Tokens} {y : Declared} → Named limit d ts y → (rest : Tokens) → NameFirst (ts ++ rest)
  named_first (named {name = name} {ts = ts} n is_n dims) rest = name_by n (ts ++ rest) name is_n

  -- ---- types that are no structure

  vector_complete : {d : ℕ} {s : Option Bool} {g : Option (Expr × Expr)} {ts us : Tokens} (word : IntWord) (at : Place) → Sign ts s → MaybeRange limit d us g → (rest : Tokens) → NameFirst rest
      → r.vector limit d word at ((ts ++ us) ++ rest) ≡ Some (t.Integral at word s g, rest)
  unfolding r.vector
  vector_complete {d = d} {ts = ts} {us = us} word at one two rest n =
      ap (r.vector limit d word at) (append_assoc ts us rest)
      ∙ rw (sign_complete one (us ++ rest) (maybe_range_sign two rest n), maybe_range_complete two rest (name_no_mark m.LeftBracket n)) refl

  atom_complete : {s : Option Bool} {ts : Tokens} (word : IntWord) (at : Place) → Sign ts s → (rest : Tokens) → NameFirst rest → r.atom word at (ts ++ rest) ≡ Some (t.Integral at word s None, rest)
  unfolding r.atom
  atom_complete word at one rest n = rw (sign_complete one rest (name_kind sign_of n)) refl

  known_complete : {ts : Tokens} {path : Path} → Reference ts path → (rest : Tokens) → NameFirst rest → r.known (ts ++ rest) ≡ Some (t.Named (start ts) path, rest)
  unfolding x.reference
  known_complete (alone {name = name} v is) rest n = ap (λ kind. r.known_by kind v.at rest) is ∙ rw (name_no_mark m.Scope n) refl
  known_complete (scoped {scope = scope} {name = name} p q v ep eq ev) rest n =
      ap (λ kind. r.known_by kind p.at (q ∷ v ∷ rest)) ep ∙ rw (at_mark m.Scope q (v ∷ rest) eq, name_some v rest name ev) refl

  reference_name : {ts : Tokens} {path : Path} → Reference ts path → (rest : Tokens) → NameFirst (ts ++ rest)
  reference_name (alone {name = name} v is) rest = name_by v rest name is
  reference_name (scoped {scope = scope} p q v ep eq ev) rest = name_by p (q ∷ v ∷ rest) scope ep

  pub plain_complete : {d : ℕ} {ts : Tokens} {y : TypeTree} → Plain limit d ts y → (rest : Tokens) → NameFirst rest → r.plain limit d (ts ++ rest) ≡ Some (y, rest)
  unfolding r.plain
  plain_complete {d = d} (vector {word = word} {ts = ts} {us = us} v is one two) rest n = rw is (vector_complete word v.at one two rest n)
  plain_complete {d = d} (atom {word = word} {ts = ts} v is one) rest n = rw (atom_no_vector v.kind word is, is) (atom_complete word v.at one rest n)
  plain_complete {d = d} (known {ts = ts} ref) rest n =
      let f = reference_name ref rest in
      rw (name_kind vector_of f, name_kind atom_of f) (known_complete ref rest n)

  -- what stands first in such a type
  plain_kind : {A : Type 0} (f : TokenKind → A) (a : A) → Elsewhere f a → ((name : List ℕ) → f (k.Name name) ≡ a) → {d : ℕ} {ts : Tokens} {y : TypeTree} → Plain limit d ts y → (rest : Tokens) → f (first (ts ++ rest)) ≡ a
  plain_kind f a e g (vector {word = word} v is one two) rest = e.0 v.kind word is
  plain_kind f a e g (atom {word = word} v is one) rest = e.1 v.kind word is
  plain_kind f a e g (known ref) rest = let n = reference_name ref rest in name_kind f n ∙ g n.name

  plain_no_struct : {d : ℕ} {ts : Tokens} {y : TypeTree} → Plain limit d ts y → (rest : Tokens) → is_word w.Struct (ts ++ rest) ≡ false
  unfolding is_word
  plain_no_struct one rest = plain_kind (is_word_kind w.Struct) false no_struct_words (λ n. refl) one rest

  -- ---- structures

  member_name_complete : {d : ℕ} {of : TypeTree} {ts : Tokens} {y : TypeTree × Declared} → MemberName limit d of ts y → (rest : Tokens) → dim_goes rest ≡ false
      → r.member_name limit d of (ts ++ rest) ≡ Some (y, rest)
  unfolding r.member_name
  member_name_complete (member_name one) rest lacks = rw (named_complete one rest lacks) refl

  member_names_read : (d : ℕ) (of : TypeTree) → Reads Comma (r.member_name limit d of) (MemberName limit d of) (λ rest. dim_goes rest ≡ false)
  member_names_read d of = record { complete = member_name_complete; parted = comma_no_dim }

  member_names_first : {d : ℕ} {of : TypeTree} {ts : Tokens} {ys : List (TypeTree × Declared)} → ListOf Comma (MemberName limit d of) ts ys → (rest : Tokens) → NameFirst (ts ++ rest)
  member_names_first (listed {ts = ts} {us = us} (member_name one) more) rest = let P : Tokens → Type 0 = NameFirst in rw (append_assoc ts us rest) (named_first one (us ++ rest))

  structure_struct : {d : ℕ} {ts : Tokens} {y : TypeTree} → Structure limit d ts y → (rest : Tokens) → is_word w.Struct (ts ++ rest) ≡ true
  structure_struct (structure s o c is_s is_o one is_c) rest = at_word w.Struct s _ is_s

  member_type_no_brace : {d : ℕ} {ts : Tokens} {y : TypeTree} → MemberType limit d ts y → (rest : Tokens) → is_at m.RightBrace (ts ++ rest) ≡ false
  unfolding is_at
  member_type_no_brace (flat one) rest = plain_kind (is_kind m.RightBrace) false (no_brace_vector, no_brace_atom) (λ n. refl) one rest
    where
      no_brace_vector : (kind : TokenKind) (word : IntWord) → vector_of kind ≡ Some word → is_kind m.RightBrace kind ≡ false
      no_brace_vector (k.Word _) word e = refl
      no_brace_vector _ word e = absurd cc

      no_brace_atom : (kind : TokenKind) (word : IntWord) → atom_of kind ≡ Some word → is_kind m.RightBrace kind ≡ false
      no_brace_atom (k.Word _) word e = refl
      no_brace_atom _ word e = absurd cc
  member_type_no_brace (inner (structure s o c is_s is_o one is_c)) rest = ap (is_kind m.RightBrace) is_s

  member_type_longer : {d : ℕ} {ts : Tokens} {y : TypeTree} → MemberType limit d ts y → 0 < length ts
  member_type_longer (flat (vector v is one two)) = omega arith
  member_type_longer (flat (atom v is one)) = omega arith
  member_type_longer (flat (known (alone v is))) = omega arith
  member_type_longer (flat (known (scoped p q v ep eq ev))) = omega arith
  member_type_longer (inner (structure s o c is_s is_o one is_c)) = omega arith

  -- over what reads a structure one level deeper, where that is complete
  record Deeper (d : ℕ) (deeper : Tokens → Read TypeTree) : Type 0 where
    reads : {ts : Tokens} {y : TypeTree} → MemberType limit d ts y → (rest : Tokens) → is_word w.Struct (ts ++ rest) ≡ true → deeper (ts ++ rest) ≡ Some (y, rest)

  any_member_type : (d : ℕ) (deeper : Tokens → Read TypeTree) → Deeper d deeper → {ts : Tokens} {y : TypeTree} → MemberType limit d ts y → (rest : Tokens) → NameFirst rest
      → r.member_type limit d deeper (ts ++ rest) ≡ Some (y, rest)
  unfolding r.member_type
  any_member_type d deeper I (flat one) rest n = rw (plain_no_struct one rest) (plain_complete one rest n)
  any_member_type d deeper I (inner one) rest n = rw (structure_struct one rest) (I.reads (inner one) rest (structure_struct one rest))

  module _ (d : ℕ) (deeper : Tokens → Read TypeTree) (I : Deeper d deeper) where
    member_type_complete : {ts : Tokens} {y : TypeTree} → MemberType limit d ts y → (rest : Tokens) → NameFirst rest → r.member_type limit d deeper (ts ++ rest) ≡ Some (y, rest)
    member_type_complete one rest n = any_member_type d deeper I one rest n

    member_complete : {ts : Tokens} {ys : List (TypeTree × Declared)} → Member limit d ts ys → (rest : Tokens) → r.member limit d deeper (ts ++ rest) ≡ Some (ys, rest)
    unfolding r.member
    member_complete (member {ts = ts} {us = us} {of = of} {xs = xs} c one names is_c) rest =
        ap (r.member limit d deeper) (append_assoc ts (us ++ c ∷ []) rest ∙ ap (λ l. ts ++ l) (append_assoc us (c ∷ []) rest))
        ∙ rw (
          member_type_complete one (us ++ (c ∷ rest)) (member_names_first names (c ∷ rest)),
          list_complete Comma (r.member_name limit d of) (member_names_read d of) names (c ∷ rest) (mark_no_dim m.Semicolon c rest is_c refl) (ap (separates Comma) is_c),
          expect_mark m.Semicolon c rest is_c,
        ) refl

    member_opens : {ts : Tokens} {ys : List (TypeTree × Declared)} → Member limit d ts ys → (rest : Tokens) → member_goes limit d deeper (ts ++ rest) ≡ true
    unfolding member_goes
    member_opens (member {ts = ts} {us = us} c one names is_c) rest =
        ap (λ l. not (is_at m.RightBrace l)) (append_assoc ts (us ++ c ∷ []) rest) ∙ ap not (member_type_no_brace one ((us ++ c ∷ []) ++ rest))

    member_longer : {ts : Tokens} {ys : List (TypeTree × Declared)} → Member limit d ts ys → 0 < length ts
    member_longer (member {ts = ts} {us = us} c one names is_c) = let a = member_type_longer one in omega (arith, a, length-append ts (us ++ c ∷ []))

    members_read : GroupReads (member_goes limit d deeper) (r.member limit d deeper) (Member limit d) (λ rest. Unit {0})
    members_read = record { complete = λ one rest fit. member_complete one rest; opens = member_opens; fits = λ one rest. tt; longer = member_longer }

    grouped : {ts : Tokens} {xs : List (TypeTree × Declared)} → Members limit d ts xs → Groups (Member limit d) ts xs
    grouped no_member = no_group
    grouped (next_member one more) = next_group one (grouped more)

    brace_stops : (c : Token) (rest : Tokens) → c.kind ≡ k.Mark m.RightBrace → member_goes limit d deeper (c ∷ rest) ≡ false
    unfolding member_goes
    brace_stops c rest is = ap not (at_mark m.RightBrace c rest is)

    structure_complete : {ts : Tokens} {y : TypeTree} → Structure limit d ts y → (rest : Tokens) → r.structure limit d deeper (ts ++ rest) ≡ Some (y, rest)
    unfolding r.structure
    structure_complete (structure {ts = ts} {xs = xs} s o c is_s is_o all is_c) rest =
        ap (r.structure limit d deeper) (ap (λ l. s ∷ o ∷ l) (append_assoc ts (c ∷ []) rest))
        ∙ rw (
          expect_at w.Struct s (o ∷ (ts ++ (c ∷ rest))) is_s,
          expect_mark m.LeftBrace o (ts ++ (c ∷ rest)) is_o,
          groups_complete (member_goes limit d deeper) (r.member limit d deeper) members_read (grouped all) [] (c ∷ rest) (length (ts ++ (c ∷ rest)) + 1) (longer limit ts (c ∷ rest)) tt (brace_stops c rest is_c),
          expect_mark m.RightBrace c rest is_c,
        ) refl

  deeper_reads : (d : ℕ) {ts : Tokens} {y : TypeTree} → MemberType limit d ts y → (rest : Tokens) → is_word w.Struct (ts ++ rest) ≡ true → inside limit d (ts ++ rest) ≡ Some (y, rest)
  unfolding inside
  deeper_reads d (flat one) rest is = absurd (let bad : true ≡ false = sym is ∙ plain_no_struct one rest in cc)
  deeper_reads (suc d) (inner one) rest is = structure_complete d (inside limit d) (record { reads = deeper_reads d }) one rest

  deeper_complete : (d : ℕ) → Deeper d (inside limit d)
  deeper_complete d = record { reads = deeper_reads d }

  pub type_complete : {d : ℕ} {ts : Tokens} {y : TypeTree} → TypeIs limit d ts y → (rest : Tokens) → NameFirst rest → r.type_in limit d (ts ++ rest) ≡ Some (y, rest)
  unfolding r.type_in
  type_complete (plain_type one) rest n = rw (plain_no_struct one rest) (plain_complete one rest n)
  type_complete {d = d} (struct_type one) rest n = rw (structure_struct one rest) (structure_complete d (inside limit d) (deeper_complete d) one rest)

  -- ---- types that may be written in part or not at all

  -- what follows such a type: a name, and then what goes on with neither a name nor a scope
  pub record Bare (rest : Tokens) : Type 0 where
    pub first_one : NameFirst rest
    pub bare : is_bare rest ≡ true

  pub bare_by : (n : Token) (rest : Tokens) (name : List ℕ) → n.kind ≡ k.Name name → is_name rest ≡ false → is_at m.Scope rest ≡ false → Bare (n ∷ rest)
  unfolding is_bare
  bare_by n rest name e f g = record { first_one = name_by n rest name e; bare = rw (is_a_name n rest name e, f, g) refl }

  pub bare_mark : (n t : Token) (rest : Tokens) (name : List ℕ) (mark : Mark) → n.kind ≡ k.Name name → t.kind ≡ k.Mark mark → x.same_mark mark m.Scope ≡ false → Bare (n ∷ t ∷ rest)
  bare_mark n t rest name mark e f g = bare_by n (t ∷ rest) name e (mark_no_name mark t rest f) (at_other m.Scope mark t rest f g)

  not_bare : (ts : Tokens) → is_name ts ≡ false → is_bare ts ≡ false
  unfolding is_bare
  not_bare ts e = rw e refl

  two_names : (v : Token) (rest : Tokens) (name : List ℕ) → v.kind ≡ k.Name name → NameFirst rest → is_bare (v ∷ rest) ≡ false
  unfolding is_bare is_name name_first
  two_names v rest name is n = rw (is_a_name v rest name is, name_kind (λ kind. x.is_some (x.name_kind kind)) n) refl

  scoped_name : (p q : Token) (rest : Tokens) (name : List ℕ) → p.kind ≡ k.Name name → q.kind ≡ k.Mark m.Scope → is_bare (p ∷ q ∷ rest) ≡ false
  unfolding is_bare
  scoped_name p q rest name ep eq = rw (is_a_name p (q ∷ rest) name ep, mark_no_name m.Scope q rest eq, at_mark m.Scope q rest eq) refl

  type_not_bare : {d : ℕ} {ts : Tokens} {y : TypeTree} → TypeIs limit d ts y → (rest : Tokens) → NameFirst rest → is_bare (ts ++ rest) ≡ false
  unfolding is_name name_first
  type_not_bare (plain_type (vector {word = word} {ts = ts} {us = us} v is one two)) rest n = not_bare (v ∷ ((ts ++ us) ++ rest)) (no_name_words.0 v.kind word is)
  type_not_bare (plain_type (atom {word = word} {ts = ts} v is one)) rest n = not_bare (v ∷ (ts ++ rest)) (no_name_words.1 v.kind word is)
  type_not_bare (plain_type (known (alone {name = name} v is))) rest n = two_names v rest name is n
  type_not_bare (plain_type (known (scoped {scope = scope} p q v ep eq ev))) rest n = scoped_name p q (v ∷ rest) scope ep eq
  type_not_bare (struct_type (structure {ts = ts} s o c is_s is_o one is_c)) rest n = not_bare (s ∷ o ∷ ((ts ++ c ∷ []) ++ rest)) (word_no_name w.Struct s (o ∷ ((ts ++ c ∷ []) ++ rest)) is_s)

  pub type_first : {A : Type 0} (f : TokenKind → A) (a : A) → Elsewhere f a → ((name : List ℕ) → f (k.Name name) ≡ a) → f (k.Word w.Struct) ≡ a → {d : ℕ} {ts : Tokens} {y : TypeTree} → TypeIs limit d ts y → (rest : Tokens)
      → f (first (ts ++ rest)) ≡ a
  type_first f a e g h (plain_type one) rest = plain_kind f a e g one rest
  type_first f a e g h (struct_type (structure s o c is_s is_o one is_c)) rest = ap f is_s ∙ h

  type_no_bracket : {d : ℕ} {ts : Tokens} {y : TypeTree} → TypeIs limit d ts y → (rest : Tokens) → is_at m.LeftBracket (ts ++ rest) ≡ false
  unfolding is_at
  type_no_bracket one rest = type_first (is_kind m.LeftBracket) false no_bracket_words (λ n. refl) refl one rest

  sign_no_name : (v : Token) (ts : Tokens) (s : Bool) → sign_of v.kind ≡ Some s → is_name (v ∷ ts) ≡ false
  unfolding is_name name_first
  sign_no_name v ts s e = by v.kind e
    where
      by : (kind : TokenKind) → sign_of kind ≡ Some s → x.is_some (x.name_kind kind) ≡ false
      by (k.Word _) e = refl
      by _ e = absurd cc

  sign_no_bracket : (v : Token) (ts : Tokens) (s : Bool) → sign_of v.kind ≡ Some s → is_at m.LeftBracket (v ∷ ts) ≡ false
  unfolding is_at
  sign_no_bracket v ts s e = by v.kind e
    where
      by : (kind : TokenKind) → sign_of kind ≡ Some s → is_kind m.LeftBracket kind ≡ false
      by (k.Word _) e = refl
      by _ e = absurd cc

  range_no_name : {d : ℕ} {ts : Tokens} {y : Expr × Expr} → Range limit d ts y → (rest : Tokens) → is_name (ts ++ rest) ≡ false
  range_no_name (range o q c is_o x_is is_q y_is is_c) rest = mark_no_name m.LeftBracket o _ is_o

  range_start : {d : ℕ} {ts : Tokens} {y : Expr × Expr} → Range limit d ts y → (rest : Tokens) → start (ts ++ rest) ≡ start ts
  range_start (range o q c is_o x_is is_q y_is is_c) rest = refl

  pub maybe_type_complete : {d : ℕ} {ts : Tokens} {y : Option TypeTree} → MaybeType limit d ts y → (rest : Tokens) → Bare rest → r.maybe_type limit d (ts ++ rest) ≡ Some (y, rest)
  unfolding r.maybe_type r.some_type r.only_sign r.only_range
  maybe_type_complete no_type rest b = rw b.bare refl
  maybe_type_complete (some_type one) rest b =
      rw (type_not_bare one rest b.first_one, type_no_bracket one rest, type_first sign_of None no_sign_words (λ n. refl) refl one rest, type_complete one rest b.first_one) refl
  maybe_type_complete (only_sign {s = s} {ts = ts} v is one) rest b =
      rw (not_bare (v ∷ (ts ++ rest)) (sign_no_name v (ts ++ rest) s is), sign_no_bracket v (ts ++ rest) s is, is, maybe_range_complete one rest (name_no_mark m.LeftBracket b.first_one)) refl
  maybe_type_complete (only_range {ts = ts} {r = g} one) rest b =
      rw (not_bare (ts ++ rest) (range_no_name one rest), range_first one rest, range_complete one rest) (ap (λ at. Some (Some (t.Integral at int.Logic None (Some g)), rest)) (range_start one rest))

  -- what stands first in such a type and before a name
  pub maybe_type_first : {A : Type 0} (f : TokenKind → A) (a : A) → Elsewhere f a → ((name : List ℕ) → f (k.Name name) ≡ a) → f (k.Word w.Struct) ≡ a → f (k.Word w.Signed) ≡ a → f (k.Word w.Unsigned) ≡ a → f (k.Mark m.LeftBracket) ≡ a
      → {d : ℕ} {ts : Tokens} {y : Option TypeTree} → MaybeType limit d ts y → (rest : Tokens) → NameFirst rest → f (first (ts ++ rest)) ≡ a
  maybe_type_first f a e g h i j l no_type rest n = name_kind f n ∙ g n.name
  maybe_type_first f a e g h i j l (some_type one) rest n = type_first f a e g h one rest
  maybe_type_first f a e g h i j l (only_sign {s = s} v is one) rest n = by v.kind is
    where
      by : (kind : TokenKind) → sign_of kind ≡ Some s → f kind ≡ a
      by (k.Word w.Signed) q = i
      by (k.Word w.Unsigned) q = j
      by _ q = absurd cc
  maybe_type_first f a e g h i j l (only_range (range o q c is_o x_is is_q y_is is_c)) rest n = ap f is_o ∙ l
