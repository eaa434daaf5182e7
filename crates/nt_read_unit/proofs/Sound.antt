-- What is read as a type or a declared name is derived by the grammar.
use Rattle.std.proofs.Common.{inl, inr, subst, ◌≡◌, ℕ, zero, suc, ◌+◌, Bool, List, [], ◌∷◌, ◌++◌, length, drop, Option, Some, None, refl, sym, ap, ◌∙◌}
use Rattle.nt_ast.specs.declared.path.Declared.{Declared}
use Rattle.nt_ast.specs.declared.expr.Expr.{Expr}
use Rattle.nt_ast.specs.declared.types.IntWord.{IntWord}
use Rattle.nt_ast.specs.declared.types.IntWord.TheVariants as int
use Rattle.nt_ast.specs.declared.types.TypeTree.{TypeTree}
use Rattle.nt_ast.specs.declared.types.TypeTree.TheVariants as t
use Rattle.nt_lexer.specs.declared.kinds.Mark.TheVariants as m
use Rattle.nt_lexer.specs.declared.kinds.Word.TheVariants as w
use Rattle.nt_lexer.specs.declared.kinds.TokenKind.{TokenKind}
use Rattle.nt_lexer.specs.declared.kinds.TokenKind.TheVariants as k
use Rattle.nt_lexer.specs.declared.kinds.Token.{Token}
use Rattle.nt_read_expr.specs.declared.list.Separator.TheVariants.{Comma}
use Rattle.nt_read_expr.specs.Tables.{Tokens, start}
use Rattle.nt_read_expr.specs.Reader as x
use Rattle.nt_read_expr.specs.Reader.{Read, ◌>>=◌, either, first, is_at, expect, name_first, below, whole, list_of}
use Rattle.nt_read_stmt.specs.Reader.{is_word, expect_word, take_name}
use Rattle.nt_read_expr.proofs.Basics.{bind_some, some_is, if_cases, either_cases, Took, close, both, took_as}
use Rattle.nt_read_expr.proofs.Begins.{start_append, reference_begins}
use Rattle.nt_read_expr.proofs.Lists.{list_sound}
use Rattle.nt_read_expr.proofs.Sound.{front_of, expect_of, name_kind_is, reference_sound, expression_sound}
use Rattle.nt_read_stmt.proofs.Sound.{expect_word_of}
use Rattle.nt_read_unit.specs.Tables.{vector_of, atom_of, sign_of}
use Rattle.nt_read_unit.specs.Groups.{Groups, no_group, next_group}
use Rattle.nt_read_unit.specs.Types.{Sign, no_sign, sign, Range, range, MaybeRange, no_range, some_range, Dim, size, ends, Named, named, Plain, vector, atom, known, MemberName, member_name, Structure, structure, Members, no_member, next_member, Member, member, MemberType, flat, inner, TypeIs, plain_type, struct_type, MaybeType, no_type, some_type, only_sign, only_range}
use Rattle.nt_read_unit.specs.Reader as r
use Rattle.nt_read_unit.specs.Reader.{groups_of, is_name, is_bare, dim_goes, inside}
use Rattle.nt_read_unit.proofs.GroupLaws.{groups_sound}

-- ---- first tokens

-- a name
pub record TakesName (name : List ℕ) (s us : Tokens) : Type 0 where
  pub token : Token
  pub is_name : token.kind ≡ k.Name name
  pub is : s ≡ token ∷ us

pub first_name : (s : Tokens) (name : List ℕ) → name_first s ≡ Some name → TakesName name s (drop 1 s)
unfolding name_first
first_name [] name e = absurd cc
first_name (t ∷ ts) name e = record { token = t; is_name = name_kind_is t.kind name e; is = refl }

pub name_of : (s us : Tokens) (name : List ℕ) → take_name s ≡ Some (name, us) → TakesName name s us
unfolding take_name
name_of s us name e =
    let a = bind_some (name_first s) _ _ e in
    let p : (a.0, drop 1 s) ≡ (name, us) = some_is _ _ a.2 in
    subst (λ (q : List ℕ × Tokens). TakesName q.0 s q.1) p (first_name s a.0 a.1)

-- a first token of which the function gives this
pub record FirstIs {A : Type 0} (f : TokenKind → Option A) (a : A) (s : Tokens) : Type 0 where
  pub token : Token
  pub fits : f token.kind ≡ Some a
  pub is : s ≡ token ∷ drop 1 s

pub first_is : {A : Type 0} (f : TokenKind → Option A) (a : A) (s : Tokens) → f k.End ≡ None → f (first s) ≡ Some a → FirstIs f a s
first_is f a [] n e = let bad = n in absurd cc
first_is f a (t ∷ ts) n e = record { token = t; fits = e; is = refl }

pub sign_sound : (s us : Tokens) (y : Option Bool) → r.sign s ≡ Some (y, us) → Took (λ p. Sign p y) s us
unfolding r.sign
sign_sound s us y e =
    elim (either_cases (sign_of (first s)) _ _ _ e) [
      | inl g ↦ took_as (λ z p. Sign p z) s s us None y (some_is _ _ g.1) (record { front = []; split = refl; derives = no_sign })
      | inr g ↦
          let f = first_is sign_of g.0 s refl g.1 in
          took_as (λ z p. Sign p z) s (drop 1 s) us (Some g.0) y (some_is _ _ g.2) (record { front = f.token ∷ []; split = f.is; derives = sign f.token f.fits })
    ]

module _ (limit d : ℕ) where
  pub range_sound : (s us : Tokens) (y : Expr × Expr) → r.range limit d s ≡ Some (y, us) → Took (λ p. Range limit d p y) s us
  unfolding r.range
  range_sound s us y e =
      let a1 = bind_some (expect m.LeftBracket s) _ _ e in
      let i1 = expect_of m.LeftBracket s a1.0 a1.1 in
      let a2 = bind_some (whole limit (below limit d) (a1.0)) _ _ a1.2 in
      let i2 = expression_sound limit d (a1.0) a2.0.1 a2.0.0 a2.1 in
      let a3 = bind_some (expect m.Colon (a2.0.1)) _ _ a2.2 in
      let i3 = expect_of m.Colon (a2.0.1) a3.0 a3.1 in
      let a4 = bind_some (whole limit (below limit d) (a3.0)) _ _ a3.2 in
      let i4 = expression_sound limit d (a3.0) a4.0.1 a4.0.0 a4.1 in
      let a5 = bind_some (expect m.RightBracket (a4.0.1)) _ _ a4.2 in
      let i5 = expect_of m.RightBracket (a4.0.1) a5.0 a5.1 in
      took_as (λ g p. Range limit d p g) s (a5.0) us ((a2.0.0, a4.0.0)) y (some_is _ _ a5.2)
      (record { front = i1.token ∷ (i2.front ++ (i3.token ∷ (i4.front ++ (i5.token ∷ [])))); split = i1.is ∙ ap (λ l. i1.token ∷ l) (both i2.front (i3.token ∷ (i4.front ++ (i5.token ∷ []))) (a1.0) (a2.0.1) (a5.0) i2.split (i3.is ∙ ap (λ l. i3.token ∷ l) (both i4.front (i5.token ∷ []) (a3.0) (a4.0.1) (a5.0) i4.split (i5.is)))); derives = range i1.token i3.token i5.token i1.is_mark i2.derives i3.is_mark i4.derives i5.is_mark })

  maybe_range_sound : (s us : Tokens) (y : Option (Expr × Expr)) → r.maybe_range limit d s ≡ Some (y, us) → Took (λ p. MaybeRange limit d p y) s us
  unfolding r.maybe_range
  maybe_range_sound s us y e =
      elim (if_cases (is_at m.LeftBracket s) _ _ _ e) [
        | inl g ↦
            let a = bind_some (r.range limit d s) _ _ g.1 in
            let i = range_sound s a.0.1 a.0.0 a.1 in
            took_as (λ z p. MaybeRange limit d p z) s a.0.1 us (Some a.0.0) y (some_is _ _ a.2) (record { front = i.front; split = i.split; derives = some_range i.derives })
        | inr g ↦ took_as (λ z p. MaybeRange limit d p z) s s us None y (some_is _ _ g.1) (record { front = []; split = refl; derives = no_range })
      ]

  dim_sound : (s us : Tokens) (y : List (Expr × Option Expr)) → r.dim limit d s ≡ Some (y, us) → Took (λ p. Dim limit d p y) s us
  unfolding r.dim r.dim_end
  dim_sound s us y e =
      let a1 = bind_some (expect m.LeftBracket s) _ _ e in
      let i1 = expect_of m.LeftBracket s a1.0 a1.1 in
      let a2 = bind_some (whole limit (below limit d) a1.0) _ _ a1.2 in
      let i2 = expression_sound limit d a1.0 a2.0.1 a2.0.0 a2.1 in
      elim (if_cases (is_at m.RightBracket a2.0.1) _ _ _ a2.2) [
        | inl g ↦
            let c = front_of m.RightBracket a2.0.1 g.0 in
            took_as (λ z p. Dim limit d p z) s (drop 1 a2.0.1) us ((a2.0.0, None) ∷ []) y (some_is _ _ g.1)
            (record { front = i1.token ∷ (i2.front ++ c.token ∷ []); split = i1.is ∙ ap (λ l. i1.token ∷ l) (close i2.front a1.0 a2.0.1 (drop 1 a2.0.1) c.token i2.split c.is); derives = size i1.token c.token i1.is_mark i2.derives c.is_mark })
        | inr g ↦
            let a3 = bind_some (expect m.Colon a2.0.1) _ _ g.1 in
            let i3 = expect_of m.Colon a2.0.1 a3.0 a3.1 in
            let a4 = bind_some (whole limit (below limit d) a3.0) _ _ a3.2 in
            let i4 = expression_sound limit d a3.0 a4.0.1 a4.0.0 a4.1 in
            let a5 = bind_some (expect m.RightBracket a4.0.1) _ _ a4.2 in
            let i5 = expect_of m.RightBracket a4.0.1 a5.0 a5.1 in
            took_as (λ z p. Dim limit d p z) s a5.0 us ((a2.0.0, Some a4.0.0) ∷ []) y (some_is _ _ a5.2)
            (record {
              front = i1.token ∷ (i2.front ++ (i3.token ∷ (i4.front ++ i5.token ∷ [])));
              split = i1.is ∙ ap (λ l. i1.token ∷ l) (both i2.front (i3.token ∷ (i4.front ++ i5.token ∷ [])) a1.0 a2.0.1 a5.0 i2.split
                  (i3.is ∙ ap (λ l. i3.token ∷ l) (close i4.front a3.0 a4.0.1 a5.0 i5.token i4.split i5.is)));
              derives = ends (range i1.token i3.token i5.token i1.is_mark i2.derives i3.is_mark i4.derives i5.is_mark);
            })
      ]

  pub dims_sound : (f : ℕ) (s us : Tokens) (y : List (Expr × Option Expr)) → groups_of dim_goes (r.dim limit d) f [] s ≡ Some (y, us) → Took (λ p. Groups (Dim limit d) p y) s us
  dims_sound f s us y e =
      let i = groups_sound dim_goes (r.dim limit d) (Dim limit d) dim_sound f [] s us y e in
      record { front = i.took.front; split = i.took.split; derives = subst (λ z. Groups (Dim limit d) i.took.front z) (sym i.all) i.took.derives }

  pub named_sound : (s us : Tokens) (y : Declared) → r.named limit d s ≡ Some (y, us) → Took (λ p. Named limit d p y) s us
  unfolding r.named
  named_sound s us y e =
      let a1 = bind_some (take_name s) _ _ e in
      let i1 = name_of s a1.0.1 a1.0.0 a1.1 in
      let a2 = bind_some (groups_of dim_goes (r.dim limit d) (length a1.0.1 + 1) [] (a1.0.1)) _ _ a1.2 in
      let i2 = dims_sound (length a1.0.1 + 1) (a1.0.1) a2.0.1 a2.0.0 a2.1 in
      took_as (λ g p. Named limit d p g) s (a2.0.1) us (record { at = (start s); name = a1.0.0; dims = a2.0.0; start = None }) y (some_is _ _ a2.2)
      (record { front = i1.token ∷ i2.front; split = i1.is ∙ ap (λ l. i1.token ∷ l) (i2.split); derives = subst (λ at. Named limit d (i1.token ∷ i2.front) (record { at = at; name = a1.0.0; dims = a2.0.0; start = None })) (sym (ap start i1.is)) (named i1.token i1.is_name i2.derives) })

  vector_sound : (v : Token) (word : IntWord) (s us : Tokens) (y : TypeTree) → vector_of v.kind ≡ Some word → r.vector limit d word v.at s ≡ Some (y, us) → Took (λ p. Plain limit d p y) (v ∷ s) us
  unfolding r.vector
  vector_sound v word s us y is e =
      let a1 = bind_some (r.sign s) _ _ e in
      let i1 = sign_sound s a1.0.1 a1.0.0 a1.1 in
      let a2 = bind_some (r.maybe_range limit d a1.0.1) _ _ a1.2 in
      let i2 = maybe_range_sound a1.0.1 a2.0.1 a2.0.0 a2.1 in
      took_as (λ z p. Plain limit d p z) (v ∷ s) a2.0.1 us (t.Integral v.at word a1.0.0 a2.0.0) y (some_is _ _ a2.2)
      (record { front = v ∷ (i1.front ++ i2.front); split = ap (λ l. v ∷ l) (both i1.front i2.front s a1.0.1 a2.0.1 i1.split i2.split); derives = vector v is i1.derives i2.derives })

  atom_sound : (v : Token) (word : IntWord) (s us : Tokens) (y : TypeTree) → atom_of v.kind ≡ Some word → r.atom word v.at s ≡ Some (y, us) → Took (λ p. Plain limit d p y) (v ∷ s) us
  unfolding r.atom
  atom_sound v word s us y is e =
      let a1 = bind_some (r.sign s) _ _ e in
      let i1 = sign_sound s a1.0.1 a1.0.0 a1.1 in
      took_as (λ z p. Plain limit d p z) (v ∷ s) a1.0.1 us (t.Integral v.at word a1.0.0 None) y (some_is _ _ a1.2)
      (record { front = v ∷ i1.front; split = ap (λ l. v ∷ l) i1.split; derives = atom v is i1.derives })

  known_by_sound : (v : Token) (kind : TokenKind) (s us : Tokens) (y : TypeTree) → v.kind ≡ kind → r.known_by kind v.at s ≡ Some (y, us) → Took (λ p. Plain limit d p y) (v ∷ s) us
  known_by_sound v (k.Name name) s us y is e =
      let a = bind_some (x.reference v.at name s) _ _ e in
      let w = reference_sound v name s a.0.1 a.0.0 is a.1 in
      let starts : v.at ≡ start w.front = ap start w.split ∙ start_append (reference_begins w.derives) a.0.1 in
      took_as (λ z p. Plain limit d p z) (v ∷ s) a.0.1 us (t.Named v.at a.0.0) y (some_is _ _ a.2)
      (record { front = w.front; split = w.split; derives = subst (λ at. Plain limit d w.front (t.Named at a.0.0)) (sym starts) (known w.derives) })
  known_by_sound v (k.Mark n) s us y is e = absurd cc
  known_by_sound v (k.Word n) s us y is e = absurd cc
  known_by_sound v (k.System n) s us y is e = absurd cc
  known_by_sound v (k.Number n) s us y is e = absurd cc
  known_by_sound v (k.Text n) s us y is e = absurd cc
  known_by_sound v k.End s us y is e = absurd cc

  plain_sound : (s us : Tokens) (y : TypeTree) → r.plain limit d s ≡ Some (y, us) → Took (λ p. Plain limit d p y) s us
  unfolding r.plain
  plain_sound [] us y e = absurd cc
  plain_sound (v ∷ s) us y e =
      elim (either_cases (vector_of v.kind) _ _ _ e) [
        | inl g ↦
            elim (either_cases (atom_of v.kind) _ _ _ g.1) [
              | inl h ↦ known_by_sound v v.kind s us y refl h.1
              | inr h ↦ atom_sound v h.0 s us y h.1 h.2
            ]
        | inr g ↦ vector_sound v g.0 s us y g.1 g.2
      ]

  member_name_sound : (of : TypeTree) (s us : Tokens) (y : TypeTree × Declared) → r.member_name limit d of s ≡ Some (y, us) → Took (λ p. MemberName limit d of p y) s us
  unfolding r.member_name
  member_name_sound of s us y e =
      let a = bind_some (r.named limit d s) _ _ e in
      let i = named_sound s a.0.1 a.0.0 a.1 in
      took_as (λ z p. MemberName limit d of p z) s a.0.1 us (of, a.0.0) y (some_is _ _ a.2) (record { front = i.front; split = i.split; derives = member_name i.derives })

  -- over what reads a structure one level deeper, where that is sound
  module _ (deeper : Tokens → Read TypeTree) (I : (s us : Tokens) (y : TypeTree) → deeper s ≡ Some (y, us) → Took (λ p. MemberType limit d p y) s us) where
    member_type_sound : (s us : Tokens) (y : TypeTree) → r.member_type limit d deeper s ≡ Some (y, us) → Took (λ p. MemberType limit d p y) s us
    unfolding r.member_type
    member_type_sound s us y e =
        elim (if_cases (is_word w.Struct s) _ _ _ e) [
          | inl g ↦ I s us y g.1
          | inr g ↦
              let i = plain_sound s us y g.1 in
              record { front = i.front; split = i.split; derives = flat i.derives }
        ]

    member_sound : (s us : Tokens) (y : List (TypeTree × Declared)) → r.member limit d deeper s ≡ Some (y, us) → Took (λ p. Member limit d p y) s us
    unfolding r.member
    member_sound s us y e =
        let a1 = bind_some (r.member_type limit d deeper s) _ _ e in
        let i1 = member_type_sound s a1.0.1 a1.0.0 a1.1 in
        let a2 = bind_some (list_of Comma (r.member_name limit d a1.0.0) (a1.0.1)) _ _ a1.2 in
        let i2 = list_sound Comma (r.member_name limit d a1.0.0) (MemberName limit d a1.0.0) (member_name_sound a1.0.0) (a1.0.1) a2.0.1 a2.0.0 a2.1 in
        let a3 = bind_some (expect m.Semicolon (a2.0.1)) _ _ a2.2 in
        let i3 = expect_of m.Semicolon (a2.0.1) a3.0 a3.1 in
        took_as (λ g p. Member limit d p g) s (a3.0) us (a2.0.0) y (some_is _ _ a3.2)
        (record { front = i1.front ++ (i2.front ++ (i3.token ∷ [])); split = both i1.front (i2.front ++ (i3.token ∷ [])) s (a1.0.1) (a3.0) i1.split (both i2.front (i3.token ∷ []) (a1.0.1) (a2.0.1) (a3.0) i2.split (i3.is)); derives = member i3.token i1.derives i2.derives i3.is_mark })

    members : {ts : Tokens} {xs : List (TypeTree × Declared)} → Groups (Member limit d) ts xs → Members limit d ts xs
    members no_group = no_member
    members (next_group one more) = next_member one (members more)

    members_sound : (f : ℕ) (s us : Tokens) (y : List (TypeTree × Declared)) → groups_of (r.member_goes limit d deeper) (r.member limit d deeper) f [] s ≡ Some (y, us) → Took (λ p. Members limit d p y) s us
    members_sound f s us y e =
        let i = groups_sound (r.member_goes limit d deeper) (r.member limit d deeper) (Member limit d) member_sound f [] s us y e in
        record { front = i.took.front; split = i.took.split; derives = subst (λ z. Members limit d i.took.front z) (sym i.all) (members i.took.derives) }

    pub structure_sound : (s us : Tokens) (y : TypeTree) → r.structure limit d deeper s ≡ Some (y, us) → Took (λ p. Structure limit d p y) s us
    unfolding r.structure
    structure_sound s us y e =
        let a1 = bind_some (expect_word w.Struct s) _ _ e in
        let i1 = expect_word_of w.Struct s a1.0 a1.1 in
        let a2 = bind_some (expect m.LeftBrace (a1.0)) _ _ a1.2 in
        let i2 = expect_of m.LeftBrace (a1.0) a2.0 a2.1 in
        let a3 = bind_some (groups_of (r.member_goes limit d deeper) (r.member limit d deeper) (length a2.0 + 1) [] (a2.0)) _ _ a2.2 in
        let i3 = members_sound (length a2.0 + 1) (a2.0) a3.0.1 a3.0.0 a3.1 in
        let a4 = bind_some (expect m.RightBrace (a3.0.1)) _ _ a3.2 in
        let i4 = expect_of m.RightBrace (a3.0.1) a4.0 a4.1 in
        took_as (λ g p. Structure limit d p g) s (a4.0) us (t.Struct (start s) a3.0.0) y (some_is _ _ a4.2)
        (record { front = i1.token ∷ (i2.token ∷ (i3.front ++ (i4.token ∷ []))); split = i1.is ∙ ap (λ l. i1.token ∷ l) (i2.is ∙ ap (λ l. i2.token ∷ l) (both i3.front (i4.token ∷ []) (a2.0) (a3.0.1) (a4.0) i3.split (i4.is))); derives = subst (λ at. Structure limit d (i1.token ∷ (i2.token ∷ (i3.front ++ (i4.token ∷ [])))) (t.Struct at a3.0.0)) (sym (ap start i1.is)) (structure i1.token i2.token i4.token i1.is_word i2.is_mark i3.derives i4.is_mark) })

module _ (limit : ℕ) where
  inside_sound : (d : ℕ) (s us : Tokens) (y : TypeTree) → inside limit d s ≡ Some (y, us) → Took (λ p. MemberType limit d p y) s us
  unfolding inside
  inside_sound zero s us y e = absurd cc
  inside_sound (suc d) s us y e =
      let i = structure_sound limit d (inside limit d) (inside_sound d) s us y e in
      record { front = i.front; split = i.split; derives = inner i.derives }

  module _ (d : ℕ) where
    pub type_sound : (s us : Tokens) (y : TypeTree) → r.type_in limit d s ≡ Some (y, us) → Took (λ p. TypeIs limit d p y) s us
    unfolding r.type_in
    type_sound s us y e =
        elim (if_cases (is_word w.Struct s) _ _ _ e) [
          | inl g ↦
              let i = structure_sound limit d (inside limit d) (inside_sound d) s us y g.1 in
              record { front = i.front; split = i.split; derives = struct_type i.derives }
          | inr g ↦
              let i = plain_sound limit d s us y g.1 in
              record { front = i.front; split = i.split; derives = plain_type i.derives }
        ]

    range_start : {ts : Tokens} {y : Expr × Expr} → Range limit d ts y → (us : Tokens) → start (ts ++ us) ≡ start ts
    range_start (range o q c eo x eq z ec) us = refl

    pub maybe_type_sound : (s us : Tokens) (y : Option TypeTree) → r.maybe_type limit d s ≡ Some (y, us) → Took (λ p. MaybeType limit d p y) s us
    unfolding r.maybe_type r.only_range r.only_sign r.some_type
    maybe_type_sound s us y e =
        elim (if_cases (is_bare s) _ _ _ e) [
          | inl g ↦ took_as (λ z p. MaybeType limit d p z) s s us None y (some_is _ _ g.1) (record { front = []; split = refl; derives = no_type })
          | inr g ↦
              elim (if_cases (is_at m.LeftBracket s) _ _ _ g.1) [
                | inl h ↦
                    let a = bind_some (r.range limit d s) _ _ h.1 in
                    let i = range_sound limit d s a.0.1 a.0.0 a.1 in
                    let starts : start s ≡ start i.front = ap start i.split ∙ range_start i.derives a.0.1 in
                    took_as (λ z p. MaybeType limit d p z) s a.0.1 us (Some (t.Integral (start s) int.Logic None (Some a.0.0))) y (some_is _ _ a.2)
                    (record { front = i.front; split = i.split; derives = subst (λ at. MaybeType limit d i.front (Some (t.Integral at int.Logic None (Some a.0.0)))) (sym starts) (only_range i.derives) })
                | inr h ↦
                    elim (either_cases (sign_of (first s)) _ _ _ h.1) [
                      | inl j ↦
                          let a = bind_some (r.type_in limit d s) _ _ j.1 in
                          let i = type_sound s a.0.1 a.0.0 a.1 in
                          took_as (λ z p. MaybeType limit d p z) s a.0.1 us (Some a.0.0) y (some_is _ _ a.2) (record { front = i.front; split = i.split; derives = some_type i.derives })
                      | inr j ↦
                          let f = first_is sign_of j.0 s refl j.1 in
                          let a = bind_some (r.maybe_range limit d (drop 1 s)) _ _ j.2 in
                          let i = maybe_range_sound limit d (drop 1 s) a.0.1 a.0.0 a.1 in
                          took_as (λ z p. MaybeType limit d p z) s a.0.1 us (Some (t.Integral (start s) int.Logic (Some j.0) a.0.0)) y (some_is _ _ a.2)
                          (record {
                            front = f.token ∷ i.front;
                            split = f.is ∙ ap (λ l. f.token ∷ l) i.split;
                            derives = subst (λ at. MaybeType limit d (f.token ∷ i.front) (Some (t.Integral at int.Logic (Some j.0) a.0.0))) (sym (ap start f.is)) (only_sign f.token f.fits i.derives);
                          })
                    ]
              ]
        ]
