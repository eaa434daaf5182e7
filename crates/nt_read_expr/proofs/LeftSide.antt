-- A left side is read exactly where the grammar derives one.
use Rattle.std.proofs.Common.{◌≡◌, ℕ, suc, ◌+◌, ◌≤◌, true, false, List, [], ◌∷◌, ◌++◌, Some, None, refl, sym, ap, ◌∙◌, arith}
use Rattle.nt_value.specs.declared.place.Place.{Place}
use Rattle.nt_ast.specs.declared.path.Path.{Path}
use Rattle.nt_ast.specs.declared.expr.Expr.{Expr}
use Rattle.nt_ast.specs.declared.expr.Expr.TheVariants as expr
use Rattle.nt_lexer.specs.declared.kinds.Mark.TheVariants as m
use Rattle.nt_lexer.specs.declared.kinds.TokenKind.{TokenKind}
use Rattle.nt_lexer.specs.declared.kinds.TokenKind.TheVariants as k
use Rattle.nt_lexer.specs.declared.kinds.Token.{Token}
use Rattle.nt_read_expr.specs.Tables.{Tokens, start}
use Rattle.nt_read_expr.specs.Derivation.{Reference, alone, scoped, Left, named}
use Rattle.nt_read_expr.specs.Reader as r
use Rattle.nt_read_expr.specs.Reader.{Readers, below, is_at, name_first}
use Rattle.nt_read_expr.specs.LeftSide.{side_by, left_side}
use Rattle.nt_read_expr.proofs.Basics.{bind_some, Took, both}
use Rattle.nt_read_expr.proofs.Follows.{Follow, at_mark, not_at, name_some, dotted_none}
use Rattle.nt_read_expr.proofs.Begins.{start_append, reference_begins}
use Rattle.nt_read_expr.proofs.Complete.{regroup, selectable_follow, selects_stop, left_complete}
use Rattle.nt_read_expr.proofs.Sound.{reference_sound, selects_sound, sound_below}

module _ (limit : ℕ) where
  module _ (rs : Readers) where
    by_first : (t : Token) (kind : TokenKind) (ts : Tokens) → t.kind ≡ kind → left_side limit rs (t ∷ ts) ≡ side_by limit rs kind t.at ts
    unfolding left_side
    by_first t kind ts g = ap (λ x. side_by limit rs x t.at ts) g

    side_alone : (at : Place) (name : List ℕ) (zs : Tokens) → is_at m.Scope zs ≡ false
        → side_by limit rs (k.Name name) at zs ≡ r.selects limit rs true (suc limit) at (expr.Read at (record { at = at; scope = None; name = name })) zs
    unfolding r.reference
    side_alone at name zs g = rw g refl

    side_scoped : (at : Place) (scope name : List ℕ) (q t : Token) (zs : Tokens) → is_at m.Scope (q ∷ t ∷ zs) ≡ true → name_first (t ∷ zs) ≡ Some name
        → side_by limit rs (k.Name scope) at (q ∷ t ∷ zs) ≡ r.selects limit rs true (suc limit) at (expr.Read at (record { at = at; scope = Some scope; name = name })) zs
    unfolding r.reference
    side_scoped at scope name q t zs g h = rw (g, h) refl

    side_reads : {ps : Tokens} {path : Path} → Reference ps path → (zs : Tokens) → is_at m.Scope zs ≡ false
        → left_side limit rs (ps ++ zs) ≡ r.selects limit rs true (suc limit) (start ps) (expr.Read (start ps) path) zs
    side_reads (alone {name = name} t g) zs s = by_first t (k.Name name) zs g ∙ side_alone t.at name zs s
    side_reads (scoped {scope = scope} {name = name} p q t ep eq et) zs s =
        by_first p (k.Name scope) (q ∷ t ∷ zs) ep ∙ side_scoped p.at scope name q t zs (at_mark m.Scope q (t ∷ zs) eq) (name_some t zs name et)

  pub left_side_complete : {d n : ℕ} {ts : Tokens} {x : Expr} → Left limit d true n ts x → n ≤ limit → (rest : Tokens) → Follow 0 rest
      → left_side limit (below limit d) (ts ++ rest) ≡ Some (x, rest)
  left_side_complete {d = d} {ts = ts} {x = x} l le rest fo =
      let sel = left_complete limit l rest le (selectable_follow rest fo) in
      ap (left_side limit (below limit d)) (ap (λ l. l ++ rest) sel.is ∙ regroup sel.begin sel.others rest)
      ∙ side_reads (below limit d) sel.reference (sel.others ++ rest) sel.goes_on.scope
      ∙ sel.eq ∙ selects_stop limit (below limit d) true sel.turns (start ts) x rest (not_at m.LeftBracket 0 rest (omega arith) fo) (dotted_none _ rest fo)

  -- a left side that stands first
  pub record TookLeft (d : ℕ) (s us : Tokens) (x : Expr) : Type 0 where
    pub count : ℕ
    pub few : count ≤ limit
    pub took : Took (λ p. Left limit d true count p x) s us

  by_kind_sound : (d : ℕ) (t : Token) (kind : TokenKind) (s us : Tokens) (x : Expr) → t.kind ≡ kind → side_by limit (below limit d) kind t.at s ≡ Some (x, us) → TookLeft d (t ∷ s) us x
  by_kind_sound d t (k.Name name) s us x is e =
      let a = bind_some (r.reference t.at name s) _ _ e in
      let v : Tokens = a.0.1 in
      let w = reference_sound t name s v a.0.0 is a.1 in
      let starts : t.at ≡ start w.front = ap start w.split ∙ start_append (reference_begins w.derives) v in
      let l = selects_sound limit (below limit d) d (sound_below limit d).0 (sound_below limit d).1 true (suc limit) 0 w.front (expr.Read (start w.front) a.0.0) v us x (named w.derives) (omega arith)
      (ap (λ at. r.selects limit (below limit d) true (suc limit) at (expr.Read at a.0.0) v) (sym starts) ∙ a.2) in
      record { count = l.count; few = l.few; took = record { front = w.front ++ l.front; split = both w.front l.front (t ∷ s) v us w.split l.split; derives = l.derives } }
  by_kind_sound d t (k.Mark n) s us x is e = absurd cc
  by_kind_sound d t (k.Word n) s us x is e = absurd cc
  by_kind_sound d t (k.System n) s us x is e = absurd cc
  by_kind_sound d t (k.Number n) s us x is e = absurd cc
  by_kind_sound d t (k.Text n) s us x is e = absurd cc
  by_kind_sound d t k.End s us x is e = absurd cc

  pub left_side_sound : (d : ℕ) (s us : Tokens) (x : Expr) → left_side limit (below limit d) s ≡ Some (x, us) → TookLeft d s us x
  unfolding left_side
  left_side_sound d [] us x e = absurd cc
  left_side_sound d (t ∷ s) us x e = by_kind_sound d t t.kind s us x refl e
