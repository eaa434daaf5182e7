-- The reader of files finds exactly what the grammar derives.
use Rattle.std.proofs.Common.{◌≡◌, ℕ, Bool, true, false, List, [], ◌∷◌, ◌++◌, length, Some, None, refl, sym, ap, ◌∙◌, subst, arith}
use Rattle.std.specs.Prelude.{◌==◌, if◌then◌else◌}
use Rattle.std.proofs.lemmas.Bool.{eqb-true}
use Rattle.nt_items.specs.declared.item.Item.{Item}
use Rattle.nt_lexer.specs.declared.kinds.TokenKind.{TokenKind}
use Rattle.nt_lexer.specs.declared.kinds.TokenKind.TheVariants as k
use Rattle.nt_lexer.specs.declared.kinds.Token.{Token}
use Rattle.nt_lexer.specs.Laws.{Ascending}
use Rattle.nt_read_expr.specs.Tables.{Tokens}
use Rattle.nt_read_expr.proofs.Places.{front_of}
use Rattle.nt_read_module.proofs.Places.{source_placed}
use Rattle.nt_read_module.specs.Reader.{source, is_end}
use Rattle.nt_read_expr.proofs.Basics.{bind_some, some_is, if_some}
use Rattle.nt_read_module.proofs.Sound.{source_sound}
use Rattle.nt_read_module.proofs.Complete.{source_complete}
use Rattle.nt_parse_unit.specs.Readings.{Derives, ends, read_source, OneSource, EachItemPlace}

end_is : (kind : TokenKind) → is_end kind ≡ true → kind ≡ k.End
end_is k.End e = refl
end_is _ e = absurd cc

-- one token is left
record Last (us : Tokens) : Type 0 where
  token : Token
  is_last : token.kind ≡ k.End
  is : us ≡ token ∷ []

last_of : (us : Tokens) → ends us ≡ true → Last us
last_of [] e = absurd cc
last_of (t ∷ []) e = record { token = t; is_last = end_is t.kind e; is = refl }
last_of (t ∷ u ∷ us) e = let q = (if_some_both (length (t ∷ u ∷ us) == 1) (is_end t.kind) e).0 in let n = eqb-true (length (t ∷ u ∷ us)) 1 q in absurd (omega arith)
  where
    if_some_both : (a b : Bool) → (if a then b else false) ≡ true → (a ≡ true) × (b ≡ true)
    if_some_both true b e = (refl, e)
    if_some_both false b e = absurd cc

ends_at : (t : Token) → t.kind ≡ k.End → ends (t ∷ []) ≡ true
ends_at t e = ap is_end e

pub read_complete : (limit : ℕ) (ts : Tokens) (xs : List Item) → Derives limit ts xs → read_source limit ts ≡ Some xs
unfolding read_source
read_complete limit ts xs d =
    let e : source limit ts ≡ Some (xs, d.last ∷ []) = ap (source limit) d.split ∙ source_complete limit d.derives d.last [] d.is_last in
    rw (e, ends_at d.last d.is_last) refl

pub read_sound : (limit : ℕ) (ts : Tokens) (xs : List Item) → read_source limit ts ≡ Some xs → Derives limit ts xs
unfolding read_source
read_sound limit ts xs e =
    let a = bind_some (source limit ts) _ _ e in
    let c = if_some (ends a.0.1) (Some a.0.0) xs a.2 in
    let p : a.0.0 ≡ xs = some_is _ _ c.1 in
    let w = source_sound limit ts a.0.1 a.0.0 a.1 in
    let o = last_of a.0.1 c.0 in
    subst (λ (zs : List Item). Derives limit ts zs) p (record { front = w.front; last = o.token; split = w.split ∙ ap (λ l. w.front ++ l) o.is; is_last = o.is_last; derives = w.derives })

pub one_only : OneSource
one_only limit ts xs ys d f = some_is xs ys (sym (read_complete limit ts xs d) ∙ read_complete limit ts ys f)

-- where nothing is read nothing is derived
pub none_derives : (limit : ℕ) (ts : Tokens) → read_source limit ts ≡ None → (xs : List Item) → Derives limit ts xs → ⊥
none_derives limit ts e xs d = let q = sym e ∙ read_complete limit ts xs d in absurd cc

pub each_place : EachItemPlace
each_place limit ts xs d file i j a = source_placed file limit d.derives (front_of file d.front (d.last ∷ []) (subst (Ascending file i j) d.split a))
