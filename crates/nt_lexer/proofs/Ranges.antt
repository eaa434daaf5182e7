-- Words and marks are looked for among those with the same first byte.
use Rattle.std.proofs.Common.{◌≡◌, ℕ, zero, suc, ◌+◌, ◌-◌, ◌<◌, ◌≤◌, slice_index_or, Bool, true, false, cond, not, ◌&&◌, List, [], ◌∷◌, ◌++◌, length, get_or, map, take, drop, Option, Some, None, inl, inr, refl, sym, ap, subst, ◌∙◌, arith}
use Rattle.std.specs.Prelude.{◌==◌, nat_eq, nat_le}
use Rattle.std.specs.List.{list_all, starts_with}
use Rattle.std.specs.Str.{bytes_eq}
use Rattle.std.proofs.lemmas.Bool.{cases_Bool, and_parts, leb-true, eqb-true, eq-eqb, true≢false}
use Rattle.std.proofs.lemmas.List.{drop-drop, drop-map, take-append-drop, take-map}
use Rattle.std.proofs.lemmas.Slice.Eq.{bytes_eq-Decides}
use Rattle.nt_lexer.specs.Bytes.{Bytes}
use Rattle.nt_lexer.specs.Directives.{named}
use Rattle.nt_lexer.specs.Pieces.{first_mark}
use Rattle.nt_lexer.specs.Steps.{begins_else, all_else, IsRange}
use Rattle.nt_lexer.specs.declared.kinds.Mark.{Mark}

-- ---- a table that is looked through from its start

module _ {A C : Type 0} (F : List (Bytes × A) → Option C) (test : Bytes × A → Bool) (give : Bytes × A → C) (none : F [] ≡ None)
    (more : (x : Bytes × A) (xs : List (Bytes × A)) → F (x ∷ xs) ≡ cond (test x) (Some (give x)) (F xs))
    (b : ℕ) (missed : (x : Bytes × A) → begins_else b x.0 ≡ true → test x ≡ false) where
  past : (xs ys : List (Bytes × A)) → all_else b xs ≡ true → F (xs ++ ys) ≡ F ys
  past [] ys e = refl
  past (x ∷ xs) ys e =
      let both = and_parts (begins_else b x.0) (all_else b xs) e in
      more x (xs ++ ys) ∙ ap (λ t. cond t (Some (give x)) (F (xs ++ ys))) (missed x both.0) ∙ past xs ys both.1

  empty : (ys : List (Bytes × A)) → all_else b ys ≡ true → F ys ≡ None
  empty [] e = none
  empty (y ∷ ys) e =
      let both = and_parts (begins_else b y.0) (all_else b ys) e in
      more y ys ∙ ap (λ t. cond t (Some (give y)) (F ys)) (missed y both.0) ∙ empty ys both.1

  front : (xs ys : List (Bytes × A)) → all_else b ys ≡ true → F (xs ++ ys) ≡ F xs
  front [] ys e = empty ys e ∙ sym none
  front (x ∷ xs) ys e = more x (xs ++ ys) ∙ ap (λ o. cond (test x) (Some (give x)) o) (front xs ys e) ∙ sym (more x xs)

  in_range : (table : List (Bytes × A)) (range : ℕ × ℕ) → IsRange table b range → F (take (range.1 - range.0) (drop range.0 table)) ≡ F table
  in_range table range i =
      let n : ℕ = range.1 - range.0 in
      let rest : List (Bytes × A) = drop range.0 table in
      let two : range.0 + n ≡ range.1 = omega (arith, i.ordered) in
      let after : all_else b (drop n rest) ≡ true = subst (λ q. all_else b q ≡ true) (sym (drop-drop n range.0 table ∙ ap (λ k. drop k table) two)) i.after in
      sym (front (take n rest) (drop n rest) after) ∙ ap F (take-append-drop n rest) ∙ sym (past (take range.0 table) rest i.before) ∙ ap F (take-append-drop range.0 table)

-- ---- words, and marks

other_word : (b : ℕ) (bs s : Bytes) → begins_else b s ≡ true → bytes_eq s (b ∷ bs) ≡ false
other_word b bs s e = elim (cases_Bool (bytes_eq s (b ∷ bs))) [
  | inl t ↦ let same : s ≡ b ∷ bs = (bytes_eq-Decides s (b ∷ bs)).0 t in
      let bad : not (b == b) ≡ true = subst (λ q. begins_else b q ≡ true) same e in
      absurd (true≢false (sym bad ∙ ap not (eq-eqb b b refl)))
  | inr f ↦ f
]

other_mark : (b : ℕ) (bs s : Bytes) → begins_else b s ≡ true → starts_with nat_eq (b ∷ bs) s ≡ false
other_mark b bs [] e = absurd cc
other_mark b bs (c ∷ cs) e = elim (cases_Bool (c == b)) [
  | inl t ↦ absurd (true≢false (sym e ∙ ap not t))
  | inr f ↦ cc f
]

named_in : {A : Type 0} (b : ℕ) (bs : Bytes) (table : List (Bytes × A)) (range : ℕ × ℕ) → IsRange table b range
    → named (take (range.1 - range.0) (drop range.0 table)) (b ∷ bs) ≡ named table (b ∷ bs)
named_in b bs table range i =
    in_range (λ t. named t (b ∷ bs)) (λ x. bytes_eq x.0 (b ∷ bs)) (λ x. x.1) refl (λ x xs. refl) b (λ x e. other_word b bs x.0 e) table range i

mark_in : (b : ℕ) (bs : Bytes) (table : List (Bytes × Mark)) (range : ℕ × ℕ) → IsRange table b range
    → first_mark (take (range.1 - range.0) (drop range.0 table)) (b ∷ bs) ≡ first_mark table (b ∷ bs)
mark_in b bs table range i =
    in_range (λ t. first_mark t (b ∷ bs)) (λ x. starts_with nat_eq (b ∷ bs) x.0) (λ x. (x.1, length x.0)) refl (λ x xs. refl) b (λ x e. other_mark b bs x.0 e) table range i

-- ---- a list of ranges, byte by byte

abbrev fits : {A : Type 0} → List (Bytes × A) → ℕ → ℕ × ℕ → Bool
fits table b r = nat_le r.0 r.1 && (nat_le r.1 (length table) && (all_else b (take r.0 table) && all_else b (drop r.1 table)))

abbrev pub all_fit : {A : Type 0} → List (Bytes × A) → ℕ → List (ℕ × ℕ) → Bool
all_fit table b [] = true
all_fit table b (r ∷ rs) = fits table b r && all_fit table (b + 1) rs

range_of : {A : Type 0} (table : List (Bytes × A)) (b : ℕ) (r : ℕ × ℕ) → fits table b r ≡ true → IsRange table b r
range_of table b r e =
    let p = and_parts (nat_le r.0 r.1) _ e in
    let q = and_parts (nat_le r.1 (length table)) _ p.1 in
    let t = and_parts (all_else b (take r.0 table)) _ q.1 in
    record { ordered = leb-true _ _ p.0; inside = leb-true _ _ q.0; before = t.0; after = t.1 }

at_range : {A : Type 0} (table : List (Bytes × A)) (b i : ℕ) (rs : List (ℕ × ℕ)) → i < length rs → all_fit table b rs ≡ true
    → IsRange table (b + i) (slice_index_or rs i (0, 0))
at_range table b i [] lt e = absurd (omega (arith, lt))
at_range table b zero (x ∷ rs) lt e =
    let both = and_parts (fits table b x) (all_fit table (b + 1) rs) e in
    let same : b ≡ b + 0 = omega arith in
    subst (λ k. IsRange table k x) same (range_of table b x both.0)
at_range table b (suc i) (x ∷ rs) lt e =
    let both = and_parts (fits table b x) (all_fit table (b + 1) rs) e in
    let on : b + 1 + i ≡ b + suc i = omega arith in
    subst (λ k. IsRange table k (slice_index_or rs i (0, 0))) on (at_range table (b + 1) i rs (omega (arith, lt)) both.1)

pub range_at : {A : Type 0} (table : List (Bytes × A)) (low b i : ℕ) (rs : List (ℕ × ℕ)) → all_fit table low rs ≡ true → low + i ≡ b → i < length rs
    → IsRange table b (slice_index_or rs i (0, 0))
range_at table low b i rs e same lt = subst (λ k. IsRange table k (slice_index_or rs i (0, 0))) same (at_range table low i rs lt e)

-- no entry begins with a byte outside
abbrev between : ℕ → ℕ → Bytes → Bool
between low high [] = false
between low high (c ∷ cs) = nat_le low c && nat_le c high

abbrev pub all_between : {A : Type 0} → ℕ → ℕ → List (Bytes × A) → Bool
all_between low high table = list_all (λ e. between low high e.0) table

else_outside : (low high b : ℕ) (s : Bytes) → (low ≤ b → b ≤ high → ⊥) → between low high s ≡ true → begins_else b s ≡ true
else_outside low high b [] out e = absurd cc
else_outside low high b (c ∷ cs) out e =
    let p = and_parts (nat_le low c) (nat_le c high) e in
    elim (cases_Bool (c == b)) [
      | inl t ↦ let same : c ≡ b = eqb-true c b t in absurd (out (subst (λ k. low ≤ k) same (leb-true low c p.0)) (subst (λ k. k ≤ high) same (leb-true c high p.1)))
      | inr f ↦ ap not f
    ]

all_outside : {A : Type 0} (low high b : ℕ) (table : List (Bytes × A)) → (low ≤ b → b ≤ high → ⊥) → all_between low high table ≡ true → all_else b table ≡ true
all_outside low high b [] out e = refl
all_outside low high b (x ∷ xs) out e =
    let p = and_parts (between low high x.0) (all_between low high xs) e in
    ap (λ t. t && all_else b xs) (else_outside low high b x.0 out p.0) ∙ all_outside low high b xs out p.1

pub no_range : {A : Type 0} (low high b : ℕ) (table : List (Bytes × A)) → (low ≤ b → b ≤ high → ⊥) → all_between low high table ≡ true → IsRange table b (0, 0)
no_range low high b table out e = record { ordered = omega arith; inside = omega arith; before = refl; after = all_outside low high b table out e }

-- a part of a table as the code has it, by references
pub part_of : {A B : Type 0} (f : A → B) (table : List A) (part : ℕ × ℕ) → take (part.1 - part.0) (drop part.0 (map f table)) ≡ map f (take (part.1 - part.0) (drop part.0 table))
part_of f table part = ap (λ xs. take (part.1 - part.0) xs) (drop-map f part.0 table) ∙ take-map f (part.1 - part.0) (drop part.0 table)

pub named_from : {A : Type 0} (text : Bytes) (table : List (Bytes × A)) (range : ℕ × ℕ) → 1 ≤ length text → IsRange table (get_or text 0 0) range
    → named (take (range.1 - range.0) (drop range.0 table)) text ≡ named table text
named_from [] table range some i = absurd (omega (arith, some))
named_from (b ∷ bs) table range some i = named_in b bs table range i

pub mark_from : (text : Bytes) (table : List (Bytes × Mark)) (range : ℕ × ℕ) → 1 ≤ length text → IsRange table (get_or text 0 0) range
    → first_mark (take (range.1 - range.0) (drop range.0 table)) text ≡ first_mark table text
mark_from [] table range some i = absurd (omega (arith, some))
mark_from (b ∷ bs) table range some i = mark_in b bs table range i

pub is_empty : (text : Bytes) → length text < 1 → text ≡ []
is_empty [] lt = refl
is_empty (b ∷ bs) lt = absurd (omega (arith, lt))
