-- The leaf of a concatenation, and leaves that repeat.
use Rattle.std.proofs.Common.{◌≡◌, ◌≤◌, ℕ, zero, suc, ◌+◌, List, [], ◌∷◌, length, replicate, take, refl, ap, sym, ◌∙◌, arith}
use Rattle.std.specs.List.{flat_map}
use Rattle.std.specs.Prelude.{◌==◌, Bool, true, false, ◌&&◌, ◌||◌, nat_lt, nat_le, Option, Some, None, option_map}
use Rattle.std.proofs.lemmas.Bool.{eqb-true, ltb-false, leb-false}
use Rattle.nt_value.specs.Operators.{unsigned_leaf}
use Rattle.nt_value.specs.declared.leaf.Leaf.{Leaf}
use Rattle.nt_design.proofs.Shaped.{false_is, nothing_there, on_leaf_back, on_shape_back, some_back}
use Rattle.nt_design.specs.Shapes.{Shaped, concat_leaf, concat_shape, is_width, on_shape, where_so}
use Rattle.nt_shapes.specs.Scopes.{capped}

pub none_repeated : {A : Type 0} (n : ℕ) → [] ≡ flat_map {X = List A} (λ s. s) (replicate n [])
none_repeated zero = refl
none_repeated (suc n) = none_repeated n

pub where_true : {A : Type 0} (b : Bool) (x : A) → b ≡ true → where_so b x ≡ Some x
where_true true x h = refl
where_true false x h = false_is h

sure : (b : Bool) → (b ≡ false → ⊥) → b ≡ true
sure true h = refl
sure false h = absurd (h refl)

both : (a b : Bool) → a ≡ true → b ≡ true → (a && b) ≡ true
both true b h k = k
both false b h k = h

wide_is : (width : ℕ) → 1 ≤ width → width ≤ 64 → is_width width ≡ true
wide_is width some few = both (nat_lt 0 width) (nat_le width 64) (sure (nat_lt 0 width) (λ e. omega (arith, some, ltb-false 0 width e))) (sure (nat_le width 64) (λ e. omega (arith, few, leb-false width 64 e)))

-- a concatenation is unsigned
unsigned : (parts : List Shaped) (leaf : Leaf) → concat_leaf parts ≡ Some leaf → leaf ≡ unsigned_leaf leaf.width leaf.four
unsigned [] leaf h = sym (ap (λ (l : Leaf). l) (some_back (unsigned_leaf 0 false) leaf h)) ∙ ap (λ (l : Leaf). unsigned_leaf l.width l.four) (some_back (unsigned_leaf 0 false) leaf h)
unsigned (part ∷ parts) leaf h =
    let a = on_leaf_back part (λ a. on_shape (concat_leaf parts) (λ b. Some (unsigned_leaf (a.width + b.width) (a.four || b.four)))) leaf h in
    let b = on_shape_back (concat_leaf parts) (λ b. Some (unsigned_leaf (a.0.width + b.width) (a.0.four || b.four))) leaf a.2 in
    let e = some_back (unsigned_leaf (a.0.width + b.0.width) (a.0.four || b.0.four)) leaf b.2 in
    sym e ∙ ap (λ (l : Leaf). unsigned_leaf l.width l.four) e

the_leaf : (o : Option Leaf) (width : ℕ) (four : Bool) → option_map capped o ≡ Some (width, four) → width ≤ 64 → (leaf : Leaf) × (o ≡ Some leaf) × (leaf.width ≡ width) × (leaf.four ≡ four)
the_leaf None width four h few = nothing_there (width, four) h
the_leaf (Some leaf) width four h few =
    let e = some_back (capped leaf) (width, four) h in
    let w = ap (λ q. q.0) e in
    (leaf, refl, omega (arith, w, few), ap (λ q. q.1) e)

pub concat_is : (parts : List Shaped) (width : ℕ) (four : Bool) → option_map capped (concat_leaf parts) ≡ Some (width, four) → 1 ≤ width → width ≤ 64 → Some (unsigned_leaf width four ∷ []) ≡ concat_shape parts
concat_is parts width four h some few =
    let l = the_leaf (concat_leaf parts) width four h few in
    let leaf = unsigned parts l.0 l.1 ∙ (ap (λ w. unsigned_leaf w l.0.four) l.2 ∙ ap (unsigned_leaf width) l.3) in
    sym (ap (λ o. on_shape o (λ leaf. where_so (is_width leaf.width) (leaf ∷ []))) (l.1 ∙ ap Some leaf)
    ∙ where_true (is_width width) (unsigned_leaf width four ∷ []) (wide_is width some few))

pub nothing : {A : Type 0} (xs : List A) → (length xs == 0) ≡ true → [] ≡ xs
nothing [] h = refl
nothing (x ∷ xs) h = absurd (omega (arith, eqb-true (length (x ∷ xs)) 0 h))

pub take_all : {A : Type 0} (n : ℕ) (xs : List A) → length xs ≤ n → take n xs ≡ xs
take_all zero [] h = refl
take_all (suc n) [] h = refl
take_all zero (x ∷ xs) h = absurd (omega (arith, h))
take_all (suc n) (x ∷ xs) h = ap (λ l. x ∷ l) (take_all n xs (omega (arith, h)))
