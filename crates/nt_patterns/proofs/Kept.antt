-- Items by their keys, from the first on.
use Rattle.std.proofs.Common.{◌≡◌, ◌<◌, ◌≤◌, ℕ, ◌+◌, Bool, true, false, List, [], ◌∷◌, ◌++◌, length, take, drop, refl, ap, sym, subst, ◌∙◌}
use Rattle.std.specs.Prelude.{if◌then◌else◌, get_or, Option, Some, None, slice_get, nat_eq}
use Rattle.std.specs.Cmp.Lexicographic.{pointwise}
use Rattle.std.proofs.lemmas.List.{drop_more, take_all, take_more}
use Rattle.std.proofs.lemmas.Option.{slice_get_read}
use Rattle.nt_ast.specs.declared.expr.Key.{Key}
use Rattle.nt_ast.specs.declared.expr.Key.TheVariants as key
use Rattle.nt_ast.specs.declared.expr.Expr.{Expr}
use Rattle.nt_typing.specs.Tables.{items_for, other_items}
use Rattle.nt_patterns.specs.declared.found.Found.{Found}
use Rattle.nt_patterns.specs.declared.found.Found.TheVariants as found
use Rattle.nt_patterns.specs.Keys.{key_is, key_other, more_found}
use Rattle.nt_patterns.specs.Picks.{Items, IsFound, no_item, one_item, many_items}

pub opened : {A : Type 0} (xs : List A) (i : ℕ) (x : A) → i < length xs → x ≡ get_or xs i x → drop i xs ≡ x ∷ drop (i + 1) xs
opened xs i x lt e = drop_more xs i x lt ∙ ap (λ y. y ∷ drop (i + 1) xs) (sym e)

-- the items whose keys pass a test
abbrev pub kept : (Option Key → Bool) → Items → List Expr
kept test [] = []
kept test (i ∷ items) = if test i.0 then i.1 ∷ kept test items else kept test items

kept_by : (b : Bool) (x : Expr) (xs ys : List Expr) → xs ≡ ys → (if b then x ∷ xs else xs) ≡ (if b then x ∷ ys else ys)
kept_by true x xs ys e = ap (λ xs. x ∷ xs) e
kept_by false x xs ys e = e

pub kept_named : (name : List ℕ) (items : Items) → items_for (Some name) items ≡ kept (key_is name) items
kept_named name [] = refl
kept_named name ((None, x) ∷ items) = kept_named name items
kept_named name ((Some key.Other, x) ∷ items) = kept_named name items
kept_named name ((Some (key.Member own), x) ∷ items) = kept_by (pointwise nat_eq name own) x _ _ (kept_named name items)

pub kept_other : (items : Items) → other_items items ≡ kept key_other items
kept_other [] = refl
kept_other ((None, x) ∷ items) = kept_other items
kept_other ((Some key.Other, x) ∷ items) = ap (λ xs. x ∷ xs) (kept_other items)
kept_other ((Some (key.Member own), x) ∷ items) = kept_other items

snoc_by : (b : Bool) (x : Expr) (xs ys : List Expr) → (if b then x ∷ (xs ++ ys) else (xs ++ ys)) ≡ (if b then x ∷ xs else xs) ++ ys
snoc_by true x xs ys = refl
snoc_by false x xs ys = refl

kept_append : (test : Option Key → Bool) (xs ys : Items) → kept test (xs ++ ys) ≡ kept test xs ++ kept test ys
kept_append test [] ys = refl
kept_append test (x ∷ xs) ys = kept_by (test x.0) x.1 _ _ (kept_append test xs ys) ∙ snoc_by (test x.0) x.1 (kept test xs) (kept test ys)

-- one item more
found_more : (items : Items) (xs : List Expr) (f : Found) (i : ℕ) (item : Option Key × Expr) → slice_get items i ≡ Some item → IsFound items xs f → IsFound items (xs ++ item.1 ∷ []) (more_found f i)
found_more items _ _ i item e no_item = one_item i item e
found_more items _ _ i item e (one_item j other g) = many_items other.1 item.1 []
found_more items _ _ i item e (many_items x y rest) = many_items x y (rest ++ item.1 ∷ [])

append_none : (xs : List Expr) → xs ++ [] ≡ xs
append_none [] = refl
append_none (x ∷ xs) = ap (λ ys. x ∷ ys) (append_none xs)

abbrev pub FoundSo : (Option Key → Bool) → Items → ℕ → Found → Type 0
FoundSo test items i f = IsFound items (kept test (take i items)) f

step_by : (b : Bool) (items : Items) (xs : List Expr) (f : Found) (i : ℕ) (item : Option Key × Expr) → slice_get items i ≡ Some item → IsFound items xs f
    → IsFound items (xs ++ (if b then item.1 ∷ [] else [])) (if b then more_found f i else f)
step_by true items xs f i item e h = found_more items xs f i item e h
step_by false items xs f i item e h = subst (λ xs. IsFound items xs f) (sym (append_none xs)) h

pub found_step : (test : Option Key → Bool) (items : Items) (i : ℕ) (item : Option Key × Expr) (f : Found) → slice_get items i ≡ Some item → take (i + 1) items ≡ take i items ++ item ∷ []
    → FoundSo test items i f → FoundSo test items (i + 1) (if test item.0 then more_found f i else f)
found_step test items i item f e t h =
    subst (λ xs. IsFound items xs (if test item.0 then more_found f i else f)) (sym (ap (kept test) t ∙ kept_append test (take i items) (item ∷ [])))
    (step_by (test item.0) items (kept test (take i items)) f i item e h)

pub found_end : (test : Option Key → Bool) (items : Items) (i : ℕ) (f : Found) (xs : List Expr) → length items ≤ i → xs ≡ kept test items → FoundSo test items i f → IsFound items xs f
found_end test items i f xs le e h = subst (λ xs. IsFound items xs f) (ap (kept test) (take_all i items le) ∙ sym e) h

pub found_next : (test : Option Key → Bool) (items : Items) (i : ℕ) (item : Option Key × Expr) (f next : Found) (b : Bool) (index : ℕ) → i < length items → item ≡ get_or items i item
    → b ≡ test item.0 → index ≡ i → next ≡ (if b then more_found f index else f) → FoundSo test items i f → FoundSo test items (i + 1) next
found_next test items i item f next b index lt e g n s h =
    subst (FoundSo test items (i + 1)) (sym (s ∙ ap (λ (b : Bool). if b then more_found f index else f) g ∙ ap (λ n. if test item.0 then more_found f n else f) n))
    (found_step test items i item f (slice_get_read items (length items) i item refl lt e) (take_more items i item lt ∙ ap (λ x. take i items ++ x ∷ []) (sym e)) h)

pub found_start : (test : Option Key → Bool) (items : Items) → FoundSo test items 0 found.Nothing
found_start test items = no_item

pub items_none : (items : Items) → items_for None items ≡ []
items_none [] = refl
items_none ((None, x) ∷ items) = items_none items
items_none ((Some key.Other, x) ∷ items) = items_none items
items_none ((Some (key.Member own), x) ∷ items) = items_none items
