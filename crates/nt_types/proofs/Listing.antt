-- The items of the unit, one after the other.
use Rattle.std.proofs.Common.{◌≡◌, ℕ, suc, ◌+◌, ◌<◌, ◌≤◌, List, [], ◌∷◌, ◌++◌, map, length, take, drop, get_or, refl, sym, ap, ◌∙◌, add-one, append_assoc, drop-cons}
use Rattle.std.proofs.lemmas.List.{drop_all}
use Rattle.std.proofs.lemmas.Grind.{flat_map-append}
use Rattle.nt_items.specs.declared.item.Item.{Item}
use Rattle.nt_items.specs.declared.item.Item.TheViews.{out-Item}
use Rattle.nt_items.specs.declared.item.Units.{Units}
use Rattle.nt_scopes.specs.declared.scope.Entry.{Entry}
use Rattle.nt_types.specs.declared.units.Home.{Home}
use Rattle.nt_types.specs.Units.{homes_from, start_of, home_scope, packages_from, package_added}
use Rattle.nt_types.proofs.Adding.{take_more}
use Rattle.nt_unit_names.specs.Faults.{unit_of}

pub append_none : {A : Type 0} (xs : List A) → xs ++ [] ≡ xs
append_none [] = refl
append_none (x ∷ xs) = ap (λ ys. x ∷ ys) (append_none xs)

pub dropped : {A B : Type 0} (f : A → B) (xs : List A) (k : ℕ) (x : A) → k < length xs → x ≡ get_or xs k x → map f (drop k xs) ≡ f x ∷ map f (drop (k + 1) xs)
dropped f xs k x lt is = ap (map f) (drop-cons xs k x lt ∙ ap (λ y. y ∷ drop (suc k) xs) (sym is) ∙ ap (λ n. x ∷ drop n xs) (sym (add-one k)))

pub nothing_left : {A B : Type 0} (f : A → B) (xs : List A) (k : ℕ) → length xs ≤ k → map f (drop k xs) ≡ []
nothing_left f xs k le = ap (map f) (drop_all k xs le)

-- the unit of the files up to one
pub unit_more : (files : List Units) (i : ℕ) (f : Units) → i < length files → f ≡ get_or files i f → unit_of (take (i + 1) files) ≡ unit_of (take i files) ++ f.items
unit_more files i f lt at = ap unit_of (take_more files i f lt at) ∙ flat_map-append (λ (f : Units). f.items) (take i files) (f ∷ []) ∙ ap (λ ys. unit_of (take i files) ++ ys) (append_none f.items)

-- ---- homes
pub homes_turn : {A : Type 0} (now : A → Item) (xs : List A) (k : ℕ) (x : A) (all : List Home) (h : Home) → k < length xs → x ≡ get_or xs k x
    → h ≡ record { start = start_of (out-Item (now x)); scope = home_scope (k + 1) (out-Item (now x)) }
    → homes_from 1 (map now xs) ≡ all ++ homes_from (suc k) (map now (drop k xs)) → homes_from 1 (map now xs) ≡ (all ++ h ∷ []) ++ homes_from (suc (k + 1)) (map now (drop (k + 1) xs))
homes_turn now xs k x all h lt at is e =
    let g : homes_from (suc k) (map now (drop k xs)) ≡ h ∷ homes_from (suc (k + 1)) (map now (drop (k + 1) xs)) =
    ap (homes_from (suc k)) (dropped now xs k x lt at)
    ∙ ap (λ n. record { start = start_of (out-Item (now x)); scope = home_scope n (out-Item (now x)) } ∷ homes_from (suc n) (map now (drop (k + 1) xs))) (sym (add-one k))
    ∙ ap (λ h. h ∷ homes_from (suc (k + 1)) (map now (drop (k + 1) xs))) (sym is) in
    e ∙ ap (λ hs. all ++ hs) g ∙ sym (append_assoc all (h ∷ []) (homes_from (suc (k + 1)) (map now (drop (k + 1) xs))))

pub homes_end : {A : Type 0} (now : A → Item) (xs : List A) (k : ℕ) (all : List Home) → length xs ≤ k → homes_from 1 (map now xs) ≡ all ++ homes_from (suc k) (map now (drop k xs)) → all ≡ homes_from 1 (map now xs)
homes_end now xs k all le e = sym (e ∙ ap (λ ys. all ++ homes_from (suc k) ys) (nothing_left now xs k le) ∙ append_none all)

-- ---- packages
pub packages_turn : {A : Type 0} (now : A → Item) (xs : List A) (k : ℕ) (x : A) (all new start : List (List ℕ × Entry)) → k < length xs → x ≡ get_or xs k x → new ≡ package_added all (k + 1) (out-Item (now x))
    → start ≡ packages_from all (suc k) (map now (drop k xs)) → start ≡ packages_from new (suc (k + 1)) (map now (drop (k + 1) xs))
packages_turn now xs k x all new start lt at is e =
    e ∙ ap (packages_from all (suc k)) (dropped now xs k x lt at)
    ∙ ap (λ n. packages_from (package_added all n (out-Item (now x))) (suc n) (map now (drop (k + 1) xs))) (sym (add-one k))
    ∙ ap (λ ps. packages_from ps (suc (k + 1)) (map now (drop (k + 1) xs))) (sym is)

pub packages_end : {A : Type 0} (now : A → Item) (xs : List A) (k : ℕ) (all start : List (List ℕ × Entry)) → length xs ≤ k → start ≡ packages_from all (suc k) (map now (drop k xs)) → all ≡ start
packages_end now xs k all start le e = sym (e ∙ ap (packages_from all (suc k)) (nothing_left now xs k le))
