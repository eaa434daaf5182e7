-- Declarations one after the other.
use Rattle.std.proofs.Common.{◌≡◌, ℕ, zero, suc, ◌+◌, ◌<◌, ◌≤◌, List, [], ◌∷◌, ◌++◌, map, length, take, get_or, refl, sym, ap, ◌∙◌, subst, arith, add-one, append_assoc, length-append}
use Rattle.std.specs.Prelude.{Option}
use Rattle.std.proofs.Math.Seq.{take-suc}
use Rattle.std.proofs.lemmas.Grind.{flat_map-append}
use Rattle.nt_items.specs.declared.item.Item.{Item}
use Rattle.nt_items.specs.declared.item.Item.TheViews.{out-Item}
use Rattle.nt_scopes.specs.declared.scope.Entry.{Entry}
use Rattle.nt_scopes.specs.Means.{Names, added}
use Rattle.nt_types.specs.declared.parts.What.{What}
use Rattle.nt_types.specs.Parts.{Part, parts_of, all_parts, names_from, Adds}

append_none : {A : Type 0} (xs : List A) → xs ++ [] ≡ xs
append_none [] = refl
append_none (x ∷ xs) = ap (λ ys. x ∷ ys) (append_none xs)

pub take_more : {A : Type 0} (xs : List A) (i : ℕ) (x : A) → i < length xs → x ≡ get_or xs i x → take (i + 1) xs ≡ take i xs ++ x ∷ []
take_more xs i x lt at = ap (λ n. take n xs) (add-one i) ∙ take-suc xs i x lt ∙ ap (λ y. take i xs ++ y ∷ []) (sym at)

pub take_whole : {A : Type 0} (xs : List A) (n : ℕ) → length xs ≤ n → take n xs ≡ xs
take_whole [] zero le = refl
take_whole [] (suc n) le = refl
take_whole (x ∷ xs) zero le = absurd (omega arith)
take_whole (x ∷ xs) (suc n) le = ap (λ ys. x ∷ ys) (take_whole xs n (omega arith))

pub map_append : {A B : Type 0} (f : A → B) (xs ys : List A) → map f (xs ++ ys) ≡ map f xs ++ map f ys
map_append f [] ys = refl
map_append f (x ∷ xs) ys = ap (λ zs. f x ∷ zs) (map_append f xs ys)

pub map_length : {A B : Type 0} (f : A → B) (xs : List A) → length (map f xs) ≡ length xs
map_length f [] = refl
map_length f (x ∷ xs) = ap suc (map_length f xs)

pub names_append : (names : List (List ℕ × Entry)) (n : ℕ) (ps qs : List Part) → names_from names n (ps ++ qs) ≡ names_from (names_from names n ps) (n + length ps) qs
names_append names n [] qs = let e : n ≡ n + 0 = omega arith in ap (λ m. names_from names m qs) e
names_append names n (p ∷ ps) qs =
    let e : suc n + length ps ≡ n + suc (length ps) = omega arith in
    names_append (added names p.name (record { from = p.from; number = n })) (suc n) ps qs
    ∙ ap (λ m. names_from (names_from (added names p.name (record { from = p.from; number = n })) (suc n) ps) m qs) e

pub adds_none : (s : Names) (ws : List What) → Adds s s ws ws []
adds_none s ws = record { names = refl; imports = refl; whats = sym (append_none ws) }

pub adds_more : {a b c : Names} {x y z : List What} {ps qs : List Part} → Adds a b x y ps → Adds b c y z qs → Adds a c x z (ps ++ qs)
adds_more {a = a} {x = x} {y = y} {ps = ps} {qs = qs} f g =
    let n : length y ≡ length x + length ps = ap length f.whats ∙ length-append x (map (λ (p : Part). p.what) ps) ∙ ap (λ m. length x + m) (map_length (λ (p : Part). p.what) ps) in
    record {
      names = g.names ∙ ap (λ m. names_from m (length y) qs) f.names ∙ ap (λ m. names_from (names_from a.names (length x) ps) m qs) n ∙ sym (names_append a.names (length x) ps qs);
      imports = g.imports ∙ f.imports;
      whats = g.whats ∙ ap (λ ws. ws ++ map (λ (p : Part). p.what) qs) f.whats ∙ append_assoc x (map (λ (p : Part). p.what) ps) (map (λ (p : Part). p.what) qs) ∙ ap (λ ws. x ++ ws) (sym (map_append (λ (p : Part). p.what) ps qs));
    }

pub adds_same : {a b : Names} {x y : List What} (ps qs : List Part) → ps ≡ qs → Adds a b x y ps → Adds a b x y qs
adds_same {a = a} {b = b} {x = x} {y = y} ps qs e f = subst (λ ps. Adds a b x y ps) e f

pub items_more : (scope : Option (List ℕ)) (items : List Item) (i : ℕ) (x : Item) → i < length items → x ≡ get_or items i x → all_parts scope (take i items) ++ parts_of scope (out-Item x) ≡ all_parts scope (take (i + 1) items)
items_more scope items i x lt at =
    ap (λ ps. all_parts scope (take i items) ++ ps) (sym (append_none (parts_of scope (out-Item x))))
    ∙ sym (flat_map-append (λ x. parts_of scope (out-Item x)) (take i items) (x ∷ []))
    ∙ sym (ap (all_parts scope) (take_more items i x lt at))

pub map_more : {A B : Type 0} (f : A → B) (xs : List A) (i : ℕ) (x : A) → i < length xs → x ≡ get_or xs i x → map f (take i xs) ++ f x ∷ [] ≡ map f (take (i + 1) xs)
map_more f xs i x lt at = sym (map_append f (take i xs) (x ∷ [])) ∙ sym (ap (map f) (take_more xs i x lt at))
