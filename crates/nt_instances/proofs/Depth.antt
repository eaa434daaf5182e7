-- No chain of instances is longer than the list of modules.
use Rattle.std.proofs.Common.{◌≡◌, ℕ, zero, suc, ◌+◌, ◌<◌, ◌≤◌, ◌==◌, Bool, true, false, cond, eqb, List, [], ◌∷◌, ◌++◌, length, slice_get, Option, Some, None, refl, sym, ap, subst, ◌∙◌, arith, inl, inr, length-append, add-zero, add-suc}
use Rattle.std.specs.List.{list_any, IsDistinct}
use Rattle.std.proofs.lemmas.Bool.{cases_Bool, or_parts, or_from, or_cases, eqb-true, eq-eqb, ne_eqb, cases_eq, false≢true}
use Rattle.std.specs.Cmp.{IsEquivalence}
use Rattle.std.proofs.lemmas.Map.Steps.{length-le_from_distinct_below}
use Rattle.std.proofs.lemmas.Map.Keys.{IsDistinct-push}
use Rattle.std.proofs.lemmas.List.Folds.{list_any-append}
use Rattle.nt_value.specs.declared.place.Place.{Place}
use Rattle.nt_items.specs.declared.item.Item.{Item}
use Rattle.nt_items.specs.declared.item.Item.TheOpen.{Item-F}
use Rattle.nt_items.specs.declared.item.Item.TheViews.{out-Item}
use Rattle.nt_unit_names.specs.Items.{ItemNode, declares}
use Rattle.nt_instances.specs.Numbers.{number_from}
use Rattle.nt_instances.specs.declared.rows.Row.{Row}
use Rattle.nt_instances.specs.Modules.{find_module, items_of}
use Rattle.nt_instances.specs.Rows.{instances, item_rows, from_child, child, entered, is_open, inside, top_row, all_rows}

abbrev path : Row → List ℕ
path row = row.around ++ row.definition ∷ []

-- the modules of a chain are modules, and no two are the same
record Apart (ms : List Item) (row : Row) : Type 0 where
  distinct : IsDistinct eqb (path row)
  below : (q : ℕ) → list_any (eqb q) (path row) ≡ true → q < length ms

short : (ms : List Item) (row : Row) → Apart ms row → length row.around + 1 ≤ length ms
short ms row a = let h = length-le_from_distinct_below (path row) (length ms) a.distinct a.below in omega (arith, length-append row.around (row.definition ∷ []))

one_agrees : (f g : ℕ → Row → List Row) (ms : List Item) (here : ℕ) (row : Row) → ((n index : ℕ) (x : ItemNode) (c : Row) → child ms here row index x ≡ Some c → f n c ≡ g n c) → (n index : ℕ) (x : ItemNode) (o : Option Row) → child ms here row index x ≡ o → from_child f n o ≡ from_child g n o
one_agrees f g ms here row same n index x None e = refl
one_agrees f g ms here row same n index x (Some c) e = same n index x c e

-- two walks that agree on the instances of the items
items_agree : (f g : ℕ → Row → List Row) (ms : List Item) (here : ℕ) (row : Row) → ((n index : ℕ) (x : ItemNode) (c : Row) → child ms here row index x ≡ Some c → f n c ≡ g n c) → (n index : ℕ) (xs : List Item) → item_rows f ms here row n index xs ≡ item_rows g ms here row n index xs
items_agree f g ms here row same n index [] = refl
items_agree f g ms here row same n index (x ∷ xs) =
    let e = one_agrees f g ms here row same n index (out-Item x) (child ms here row index (out-Item x)) refl in
    ap (λ us. us ++ item_rows f ms here row (n + length us) (index + 1) xs) e
    ∙ ap (λ vs. from_child g n (child ms here row index (out-Item x)) ++ vs) (items_agree f g ms here row same (n + length (from_child g n (child ms here row index (out-Item x)))) (index + 1) xs)

-- an instance inside another one makes the chain longer by a module that is not in it
record Longer (ms : List Item) (row c : Row) : Type 0 where
  around : c.around ≡ path row
  fresh : is_open row c.definition ≡ false
  within : c.definition < length ms

by_test : (ms : List Item) (here : ℕ) (row : Row) (item : ℕ) (at : Place) (m : ℕ) (c : Row) (b : Bool) → is_open row m ≡ b → m < length ms → cond b None (Some (inside at here row item m)) ≡ Some c → Longer ms row c
by_test ms here row item at m c true e lt h = cc
by_test ms here row item at m c false e lt h =
    let f : c ≡ inside at here row item m = cc in
    record { around = ap (λ r. r.around) f; fresh = ap (λ r. is_open row r.definition) f ∙ e; within = subst (λ k. k < length ms) (sym (ap (λ r. r.definition) f)) lt }

by_name : (ms : List Item) (here : ℕ) (row : Row) (item : ℕ) (at : Place) (c : Row) (o : Option ℕ) → ((m : ℕ) → o ≡ Some m → m < length ms) → entered here row item at o ≡ Some c → Longer ms row c
by_name ms here row item at c None lt h = cc
by_name ms here row item at c (Some m) lt h = by_test ms here row item at m c (is_open row m) refl (lt m refl) h

number_within : {A : Type 0} (p : A → Bool) (n m : ℕ) (xs : List A) → number_from p n xs ≡ Some m → m < n + length xs
number_within p n m [] e = cc
number_within p n m (x ∷ xs) e =
    let choice = λ (b : Bool). cond b (Some n) (number_from p (suc n) xs) in
    elim (cases_Bool (p x)) [
      | inl t ↦ let f : n ≡ m = cc (sym (ap choice t) ∙ e) in omega (arith, f)
      | inr t ↦ let f = number_within p (suc n) m xs (sym (ap choice t) ∙ e) in omega (arith, f)
    ]

found_in : (ms : List Item) (name : List ℕ) (m : ℕ) → find_module ms name ≡ Some m → m < length ms
found_in ms name m e = let f = number_within (declares name) 0 m ms e in omega (arith, f)

longer : (ms : List Item) (here : ℕ) (row : Row) (index : ℕ) (x : ItemNode) (c : Row) → child ms here row index x ≡ Some c → Longer ms row c
longer ms here row index (Item-F.Instance at module_at of params name ports) c e = by_name ms here row index at c (find_module ms of) (λ m f. found_in ms of m f) e
longer ms here row index (Item-F.Package at name items) c e = cc
longer ms here row index (Item-F.Module at name params ports items) c e = cc
longer ms here row index (Item-F.Import at scope name) c e = cc
longer ms here row index (Item-F.Typedef at kind what) c e = cc
longer ms here row index (Item-F.Nettype item) c e = cc
longer ms here row index (Item-F.Function item) c e = cc
longer ms here row index (Item-F.Param at local kind what) c e = cc
longer ms here row index (Item-F.Net at kind of what) c e = cc
longer ms here row index (Item-F.Var at of what) c e = cc
longer ms here row index (Item-F.Assign at left right) c e = cc
longer ms here row index (Item-F.Procedure item) c e = cc

swapped : (x y : ℕ) → eqb x y ≡ eqb y x
swapped x y = elim (cases_eq x y) [ inl e ↦ eq-eqb x y e ∙ sym (eq-eqb y x (sym e)) | inr ne ↦ ne_eqb x y ne ∙ sym (ne_eqb y x (λ e. ne (sym e))) ]

eqb_equivalence : IsEquivalence eqb
eqb_equivalence = record { refl = λ x. eq-eqb x x refl; symm = λ x y. swapped x y; congr = λ x y z e. ap (λ k. eqb k z) (eqb-true x y e) }

step : (ms : List Item) (row c : Row) → Apart ms row → Longer ms row c → Apart ms c
step ms row c a l =
    let two = or_parts (c.definition == row.definition) (list_any (λ o. c.definition == o) row.around) l.fresh in
    let out : list_any (eqb c.definition) (path row) ≡ false = list_any-append (eqb c.definition) row.around (row.definition ∷ []) ∙ or_from _ _ two.1 (or_from _ false two.0 refl) in
    record {
      distinct = subst (λ us. IsDistinct eqb (us ++ c.definition ∷ [])) (sym l.around) (IsDistinct-push eqb_equivalence (path row) c.definition a.distinct out);
      below = λ q h. elim (or_cases _ _ (sym (list_any-append (eqb q) (path row) (c.definition ∷ [])) ∙ subst (λ us. list_any (eqb q) (us ++ c.definition ∷ []) ≡ true) l.around h)) [
        | inl f ↦ a.below q f
        | inr f ↦ elim (or_cases _ _ f) [ inl g ↦ let e = eqb-true q c.definition g in let w = l.within in omega arith | inr g ↦ absurd (false≢true g) ]
      ];
    }

-- with as much depth as modules are left, one more gives the same
same_depth : (depth : ℕ) (ms : List Item) (n : ℕ) (row : Row) → Apart ms row → length ms ≤ depth + length row.around → instances (suc depth) ms n row ≡ instances depth ms n row
unfolding instances
same_depth zero ms n row a le = let h = short ms row a in absurd (omega arith)
same_depth (suc depth) ms n row a le =
    ap (λ us. row ∷ us) (items_agree (instances (suc depth) ms) (instances depth ms) ms n row
    (λ k index x c e. let l = longer ms n row index x c e in same_depth depth ms k c (step ms row c a l) (let p = ap length l.around in omega (arith, p, length-append row.around (row.definition ∷ []))))
    (n + 1) 0 (items_of (slice_get ms row.definition)))

deeper : (more depth : ℕ) (ms : List Item) (row : Row) → Apart ms row → length ms ≤ depth + length row.around → instances (depth + more) ms 0 row ≡ instances depth ms 0 row
deeper zero depth ms row a le = ap (λ d. instances d ms 0 row) (add-zero depth)
deeper (suc more) depth ms row a le = ap (λ d. instances d ms 0 row) (add-suc depth more) ∙ same_depth (depth + more) ms 0 row a (omega arith) ∙ deeper more depth ms row a le

pub deep : (ms : List Item) (top more : ℕ) → top < length ms → instances (length ms + more) ms 0 (top_row top) ≡ all_rows ms top
unfolding IsDistinct
deep ms top more lt = deeper more (length ms) ms (top_row top)
    (record { distinct = (tt, tt); below = λ q h. elim (or_cases _ _ h) [ inl g ↦ let e = eqb-true q top g in omega arith | inr g ↦ absurd (false≢true g) ] }) (omega arith)
