-- Which types are equivalent.
use Rattle.std.proofs.Common.{◌≡◌, ℕ, ◌<◌, ◌≤◌, ◌+◌, ◌*◌, zero, suc, Bool, List, [], ◌∷◌, length, replicate, refl, ap, sym, subst, ◌∙◌, arith, IsTrue}
use Rattle.std.specs.Prelude.{◌↔◌, slice_get, min, Some}
use Rattle.std.specs.List.{flat_map}
use Rattle.nt_value.specs.declared.leaf.Leaf.{Leaf}
use Rattle.nt_value.specs.declared.place.Place.{Place}
use Rattle.nt_kinds.specs.declared.kind.Kind.{Kind}
use Rattle.nt_kinds.specs.declared.kind.Kind.TheOpen.{Kind-F}
use Rattle.nt_kinds.specs.declared.kind.Kind.TheVariants as k
use Rattle.nt_kinds.specs.declared.kind.Kind.TheViews.{out-Kind}
use Rattle.nt_kinds.specs.Kinds.{span, leaves, levels, member_leaves, Equivalent, by_leaf, by_declaration, by_element}
use Rattle.nt_kinds.proofs.Opening.{out_one, out_struct, out_array, one_leaves, struct_leaves, array_leaves, leaves_array, leaves_struct, array_levels, levels_array}
use Rattle.nt_kinds.proofs.Counting.{repeated_length}

ap2 : {A B C : Type 0} (f : A → B → C) {x y : A} {v w : B} → x ≡ y → v ≡ w → f x v ≡ f y w
ap2 f {x = x} {y = y} {v = v} {w = w} e g = ap (λ a. f a v) e ∙ ap (f y) g

leaf_back : {l m : Leaf} {a b c d : ℕ} → Equivalent (Kind-F.One l a b) (Kind-F.One m c d) → l ≡ m
leaf_back (by_leaf l) = refl

pub one_alike : (r : Bool) (l m : Leaf) (x : Kind) (c d : ℕ) → x ≡ k.One m c d → (IsTrue r ↔ (l ≡ m)) → (a b : ℕ) → IsTrue r ↔ Equivalent (Kind-F.One l a b) (out-Kind x)
one_alike r l m x c d is h a b =
    let out = ap out-Kind is ∙ out_one m c d in (
      λ t. subst (λ y. Equivalent (Kind-F.One l a b) y) (sym out) (subst (λ n. Equivalent (Kind-F.One l a b) (Kind-F.One n c d)) (h.0 t) (by_leaf l)),
      λ e. h.1 (leaf_back (subst (λ y. Equivalent (Kind-F.One l a b) y) out e)),
    )

declaration_back : {p q : Place} {ms ns : List (List ℕ × Kind)} → Equivalent (Kind-F.Struct p ms) (Kind-F.Struct q ns) → (p ≡ q) × (member_leaves ms ≡ member_leaves ns)
declaration_back (by_declaration at ms ns e) = (refl, e)

pub struct_alike : (r : Bool) (p q : Place) (x : Kind) (ms ns own : List (List ℕ × Kind)) → x ≡ k.Struct q own → ns ≡ own → p ≡ q → (IsTrue r ↔ (member_leaves ms ≡ member_leaves ns)) → IsTrue r ↔ Equivalent (Kind-F.Struct p ms) (out-Kind x)
struct_alike r p q x ms ns own is same at h =
    let out = ap out-Kind is ∙ out_struct q own in (
      λ t. subst (λ y. Equivalent (Kind-F.Struct p ms) y) (sym out) (subst (λ at. Equivalent (Kind-F.Struct p ms) (Kind-F.Struct at own)) at (by_declaration p ms own (h.0 t ∙ ap member_leaves same))),
      λ e. h.1 ((declaration_back (subst (λ y. Equivalent (Kind-F.Struct p ms) y) out e)).1 ∙ ap member_leaves (sym same)),
    )

pub struct_unlike : (p q : Place) (x : Kind) (ms own : List (List ℕ × Kind)) → x ≡ k.Struct q own → (p ≡ q → ⊥) → Equivalent (Kind-F.Struct p ms) (out-Kind x) → ⊥
struct_unlike p q x ms own is ne e = ne (declaration_back (subst (λ y. Equivalent (Kind-F.Struct p ms) y) (ap out-Kind is ∙ out_struct q own) e)).0

element_back : {a b c d : ℕ} {x y : Kind} → Equivalent (Kind-F.Array a b x) (Kind-F.Array c d y) → (span a b ≡ span c d) × Equivalent (out-Kind x) (out-Kind y)
element_back (by_element e f) = (e, f)

pub array_alike : (r : Bool) (x y : Kind) (a b c d : ℕ) (v w v0 w0 : Kind) → x ≡ k.Array a b v → y ≡ k.Array c d w → v0 ≡ v → w0 ≡ w → span a b ≡ span c d → (IsTrue r ↔ Equivalent (out-Kind v0) (out-Kind w0)) → IsTrue r ↔ Equivalent (out-Kind x) (out-Kind y)
array_alike r x y a b c d v w v0 w0 is_x is_y is_v is_w e h =
    let out_x = ap out-Kind is_x ∙ out_array a b v in
    let out_y = ap out-Kind is_y ∙ out_array c d w in (
      λ t. subst (λ z. Equivalent z (out-Kind y)) (sym out_x) (subst (λ z. Equivalent (Kind-F.Array a b v) z) (sym out_y)
          (by_element e (subst (λ z. Equivalent (out-Kind z) (out-Kind w)) is_v (subst (λ z. Equivalent (out-Kind v0) (out-Kind z)) is_w (h.0 t))))),
      λ q. h.1 (
          let inner = (element_back (subst (λ z. Equivalent z (Kind-F.Array c d w)) out_x (subst (λ z. Equivalent (out-Kind x) z) out_y q))).1 in
          subst (λ z. Equivalent (out-Kind z) (out-Kind w0)) (sym is_v) (subst (λ z. Equivalent (out-Kind v) (out-Kind z)) (sym is_w) inner)
          ),
    )

pub array_unlike : (x y : Kind) (a b c d : ℕ) (v w : Kind) → x ≡ k.Array a b v → y ≡ k.Array c d w → (span a b ≡ span c d → ⊥) → Equivalent (out-Kind x) (out-Kind y) → ⊥
array_unlike x y a b c d v w is_x is_y ne q =
    ne (element_back (subst (λ z. Equivalent z (Kind-F.Array c d w)) (ap out-Kind is_x ∙ out_array a b v) (subst (λ z. Equivalent (out-Kind x) z) (ap out-Kind is_y ∙ out_array c d w) q))).0

-- ---- parts of small types are small
pub members_within : (x : Kind) (at : Place) (own ms : List (List ℕ × Kind)) → x ≡ k.Struct at own → ms ≡ own → length (leaves x) ≤ 64 → length (member_leaves ms) ≤ 64
members_within x at own ms is same le = let e = ap length (ap leaves is ∙ leaves_struct at own) in let f = ap (λ z. length (member_leaves z)) same in omega (arith, e, f, le)

at_least : (n m : ℕ) → 1 ≤ n → m ≤ n * m
at_least zero m le = elim le [ ]
at_least (suc n) m le = let e : suc n * m ≡ m + n * m = grind arith in omega (arith, e)

pub element_within : (x : Kind) (a b : ℕ) (v v0 : Kind) → x ≡ k.Array a b v → v0 ≡ v → length (leaves x) ≤ 64 → length (leaves v0) ≤ 64
element_within x a b v v0 is same le =
    let e = ap length (ap leaves is ∙ leaves_array a b v) ∙ repeated_length (span a b) (leaves v) in
    let f = ap (λ z. length (leaves z)) same in
    let g : length (leaves v) ≤ span a b * length (leaves v) = at_least (span a b) (length (leaves v)) (omega arith) in
    omega (arith, e, f, g, le)

-- ---- lists are equal item by item
item_by_item : {A : Type 0} (xs ys : List A) → length xs ≡ length ys → ((i : ℕ) → i < length xs → slice_get xs i ≡ slice_get ys i) → xs ≡ ys
item_by_item [] [] e f = refl
item_by_item [] (y ∷ ys) e f = absurd (omega (arith, e))
item_by_item (x ∷ xs) [] e f = absurd (omega (arith, e))
item_by_item (x ∷ xs) (y ∷ ys) e f =
    let g : Some x ≡ Some y = f 0 (omega arith) in
    let h : x ≡ y = cc in
    let t : xs ≡ ys = item_by_item xs ys (omega (arith, e)) (λ i lt. f (suc i) (omega arith)) in
    ap2 (λ z zs. z ∷ zs) h t

pub same_lists : (xs ys : List Leaf) (n m : ℕ) → n ≡ min (length xs) 65 → m ≡ min (length ys) 65 → length xs ≤ 64 → length ys ≤ 64 → n ≡ m
    → ((i : ℕ) → i < n → slice_get xs i ≡ slice_get ys i) → xs ≡ ys
same_lists xs ys n m e f le lf same g =
    let h : length xs ≡ n = omega (arith, e, le) in
    item_by_item xs ys (omega (arith, e, f, le, lf, same)) (λ i lt. g i (omega (arith, h, lt)))

-- ---- the laws
itself_at : (n : ℕ) (x : Kind) (y : Kind-F Kind) → out-Kind x ≡ y → levels x < n → Equivalent y y
itself_at zero x y p lt = absurd (omega arith)
itself_at (suc n) x (Kind-F.One l a b) p lt = by_leaf l
itself_at (suc n) x (Kind-F.Struct at ms) p lt = by_declaration at ms ms refl
itself_at (suc n) x (Kind-F.Array a b e) p lt = let f = array_levels x a b e p in by_element refl (itself_at n e (out-Kind e) refl (omega (arith, f, lt)))

pub equals_itself : (x : Kind) → Equivalent (out-Kind x) (out-Kind x)
equals_itself x = itself_at (suc (levels x)) x (out-Kind x) refl (omega arith)

pub back : {x y : Kind-F Kind} → Equivalent x y → Equivalent y x
back (by_leaf l) = by_leaf l
back (by_declaration at ms ns e) = by_declaration at ns ms (sym e)
back (by_element e f) = by_element (sym e) (back f)

pub through : {x y z : Kind-F Kind} → Equivalent x y → Equivalent y z → Equivalent x z
through (by_leaf l) (by_leaf m) = by_leaf l
through (by_declaration at ms ns e) (by_declaration bt ks os f) = by_declaration at ms os (e ∙ f)
through (by_element e f) (by_element g h) = by_element (e ∙ g) (through f h)

pub one_shape : {x y : Kind-F Kind} (a b : Kind) → out-Kind a ≡ x → out-Kind b ≡ y → Equivalent x y → leaves a ≡ leaves b
one_shape a b p q (by_leaf l) = one_leaves a l _ _ p ∙ sym (one_leaves b l _ _ q)
one_shape a b p q (by_declaration at ms ns e) = struct_leaves a at ms p ∙ e ∙ sym (struct_leaves b at ns q)
one_shape a b p q (by_element {a = i} {b = j} {c = m} {d = n} {x = v} {y = w} e f) =
    array_leaves a i j v p
    ∙ ap2 (λ n s. flat_map (λ s. s) (replicate n s)) e (one_shape v w refl refl f)
    ∙ sym (array_leaves b m n w q)

pub element_levels : (x : Kind) (a b : ℕ) (v v0 : Kind) → x ≡ k.Array a b v → v0 ≡ v → levels x ≡ suc (levels v0)
element_levels x a b v v0 is same = ap levels is ∙ levels_array a b v ∙ ap (λ z. suc (levels z)) (sym same)
