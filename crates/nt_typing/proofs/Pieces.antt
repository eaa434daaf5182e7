-- The shapes of what names, selects and concatenations give.
use Rattle.std.proofs.Common.{◌≡◌, ◌≤◌, ℕ, zero, suc, ◌+◌, ◌^◌, List, [], ◌∷◌, length, drop, replicate, refl, ap, sym, subst, ◌∙◌, arith}
use Rattle.std.specs.Prelude.{Bool, true, false, not, ◌&&◌, Option, Some, None, Result, Ok, Err, nat_lt, nat_le, ◌-◌, ◌==◌, if◌then◌else◌, All, max, min}
use Rattle.std.specs.Bool.{beq}
use Rattle.std.specs.List.{flat_map}
use Rattle.std.proofs.lemmas.Bool.{and_parts, ltb-true, leb-true, le-leb, lt-ltb, eqb-true}
use Rattle.std.proofs.lemmas.List.{length-append}
use Rattle.std.proofs.Math.Seq.{take-append_seam}
use Rattle.std.proofs.lemmas.List.Elements.{All-take, All-drop, All-cons, All-head}
use Rattle.nt_value.specs.Digits.{LeafValue, IsFilled, IsLeaf, is_filled}
use Rattle.nt_value.specs.Operators.{unsigned_leaf}
use Rattle.nt_value.specs.Values.{binary}
use Rattle.nt_value.proofs.Congruence.{length-binary}
use Rattle.nt_value.proofs.Filled.{filled_test}
use Rattle.nt_value.proofs.Words.{all_known-binary}
use Rattle.nt_value.specs.declared.leaf.Leaf.{Leaf}
use Rattle.nt_value.specs.declared.place.Place.{Place}
use Rattle.nt_value.specs.declared.operator.Binary.TheVariants as o
use Rattle.nt_diag.specs.declared.rule.Rule.{Rule}
use Rattle.nt_diag.specs.declared.rule.Rule.TheVariants as rule
use Rattle.nt_design.specs.Parts.{leaves_at, int_leaf, time_leaf}
use Rattle.nt_design.specs.Shapes.{Shaped, Scope as Design, on_shape, on_leaf, where_so, is_same_leaf, is_same_shape, element_shape, is_width, tree_shape}
use Rattle.nt_design.specs.declared.object.Object.TheVariants as object
use Rattle.nt_design.specs.declared.tree.Tree.{Tree}
use Rattle.nt_design.specs.declared.tree.Tree.TheVariants as t
use Rattle.nt_kinds.specs.declared.kind.Kind.{Kind}
use Rattle.nt_kinds.specs.declared.kind.Kind.TheOpen.{Kind-F}
use Rattle.nt_kinds.specs.declared.kind.Kind.TheViews.{out-Kind, roll-Kind, out-roll-Kind}
use Rattle.nt_kinds.specs.declared.kind.Kind.TheFolds.{fold-roll-Kind}
use denote.Hole.Carrier.{roll}
use Rattle.nt_typing.specs.declared.scope.Entity.{Entity}
use Rattle.nt_typing.specs.declared.scope.Entity.TheVariants as e
use Rattle.nt_typing.specs.declared.scope.Inside.{Inside}
use Rattle.nt_typing.specs.declared.scope.Inside.TheVariants as inside
use Rattle.nt_kinds.specs.Kinds.{span, leaves, leaves_step}
use Rattle.nt_typing.specs.Kinds.{leaf_in, leaf_of, plain, Found, found_from}
use Rattle.nt_typing.specs.Tables.{fitted, constant_tree, thing_of, found_member, member_in, member_of, wide, widened, number_tree, less, minus, from_top, indexed_low, part_low, part_width, digits_thing, item_in, item_of, part_in, part_of, indexed_in, indexed_of, size_of, time_in}
use Rattle.nt_typing.specs.declared.thing.Thing.{Thing}
use Rattle.nt_typing.specs.declared.thing.Thing.TheVariants.{Value as value, Many as many}
use Rattle.nt_typing.specs.Covers.{IsKind, Has}
use Rattle.nt_typing.proofs.Opened as opened
use Rattle.nt_typing.proofs.Leaves.{one_leaves, struct_leaves, array_leaves, found_part, leaf_same, shape_same, each_leaves}

pub ok_back : {A : Type 0} {x y : A} {r : Result A Rule} → r ≡ Ok x → r ≡ Ok y → x ≡ y
ok_back e f = cc

pub clash : {A : Type 0} {y : A} {r : Rule} {q : Result A Rule} → q ≡ Err r → q ≡ Ok y → ⊥
clash e f = cc

pub on_leaf_to : {B : Type 0} {s : Shaped} {l : Leaf} (go : Leaf → Option B) → s ≡ Some (l ∷ []) → on_leaf s go ≡ go l
on_leaf_to go e = ap (λ s. on_leaf s go) e

pub on_shape_to : {A B : Type 0} {s : Option A} {l : A} (go : A → Option B) → s ≡ Some l → on_shape s go ≡ go l
on_shape_to go e = ap (λ s. on_shape s go) e

pub so_to : {A : Type 0} {b : Bool} {x : A} → b ≡ true → where_so b x ≡ Some x
so_to {x = x} e = ap (λ b. where_so b x) e

-- ---- leaves
pub three : {A B C D : Type 0} (f : A → B → C → D) {a a' : A} {b b' : B} {c c' : C} → a ≡ a' → b ≡ b' → c ≡ c' → f a b c ≡ f a' b' c'
three f {a = a} {a' = a'} {b = b} {b' = b'} {c = c} {c' = c'} h i j = ap (λ a. f a b c) h ∙ (ap (λ b. f a' b c) i ∙ ap (f a' b') j)

beq_back : (a b : Bool) → beq a b ≡ true → a ≡ b
beq_back true true h = refl
beq_back false false h = refl
beq_back true false h = cc
beq_back false true h = cc

pub leaf_back : (a b : Leaf) → is_same_leaf a b ≡ true → a ≡ b
leaf_back a b h =
    let outer = and_parts (a.width == b.width) (beq a.signed b.signed && beq a.four b.four) h in
    let inner = and_parts (beq a.signed b.signed) (beq a.four b.four) outer.1 in
    three {D = Leaf} (λ width signed four. record { width = width; signed = signed; four = four })
    (eqb-true a.width b.width outer.0) (beq_back a.signed b.signed inner.0) (beq_back a.four b.four inner.1)

pub shape_back : (s r : List Leaf) → is_same_shape s r ≡ true → s ≡ r
shape_back [] [] h = refl
shape_back [] (b ∷ r) h = cc
shape_back (a ∷ s) [] h = cc
shape_back (a ∷ s) (b ∷ r) h =
    let parts = and_parts (is_same_leaf a b) (is_same_shape s r) h in
    ap (λ a. a ∷ s) (leaf_back a b parts.0) ∙ ap (λ s. b ∷ s) (shape_back s r parts.1)

pub and_both : (a b : Bool) → a ≡ true → b ≡ true → (a && b) ≡ true
and_both a b g h = cc

pub width_is : (n : ℕ) → 1 ≤ n → n ≤ 64 → is_width n ≡ true
width_is n g h = and_both (nat_lt 0 n) (nat_le n 64) (lt-ltb 0 n g) (le-leb n 64 h)

pub width_back : (n : ℕ) → is_width n ≡ true → (1 ≤ n) × (n ≤ 64)
width_back n h = let parts = and_parts (nat_lt 0 n) (nat_le n 64) h in (ltb-true 0 n parts.0, leb-true n 64 parts.1)

pub plain_leaves : (l : Leaf) → leaves (plain l) ≡ l ∷ []
unfolding roll-Kind roll leaves
plain_leaves l = fold-roll-Kind (List Leaf) leaves_step (Kind-F.One l (l.width - 1) 0)

pub plain_leaf : (l : Leaf) → leaf_of (plain l) ≡ Some l
unfolding roll-Kind roll
plain_leaf l = ap leaf_in (out-roll-Kind (Kind-F.One l (l.width - 1) 0))

pub kind_of_leaves : (k : Kind) (ls : List Leaf) → leaves k ≡ ls → length ls ≤ 64 → All IsLeaf ls → IsKind k
kind_of_leaves k ls e n v = record {
  within = subst (λ ls. length ls ≤ 64) (sym e) n;
  valid = subst (λ ls. All IsLeaf ls) (sym e) v;
}

all_none : {A : Type 0} (P : A → Type 0) → All P []
all_none P k d h = absurd (omega (arith, h))

pub plain_kind : (l : Leaf) → IsLeaf l → IsKind (plain l)
plain_kind l h = kind_of_leaves (plain l) (l ∷ []) (plain_leaves l) (omega arith) (All-cons IsLeaf l [] h (all_none IsLeaf))

pub leaf_is : (k : Kind) (l : Leaf) → IsKind k → leaf_of k ≡ Some l → IsLeaf l
leaf_is k l h e = All-head IsLeaf l [] (subst (λ ls. All IsLeaf ls) (one_leaves k l e) h.valid)

abbrev pub ThingHas : Design → Thing → Type 0
ThingHas d (value k a) = (tree_shape d a ≡ Some (leaves k)) × IsKind k
ThingHas d (many k) = (d.many ≡ Some (leaves k)) × IsKind k

module _ (d : Design) where
  pub plain_has : (l : Leaf) (a : Tree) → IsLeaf l → tree_shape d a ≡ Some (l ∷ []) → ThingHas d (value (plain l) a)
  plain_has l a h e = (e ∙ ap (λ ls. Some ls) (sym (plain_leaves l)), plain_kind l h)

  -- ---- other leaves
  pub resized : (a : Tree) (l to : Leaf) → tree_shape d a ≡ Some (l ∷ []) → IsLeaf to → tree_shape d (t.Resize a to) ≡ Some (to ∷ [])
  resized a l to e h =
      opened.resize_opened d a to ∙ (ap (λ s. on_leaf s (λ leaf. where_so (is_width to.width) (to ∷ []))) e ∙ ap (λ b. where_so b (to ∷ [])) (width_is to.width h.0 h.1))

  fitted_by : (b : Bool) (a : Tree) (l to : Leaf) → (b ≡ true → l ≡ to) → tree_shape d a ≡ Some (l ∷ []) → IsLeaf to
      → tree_shape d (if b then a else t.Resize a to) ≡ Some (to ∷ [])
  fitted_by true a l to s e h = e ∙ ap (λ l. Some (l ∷ [])) (s refl)
  fitted_by false a l to s e h = resized a l to e h

  pub fitted_has : (l to : Leaf) (a : Tree) → tree_shape d a ≡ Some (l ∷ []) → IsLeaf to → tree_shape d (fitted l to a) ≡ Some (to ∷ [])
  fitted_has l to a e h = fitted_by (is_same_leaf l to) a l to (leaf_back l to) e h

  pub constant_has : (v : LeafValue) → IsFilled v → tree_shape d (constant_tree v) ≡ Some (v.leaf ∷ [])
  constant_has v h = opened.const_shape d (v ∷ []) ∙ so_to (and_both (is_filled v) true (filled_test v h) refl)

  -- ---- digits
  wide_is : (four : Bool) → IsLeaf (wide four)
  wide_is four = (omega arith, omega arith)

  number_has : (four : Bool) (n : ℕ) → tree_shape d (number_tree four n) ≡ Some (wide four ∷ [])
  number_has four n = constant_has (record { leaf = wide four; digits = binary 64 n }) (record { long = length-binary 64 n; two = λ e. all_known-binary 64 n })

  widened_by : (b : Bool) (m : Leaf) (i : Tree) → tree_shape d i ≡ Some (m ∷ [])
      → tree_shape d (if b then fitted m (wide m.four) i else fitted (unsigned_leaf 64 m.four) (wide m.four) (fitted m (unsigned_leaf 64 m.four) i)) ≡ Some (wide m.four ∷ [])
  widened_by true m i e = fitted_has m (wide m.four) i e (wide_is m.four)
  widened_by false m i e =
      let h : IsLeaf (unsigned_leaf 64 m.four) = (omega arith, omega arith) in
      fitted_has (unsigned_leaf 64 m.four) (wide m.four) _ (fitted_has m (unsigned_leaf 64 m.four) i e h) (wide_is m.four)

  widened_has : (m : Leaf) (i : Tree) → tree_shape d i ≡ Some (m ∷ []) → tree_shape d (widened m i) ≡ Some (wide m.four ∷ [])
  widened_has m i e = widened_by m.signed m i e

  sub_has : (l : Leaf) (a b : Tree) → tree_shape d a ≡ Some (l ∷ []) → tree_shape d b ≡ Some (l ∷ []) → tree_shape d (t.Binary o.Sub a b) ≡ Some (l ∷ [])
  sub_has l a b e f =
      opened.binary_opened d o.Sub a b ∙ (on_leaf_to _ e ∙ (on_leaf_to _ f ∙ so_to (leaf_same l)))

  bit_has : (m : Leaf) (i a : Tree) (l : Leaf) → tree_shape d i ≡ Some (m ∷ []) → tree_shape d a ≡ Some (l ∷ []) → tree_shape d (t.Part i a 1) ≡ Some (unsigned_leaf 1 m.four ∷ [])
  bit_has m i a l e f = opened.part_opened d i a 1 ∙ (on_leaf_to _ e ∙ on_leaf_to _ f)

  choose_has : (p l : Leaf) (z a b : Tree) → tree_shape d z ≡ Some (p ∷ []) → tree_shape d a ≡ Some (l ∷ []) → tree_shape d b ≡ Some (l ∷ []) → tree_shape d (t.Choose z a b) ≡ Some (l ∷ [])
  choose_has p l z a b e f g =
      opened.choose_opened d z a b ∙ (on_leaf_to _ e ∙ (on_shape_to _ f ∙ (on_shape_to _ g ∙ so_to (shape_same (l ∷ [])))))

  -- ---- where digits begin
  abbrev OneLeaf : Tree → Type 0
  OneLeaf a = (l : Leaf) × (tree_shape d a ≡ Some (l ∷ []))

  guarded_by : (b : Bool) (m : Leaf) (i low : Tree) → tree_shape d i ≡ Some (m ∷ []) → tree_shape d low ≡ Some (wide m.four ∷ [])
      → OneLeaf (if b then t.Choose (t.Part i (number_tree m.four 63) 1) (number_tree m.four (2 ^ 62)) low else low)
  guarded_by true m i low e f =
      (wide m.four, choose_has (unsigned_leaf 1 m.four) (wide m.four) _ _ _ (bit_has m i (number_tree m.four 63) (wide m.four) e (number_has m.four 63)) (number_has m.four (2 ^ 62)) f)
  guarded_by false m i low e f = (wide m.four, f)

  minus_has : (wraps : Bool) (m : Leaf) (i : Tree) (down : ℕ) → tree_shape d i ≡ Some (m ∷ []) → OneLeaf (minus wraps m i down)
  minus_has wraps m i zero e = (m, e)
  minus_has wraps m i (suc down) e =
      guarded_by (wraps && (m.width == 64 && not m.signed)) m i _ e (sub_has (wide m.four) (widened m i) (number_tree m.four (suc down)) (widened_has m i e) (number_has m.four (suc down)))

  top_has : (wraps : Bool) (m : Leaf) (i : Tree) (up : ℕ) → tree_shape d i ≡ Some (m ∷ []) → OneLeaf (from_top wraps m i up)
  top_has wraps m i up e =
      guarded_by (wraps && (m.width == 64 && not m.signed)) m i _ e (sub_has (wide m.four) (number_tree m.four up) (widened m i) (number_has m.four up) (widened_has m i e))

  either : (b : Bool) (x y : Tree) → OneLeaf x → OneLeaf y → OneLeaf (if b then x else y)
  either true x y g h = g
  either false x y g h = h

  low_has : (left right : ℕ) (up : Bool) (width : ℕ) (m : Leaf) (i : Tree) → tree_shape d i ≡ Some (m ∷ []) → OneLeaf (indexed_low left right up width m i)
  low_has left right up width m i e =
      either (nat_le right left) _ _
      (either up _ _ (minus_has (nat_lt 1 width) m i right e) (minus_has false m i (right + (width - 1)) e))
      (either up _ _ (top_has (nat_lt 1 width) m i (less (suc right) width) e) (top_has false m i right e))

  digits_by : (b : Bool) (leaf : Leaf) (a low : Tree) (width : ℕ) (h : Thing) → b ≡ is_width width → tree_shape d a ≡ Some (leaf ∷ []) → OneLeaf low
      → (if b then Ok (value (plain (unsigned_leaf width leaf.four)) (t.Part a low width)) else Err rule.T2) ≡ Ok h → ThingHas d h
  digits_by true leaf a low width h w e f g =
      let l : IsLeaf (unsigned_leaf width leaf.four) = width_back width (sym w) in
      subst (ThingHas d) (ok_back refl g)
      (plain_has (unsigned_leaf width leaf.four) (t.Part a low width) l
      (opened.part_opened d a low width ∙ (on_leaf_to _ e ∙ (on_leaf_to _ f.1 ∙ so_to (sym w)))))
  digits_by false leaf a low width h w e f g = absurd (clash refl g)

  digits_has : (leaf : Leaf) (a low : Tree) (width : ℕ) (h : Thing) → tree_shape d a ≡ Some (leaf ∷ []) → OneLeaf low → digits_thing leaf a low width ≡ Ok h → ThingHas d h
  digits_has leaf a low width h e f g = digits_by (is_width width) leaf a low width h refl e f g

  -- ---- selects
  one_shape : (k : Kind) (a : Tree) (leaf : Leaf) → ThingHas d (value k a) → leaf_of k ≡ Some leaf → tree_shape d a ≡ Some (leaf ∷ [])
  one_shape k a leaf g e = g.0 ∙ ap (λ ls. Some ls) (one_leaves k leaf e)

  part_kind : (k : Kind) (ls : List Leaf) (first count : ℕ) (j : Kind) → IsKind k → leaves k ≡ ls → first + count ≤ length ls → leaves_at first count ls ≡ leaves j → count ≡ length (leaves j) → IsKind j
  part_kind k ls first count j h e n f c = record {
    within =
        let a : length ls ≤ 64 = subst (λ ls. length ls ≤ 64) e h.within in omega (arith, a, n, c);
    valid = subst (λ ls. All IsLeaf ls) f (All-take IsLeaf count (drop first ls) (All-drop IsLeaf first ls (subst (λ ls. All IsLeaf ls) e h.valid)));
  }

  found_has : (k : Kind) (a : Tree) (at : Place) (ms : List (List ℕ × Kind)) (name : List ℕ) (o : Option Found) (h : Thing) → ThingHas d (value k a) → out-Kind k ≡ Kind-F.Struct at ms
      → found_from 0 ms name ≡ o → found_member o a ≡ Ok h → ThingHas d h
  found_has k a at ms name None h g e f r = absurd (clash refl r)
  found_has k a at ms name (Some found) h g e f r =
      let p = found_part ms [] 0 name found refl f in
      let s = struct_leaves k at ms e in
      let all = flat_map (λ (m : List ℕ × Kind). leaves m.1) ms in
      subst (ThingHas d) (ok_back refl r) (
        opened.member_shape d a found.first (length (leaves found.kind))
            ∙ (on_shape_to _ (g.0 ∙ ap (λ ls. Some ls) s) ∙ (so_to (le-leb (found.first + length (leaves found.kind)) (length all) p.within) ∙ ap (λ ls. Some ls) p.is)),
        part_kind k all found.first (length (leaves found.kind)) found.kind g.1 s p.within p.is refl,
      )

  member_at : (y : Kind-F Kind) (k : Kind) (a : Tree) (name : List ℕ) (h : Thing) → ThingHas d (value k a) → out-Kind k ≡ y → member_in y a name ≡ Ok h → ThingHas d h
  member_at (Kind-F.One leaf l r) k a name h g e f = absurd (clash refl f)
  member_at (Kind-F.Struct at ms) k a name h g e f = found_has k a at ms name (found_from 0 ms name) h g e refl f
  member_at (Kind-F.Array l r element) k a name h g e f = absurd (clash refl f)

  pub member_has : (g h : Thing) (name : List ℕ) → ThingHas d g → member_of g name ≡ Ok h → ThingHas d h
  member_has (value k a) h name g f = member_at (out-Kind k) k a name h g refl f
  member_has (many k) h name g f = absurd (clash refl f)

  array_has : (k : Kind) (a i : Tree) (l r : ℕ) (element : Kind) (m : Leaf) → ThingHas d (value k a) → out-Kind k ≡ Kind-F.Array l r element → tree_shape d i ≡ Some (m ∷ [])
      → ThingHas d (value element (t.Item a i (min l r) (span l r) (nat_le l r)))
  array_has k a i l r element m g e f =
      let n = max l r - min l r in
      let s = array_leaves k l r element e in
      let all = flat_map (λ s. s) (replicate (suc n) (leaves element)) in
      let each = each_leaves n (leaves element) in
      let same : is_same_shape all (flat_map (λ s. s) (replicate (suc n) (element_shape (suc n) all))) ≡ true =
      ap (λ one. is_same_shape all (flat_map (λ s. s) (replicate (suc n) one))) each ∙ shape_same all in (
        opened.item_opened d a i (min l r) (span l r) (nat_le l r)
            ∙ (on_shape_to _ (g.0 ∙ ap (λ ls. Some ls) s) ∙ (on_leaf_to _ f ∙ (so_to (and_both (nat_lt 0 (suc n)) _ (lt-ltb 0 (suc n) (omega arith)) same) ∙ ap (λ ls. Some ls) each))),
        (let rest = flat_map (λ s. s) (replicate n (leaves element)) in
            let c = length-append (leaves element) rest in
            part_kind k all 0 (length (leaves element)) element g.1 s (omega (arith, c)) (take-append_seam (leaves element) rest) refl),
      )

  item_at : (y : Kind-F Kind) (k : Kind) (a : Tree) (m : Leaf) (i : Tree) (h : Thing) → ThingHas d (value k a) → tree_shape d i ≡ Some (m ∷ []) → out-Kind k ≡ y → item_in y a m i ≡ Ok h → ThingHas d h
  item_at (Kind-F.One leaf l r) k a m i h g e f q = digits_has leaf a (indexed_low l r true 1 m i) 1 h (one_shape k a leaf g (ap leaf_in f)) (low_has l r true 1 m i e) q
  item_at (Kind-F.Struct at ms) k a m i h g e f q = absurd (clash refl q)
  item_at (Kind-F.Array l r element) k a m i h g e f q = subst (ThingHas d) (ok_back refl q) (array_has k a i l r element m g f e)

  pub item_has : (g h : Thing) (m : Leaf) (i : Tree) → ThingHas d g → tree_shape d i ≡ Some (m ∷ []) → item_of g m i ≡ Ok h → ThingHas d h
  item_has (value k a) h m i g e f = item_at (out-Kind k) k a m i h g e refl f
  item_has (many k) h m i g e f = subst (ThingHas d) (ok_back refl f) (opened.element_opened d i ∙ (on_leaf_to _ e ∙ g.0), g.1)

  part_at : (y : Kind-F Kind) (k : Kind) (a : Tree) (l r : ℕ) (h : Thing) → ThingHas d (value k a) → out-Kind k ≡ y → part_in y a l r ≡ Ok h → ThingHas d h
  part_at (Kind-F.One leaf left right) k a l r h g f q = digits_has leaf a (number_tree false (part_low left right r)) (part_width left right l r) h (one_shape k a leaf g (ap leaf_in f)) (wide false, number_has false (part_low left right r)) q
  part_at (Kind-F.Struct at ms) k a l r h g f q = absurd (clash refl q)
  part_at (Kind-F.Array left right element) k a l r h g f q = absurd (clash refl q)

  pub part_has : (g h : Thing) (l r : ℕ) → ThingHas d g → part_of g l r ≡ Ok h → ThingHas d h
  part_has (value k a) h l r g f = part_at (out-Kind k) k a l r h g refl f
  part_has (many k) h l r g f = absurd (clash refl f)

  indexed_at : (y : Kind-F Kind) (k : Kind) (a : Tree) (up : Bool) (m : Leaf) (i : Tree) (width : ℕ) (h : Thing) → ThingHas d (value k a) → tree_shape d i ≡ Some (m ∷ []) → out-Kind k ≡ y → indexed_in y a up m i width ≡ Ok h → ThingHas d h
  indexed_at (Kind-F.One leaf l r) k a up m i width h g e f q = digits_has leaf a (indexed_low l r up width m i) width h (one_shape k a leaf g (ap leaf_in f)) (low_has l r up width m i e) q
  indexed_at (Kind-F.Struct at ms) k a up m i width h g e f q = absurd (clash refl q)
  indexed_at (Kind-F.Array l r element) k a up m i width h g e f q = absurd (clash refl q)

  pub indexed_has : (g h : Thing) (up : Bool) (m : Leaf) (i : Tree) (width : ℕ) → ThingHas d g → tree_shape d i ≡ Some (m ∷ []) → indexed_of g up m i width ≡ Ok h → ThingHas d h
  indexed_has (value k a) h up m i width g e f = indexed_at (out-Kind k) k a up m i width h g e refl f
  indexed_has (many k) h up m i width g e f = absurd (clash refl f)

  pub size_has : (g h : Thing) → ThingHas d g → size_of g ≡ Ok h → ThingHas d h
  size_has (value k a) h g f = absurd (clash refl f)
  size_has (many k) h g f = subst (ThingHas d) (ok_back refl f) (plain_has int_leaf t.Size (omega arith, omega arith) (opened.size_opened d ∙ on_shape_to _ g.0))

  pub time_has : (w : Inside) (h : Thing) → time_in w ≡ Ok h → ThingHas d h
  time_has inside.Procedure h f = subst (ThingHas d) (ok_back refl f) (plain_has time_leaf t.Time (omega arith, omega arith) (opened.time_opened d))
  time_has (inside.Function result) h f = absurd (clash refl f)
  time_has inside.Other h f = absurd (clash refl f)

  pub entity_has : (x : Entity) (h : Thing) → Has d x → thing_of (Some x) ≡ Ok h → ThingHas d h
  entity_has (e.Net net k user) h g f = subst (ThingHas d) (ok_back refl f) (opened.read_shape d (object.Net net) ∙ g.shape, g.sound)
  entity_has e.Interconnect h g f = absurd (clash refl f)
  entity_has (e.Var var k) h g f = subst (ThingHas d) (ok_back refl f) (opened.read_shape d (object.Var var) ∙ g.shape, g.sound)
  entity_has (e.Local local k) h g f = subst (ThingHas d) (ok_back refl f) (opened.local_shape d local ∙ g.shape, g.sound)
  entity_has (e.Array element) h g f = subst (ThingHas d) (ok_back refl f) g
  entity_has (e.Constant v) h g f = subst (ThingHas d) (ok_back refl f) (plain_has v.leaf (constant_tree v) g.0 (constant_has v g.1))
  entity_has (e.Function c) h g f = absurd (clash refl f)

  pub name_has : (o : Option Entity) (h : Thing) → ((x : Entity) → o ≡ Some x → Has d x) → thing_of o ≡ Ok h → ThingHas d h
  name_has None h g f = absurd (clash refl f)
  name_has (Some x) h g f = entity_has x h (g x refl) f
