-- The value of an expression is one of its shape.
use Rattle.std.proofs.Common.{◌≡◌, ◌<◌, ◌≤◌, ℕ, zero, suc, ◌+◌, ◌*◌, ◌/◌, List, [], ◌∷◌, ◌++◌, map, length, take, drop, replicate, refl, ap, sym, subst, ◌∙◌, arith}
use Rattle.std.specs.Prelude.{All, Bool, true, false, not, ◌&&◌, Option, Some, None, get_or, ⊤, nat_lt, nat_le, ◌||◌, ◌-◌, ◌==◌, if◌then◌else◌, ℤ, pos, negsuc, unwrap_or}
use Rattle.std.proofs.lemmas.Bool.{and_parts, ltb-true, ltb-false, eqb-true}
use Rattle.std.proofs.lemmas.List.Elements.{All-cons, All-head, All-tail}
use Rattle.std.proofs.lemmas.List.{drop-drop, length-map, length-take-le}
use Rattle.std.proofs.Math.Seq.{take-append_seam, drop-append_seam}
use Rattle.std.proofs.Math.Nat.{div-le_self}
use Rattle.std.specs.Bool.{beq}
use Rattle.std.specs.List.{flat_map, take-map, drop-map}
use Rattle.nt_value.proofs.Filled.{all_filled_back, binary_filled, choice_filled, default_filled, one_filled, resize_filled, unary_filled}
use Rattle.nt_value.specs.Digits.{LeafValue, IsFilled, are_filled}
use Rattle.nt_value.specs.Operators.{unary_of, binary_of, resize_of, one_digit, unsigned_leaf, is_sized_together, choice_of}
use Rattle.nt_value.specs.Values.{AreValuesOf, IsValueOf, shape_of, default_value}
use Rattle.nt_value.specs.declared.leaf.Leaf.{Leaf}
use Rattle.nt_value.specs.declared.operator.Binary.{Binary}
use Rattle.nt_value.specs.declared.operator.Binary.TheVariants as op
use Rattle.nt_value.specs.declared.operator.Unary.{Unary}
use Rattle.nt_value.specs.declared.operator.Unary.TheVariants as unary
use Rattle.nt_design.proofs.Filled.{Filled, all_none, concatenated_filled, gathered_filled, int_filled, item_filled, leaves_filled, none_filled, one_all, only_filled, part_filled, time_filled}
use Rattle.nt_design.proofs.Frame.{two, three}
use Rattle.nt_design.specs.Expressions.{World, Calls, tree_step, value_of, is_decided}
use Rattle.nt_design.specs.Fitting.{Gives, HasShapes, InBounds, LocalsFit}
use Rattle.nt_design.specs.Parts.{Value, only, one, merged, concatenated, gathered, leaves_at, item_at, element_at, part_at, leaves_each, position_of, number_in, test_of, int_leaf, time_leaf}
use Rattle.nt_design.specs.Shapes.{Shaped, Scope, Signature, signature_at, on_shape, on_leaf, where_so, is_same_shape, is_same_leaf, concat_leaf, all_leaves, unary_answer, binary_answer, are_operand_leaves, element_shape, item_shape, part_shape, leaves_shape, call_shape, are_shapes, is_shape, is_width, one_leaf, tree_shape, shape_step}
use Rattle.nt_value.specs.declared.digit.Digit.{Digit}
use Rattle.nt_value.specs.declared.digit.Digit.TheVariants.{Zero, One, X, Z}
use Rattle.nt_design.specs.declared.tree.Tree.{Tree}
use Rattle.nt_design.specs.declared.tree.Tree.TheOpen.{Tree-F}
use Rattle.nt_design.specs.declared.tree.Tree.TheViews.{roll-Tree}
use Rattle.nt_design.specs.declared.tree.Tree.TheFolds.{fold-roll-Tree, ind-Tree, map-Tree}
use Rattle.nt_design.specs.Turns.{Timed, Timing, and_then, by_one, by_two, all_of, pick}

-- ---- options
pub gives_then : {A B : Type 0} (m : Timed A) (go : A → ℕ → Timed B) (P : A → Type 0) (Q : B → Type 0) → Gives m P → ((x : A) (l : ℕ) → P x → Gives (go x l) Q) → Gives (and_then m go) Q
gives_then None go P Q h next = tt
gives_then (Some p) go P Q h next = next p.0 p.1 h

abbrev IsEmpty : {A : Type 0} → Option A → Type 0
IsEmpty None = ⊤
IsEmpty (Some x) = ⊥

pub nothing_there : {A B : Type 0} (x : A) → None ≡ Some x → B
nothing_there x h = absurd (subst IsEmpty h tt)

pub some_back : {A : Type 0} (x y : A) → Some x ≡ Some y → x ≡ y
some_back x y h = ap (λ o. unwrap_or o x) h

pub on_shape_back : {A B : Type 0} (o : Option A) (go : A → Option B) (r : B) → on_shape o go ≡ Some r → (x : A) × (o ≡ Some x) × (go x ≡ Some r)
on_shape_back None go r h = nothing_there r h
on_shape_back (Some x) go r h = (x, refl, h)

pub on_leaf_back : {B : Type 0} (o : Shaped) (go : Leaf → Option B) (r : B) → on_leaf o go ≡ Some r → (a : Leaf) × (o ≡ Some (a ∷ [])) × (go a ≡ Some r)
on_leaf_back None go r h = nothing_there r h
on_leaf_back (Some []) go r h = nothing_there r h
on_leaf_back (Some (a ∷ [])) go r h = (a, refl, h)
on_leaf_back (Some (a ∷ b ∷ s)) go r h = nothing_there r h

pub where_so_back : {A : Type 0} (b : Bool) (x r : A) → where_so b x ≡ Some r → (b ≡ true) × (x ≡ r)
where_so_back true x r h = (refl, some_back x r h)
where_so_back false x r h = nothing_there r h

abbrev IsFalse : Bool → Type 0
IsFalse false = ⊤
IsFalse true = ⊥

pub false_is : {B : Type 0} → false ≡ true → B
false_is h = absurd (subst IsFalse h tt)

-- ---- values of one leaf
pub only_leaf : (v : Value) (a : Leaf) → shape_of v ≡ a ∷ [] → (only v).leaf ≡ a
only_leaf [] a h = absurd (omega (arith, ap length h))
only_leaf (x ∷ xs) a h = ap (λ leaves. get_or leaves 0 a) h

-- ---- operators
or_same : (a b : Bool) → a ≡ b → a ≡ (a || b)
or_same true b h = refl
or_same false b h = h

binary_has : (o : Binary) (a b : LeafValue) → (binary_of o a b).leaf ≡ binary_answer o a.leaf b.leaf
binary_has op.Add a b = refl
binary_has op.Sub a b = refl
binary_has op.Mul a b = refl
binary_has op.Div a b = refl
binary_has op.Rem a b = refl
binary_has op.And a b = refl
binary_has op.Or a b = refl
binary_has op.Xor a b = refl
binary_has op.Xnor a b = refl
binary_has op.Shl a b = refl
binary_has op.Shr a b = refl
binary_has op.Sshr a b = refl
binary_has op.Lt a b = refl
binary_has op.Le a b = refl
binary_has op.Gt a b = refl
binary_has op.Ge a b = refl
binary_has op.Eq a b = refl
binary_has op.Ne a b = refl
binary_has op.CaseEq a b = refl
binary_has op.CaseNe a b = refl
binary_has op.LogicalAnd a b = refl
binary_has op.LogicalOr a b = refl

unary_has : (o : Unary) (a : LeafValue) → (unary_of o a).leaf ≡ unary_answer o a.leaf
unary_has unary.Plus a = refl
unary_has unary.Minus a = refl
unary_has unary.Not a = refl
unary_has unary.LogicalNot a = refl
unary_has unary.RedAnd a = refl
unary_has unary.RedNand a = refl
unary_has unary.RedOr a = refl
unary_has unary.RedNor a = refl
unary_has unary.RedXor a = refl
unary_has unary.RedXnor a = refl

-- ---- leaves
pub default_has : (s : List Leaf) → shape_of (default_value s) ≡ s
default_has [] = refl
default_has (a ∷ s) = ap (λ rest. a ∷ rest) (default_has s)

pub leaves_has : (first count : ℕ) (v : Value) → shape_of (leaves_at first count v) ≡ leaves_at first count (shape_of v)
leaves_has first count v =
    sym (take-map (λ (x : LeafValue). x.leaf) count (drop first v)) ∙ ap (take count) (sym (drop-map (λ (x : LeafValue). x.leaf) first v))

pub append_has : (v w : Value) → shape_of (v ++ w) ≡ shape_of v ++ shape_of w
append_has [] w = refl
append_has (x ∷ v) w = ap (λ rest. x.leaf ∷ rest) (append_has v w)

-- the joined arms of a `?:` have the leaves of the first one
merged_has : (v w : Value) → is_same_shape (shape_of v) (shape_of w) ≡ true → shape_of (merged v w) ≡ shape_of v
merged_has [] w h = refl
merged_has (x ∷ v) [] h = false_is h
merged_has (x ∷ v) (y ∷ w) h = ap (λ rest. x.leaf ∷ rest) (merged_has v w (and_parts (is_same_leaf x.leaf y.leaf) (is_same_shape (shape_of v) (shape_of w)) h).1)

-- ---- equal leaves
pub beq_back : (a b : Bool) → beq a b ≡ true → a ≡ b
beq_back true true h = refl
beq_back false false h = refl
beq_back true false h = false_is h
beq_back false true h = false_is h

pub leaf_back : (a b : Leaf) → is_same_leaf a b ≡ true → a ≡ b
leaf_back a b h =
    let outer = and_parts (a.width == b.width) (beq a.signed b.signed && beq a.four b.four) h in
    let inner = and_parts (beq a.signed b.signed) (beq a.four b.four) outer.1 in
    three {D = Leaf} (λ width signed four. record { width = width; signed = signed; four = four })
    (eqb-true a.width b.width outer.0) (beq_back a.signed b.signed inner.0) (beq_back a.four b.four inner.1)

pub shape_back : (s r : List Leaf) → is_same_shape s r ≡ true → s ≡ r
shape_back [] [] h = refl
shape_back [] (b ∷ r) h = false_is h
shape_back (a ∷ s) [] h = false_is h
shape_back (a ∷ s) (b ∷ r) h =
    let parts = and_parts (is_same_leaf a b) (is_same_shape s r) h in
    two (λ x xs. x ∷ xs) (leaf_back a b parts.0) (shape_back s r parts.1)

-- operands that are sized together have one leaf
pub operands_back : (o : Binary) (a b : Leaf) → are_operand_leaves o a b ≡ true → is_sized_together o ≡ true → a ≡ b
operands_back op.Add a b h k = leaf_back a b h
operands_back op.Sub a b h k = leaf_back a b h
operands_back op.Mul a b h k = leaf_back a b h
operands_back op.Div a b h k = leaf_back a b h
operands_back op.Rem a b h k = leaf_back a b h
operands_back op.And a b h k = leaf_back a b h
operands_back op.Or a b h k = leaf_back a b h
operands_back op.Xor a b h k = leaf_back a b h
operands_back op.Xnor a b h k = leaf_back a b h
operands_back op.Shl a b h k = false_is k
operands_back op.Shr a b h k = false_is k
operands_back op.Sshr a b h k = false_is k
operands_back op.Lt a b h k = leaf_back a b h
operands_back op.Le a b h k = leaf_back a b h
operands_back op.Gt a b h k = leaf_back a b h
operands_back op.Ge a b h k = leaf_back a b h
operands_back op.Eq a b h k = leaf_back a b h
operands_back op.Ne a b h k = leaf_back a b h
operands_back op.CaseEq a b h k = leaf_back a b h
operands_back op.CaseNe a b h k = leaf_back a b h
operands_back op.LogicalAnd a b h k = false_is k
operands_back op.LogicalOr a b h k = false_is k

-- the joined arms of a `?:` have the digits of their leaves
merged_filled : (v w : Value) → Filled v → Filled w → is_same_shape (shape_of v) (shape_of w) ≡ true → Filled (merged v w)
merged_filled [] w h k same = none_filled
merged_filled (x ∷ v) [] h k same = none_filled
merged_filled (x ∷ v) (y ∷ w) h k same =
    let parts = and_parts (is_same_leaf x.leaf y.leaf) (is_same_shape (shape_of v) (shape_of w)) same in
    All-cons IsFilled (choice_of X x y) (merged v w)
    (choice_filled X x y (All-head IsFilled x v h) (All-head IsFilled y w k) (leaf_back x.leaf y.leaf parts.0))
    (merged_filled v w (All-tail IsFilled x v h) (All-tail IsFilled y w k) parts.1)

-- ---- elements
abbrev pub repeated : ℕ → List Leaf → List Leaf
repeated size e = flat_map (λ s. s) (replicate size e)

pub one_of_repeated : (size position n : ℕ) (e : List Leaf) → length e ≡ n → position < size → leaves_at (position * n) n (repeated size e) ≡ e
one_of_repeated zero position n e same h = absurd (omega (arith, h))
one_of_repeated (suc size) zero n e same h =
    ap (λ k. take n (drop k (e ++ repeated size e))) none_before
    ∙ (ap (λ k. take k (e ++ repeated size e)) (sym same) ∙ take-append_seam e (repeated size e))
  where
    none_before : 0 * n ≡ 0
    none_before = omega arith
one_of_repeated (suc size) (suc position) n e same h =
    ap (λ k. take n (drop k (e ++ repeated size e))) one_less
    ∙ (ap (take n) (sym (drop-drop (position * n) n (e ++ repeated size e)))
    ∙ (ap (λ k. take n (drop (position * n) (drop k (e ++ repeated size e)))) (sym same)
    ∙ (ap (λ l. take n (drop (position * n) l)) (drop-append_seam e (repeated size e))
    ∙ one_of_repeated size position n e same (omega (arith, h)))))
  where
    one_less : suc position * n ≡ n + position * n
    one_less = omega arith

pub not_back : (b : Bool) → not b ≡ true → b ≡ false
not_back true h = false_is h
not_back false h = refl

bounds_if : (b : Bool) (position size : ℕ) → (b ≡ true → position < size) → InBounds (if b then Some position else None) size
bounds_if true position size h = h refl
bounds_if false position size h = tt

either_below : (up : Bool) (a b size : ℕ) → a < size → b < size → (if up then a else b) < size
either_below true a b size p q = p
either_below false a b size p q = q

pub position_in : (low size : ℕ) (up : Bool) (i : Option ℤ) → InBounds (position_of low size up i) size
position_in low size up None = tt
position_in low size up (Some (negsuc i)) = tt
position_in low size up (Some (pos i)) =
    bounds_if (not (nat_lt i low) && nat_lt i (low + size)) (if up then i - low else low + (size - 1) - i) size inside
  where
    inside : (not (nat_lt i low) && nat_lt i (low + size)) ≡ true → (if up then i - low else low + (size - 1) - i) < size
    inside h =
        let parts = and_parts (not (nat_lt i low)) (nat_lt i (low + size)) h in
        let least = ltb-false i low (not_back (nat_lt i low) parts.0) in
        let most = ltb-true i (low + size) parts.1 in
        either_below up (i - low) (low + (size - 1) - i) size (omega (arith, least, most)) (omega (arith, least, most))

-- an element has the leaves of the first one
pub each_has : (size : ℕ) (v : Value) (s : List Leaf) → shape_of v ≡ s → leaves_each size v ≡ leaves_each size s
each_has size v s h = ap (λ k. k / size) (sym (length-map v (λ (x : LeafValue). x.leaf)) ∙ ap length h)

pub item_has : (size : ℕ) (position : Option ℕ) (v : Value) (s r : List Leaf) → shape_of v ≡ s → item_shape size s ≡ Some r → InBounds position size → shape_of (item_at size position v) ≡ r
item_has size None v s r h is inside =
    let parts = where_so_back (nat_lt 0 size && is_same_shape s (repeated size (element_shape size s))) (element_shape size s) r is in
    default_has (shape_of (take (leaves_each size v) v))
    ∙ (sym (take-map (λ (x : LeafValue). x.leaf) (leaves_each size v) v)
    ∙ (two take (each_has size v s h) h ∙ parts.1))
item_has size (Some position) v s r h is inside =
    let parts = where_so_back (nat_lt 0 size && is_same_shape s (repeated size (element_shape size s))) (element_shape size s) r is in
    let repeats = shape_back s (repeated size (element_shape size s)) (and_parts (nat_lt 0 size) (is_same_shape s (repeated size (element_shape size s))) parts.0).1 in
    leaves_has (position * leaves_each size v) (leaves_each size v) v
    ∙ (two (λ n l. leaves_at (position * n) n l) (each_has size v s h) (h ∙ repeats)
    ∙ (one_of_repeated size position (leaves_each size s) (element_shape size s) (length-take-le (leaves_each size s) s few) inside
    ∙ parts.1))
  where
    few : leaves_each size s ≤ length s
    few = div-le_self (length s) size

-- ---- what comes out
pub gives_one : {A B : Type 0} (f : A → B) (m : Timing A) (P : A → Type 0) (Q : B → Type 0) (locals : List Value) (left : ℕ) → Gives (m locals left) P → ((x : A) → P x → Q (f x)) → Gives (by_one f m locals left) Q
gives_one f m P Q locals left h next = gives_then (m locals left) (λ x l. Some (f x, l)) P Q h (λ x l p. next x p)

pub gives_two : {A B C : Type 0} (f : A → B → C) (m : Timing A) (n : Timing B) (P : A → Type 0) (Q : B → Type 0) (R : C → Type 0) (locals : List Value) (left : ℕ) → Gives (m locals left) P → ((l : ℕ) → Gives (n locals l) Q) → ((x : A) (y : B) → P x → Q y → R (f x y)) → Gives (by_two f m n locals left) R
gives_two f m n P Q R locals left h k next =
    gives_then (m locals left) (λ x l. and_then (n locals l) (λ y k. Some (f x y, k))) P R h
    (λ x l p. gives_then (n locals l) (λ y k. Some (f x y, k)) Q R (k l) (λ y j q. next x y p q))

pub gives_pick : {A : Type 0} (d : Digit) (m n o : Timed A) (P : A → Type 0) → Gives m P → Gives n P → Gives o P → Gives (pick d m n o) P
gives_pick Zero m n o P p q r = q
gives_pick One m n o P p q r = p
gives_pick X m n o P p q r = r
gives_pick Z m n o P p q r = r

pub call_back : (o : Option Signature) (args : List Shaped) (s : List Leaf) → call_shape o args ≡ Some s → (f : Signature) × (o ≡ Some f) × (where_so (are_shapes args f.args) f.result ≡ Some s)
call_back None args s h = nothing_there s h
call_back (Some f) args s h = (f, refl, h)

pub gives_if : {A : Type 0} (b : Bool) (m n : Timed A) (P : A → Type 0) → (b ≡ true → Gives m P) → Gives n P → Gives (if b then m else n) P
gives_if true m n P h k = h refl
gives_if false m n P h k = k

-- what `&&` and `||` answer where the left operand decides
decided_has : (o : Binary) (d : Digit) (a b : Leaf) → is_decided o d ≡ true → are_operand_leaves o a b ≡ true → unsigned_leaf 1 a.four ≡ binary_answer o a b
decided_has op.Add d a b h k = false_is h
decided_has op.Sub d a b h k = false_is h
decided_has op.Mul d a b h k = false_is h
decided_has op.Div d a b h k = false_is h
decided_has op.Rem d a b h k = false_is h
decided_has op.And d a b h k = false_is h
decided_has op.Or d a b h k = false_is h
decided_has op.Xor d a b h k = false_is h
decided_has op.Xnor d a b h k = false_is h
decided_has op.Shl d a b h k = false_is h
decided_has op.Shr d a b h k = false_is h
decided_has op.Sshr d a b h k = false_is h
decided_has op.Lt d a b h k = false_is h
decided_has op.Le d a b h k = false_is h
decided_has op.Gt d a b h k = false_is h
decided_has op.Ge d a b h k = false_is h
decided_has op.Eq d a b h k = false_is h
decided_has op.Ne d a b h k = false_is h
decided_has op.CaseEq d a b h k = false_is h
decided_has op.CaseNe d a b h k = false_is h
decided_has op.LogicalAnd d a b h k = ap (unsigned_leaf 1) (or_same a.four b.four (beq_back a.four b.four k))
decided_has op.LogicalOr d a b h k = ap (unsigned_leaf 1) (or_same a.four b.four (beq_back a.four b.four k))

-- a shape that is there and the same as another is that one
pub is_shape_back : (o : Shaped) (s : List Leaf) → is_shape o s ≡ true → o ≡ Some s
is_shape_back None s h = false_is h
is_shape_back (Some r) s h = ap (λ x. Some x) (shape_back r s h)

-- the value of an expression, by its parts
pub opened : (calls : Calls) (world : World) (x : Tree-F Tree) → value_of calls world (roll-Tree x) ≡ tree_step calls world (map-Tree Tree (Timing Value) (value_of calls world) x)
unfolding value_of
opened calls world x = fold-roll-Tree (Timing Value) (tree_step calls world) x

module _ (scope : Scope) (calls : Calls) (world : World) (fits : HasShapes scope calls world) where
  abbrev Has : Timing Value → Shaped → Type 0
  Has m o = (s : List Leaf) → o ≡ Some s → (locals : List Value) → LocalsFit scope locals → (left : ℕ) → Gives (m locals left) (IsValueOf s)

  abbrev Claim : Tree → Type 0
  Claim t = Has (value_of calls world t) (tree_shape scope t)

  abbrev Below : Type 0
  Below = (t : Tree) × Claim t

  abbrev trees : List Below → List Tree
  trees ts = map (λ (e : Below). e.0) ts

  element_has : (position : Option ℕ) → IsValueOf world.element (element_at world.element world.many position)
  element_has None = record { leaves = default_has world.element; filled = default_filled world.element }
  element_has (Some position) = fits.many position

  abbrev IsOne : Leaf → Value → Type 0
  IsOne a v = IsValueOf (a ∷ []) v

  -- values that have the digits of their leaves, and something else
  abbrev With : (List Value → Type 0) → List Value → Type 0
  With P vs = P vs × All Filled vs

  concat_has : (ts : List Below) (leaf : Leaf) → concat_leaf (map (tree_shape scope) (trees ts)) ≡ Some leaf → (locals : List Value) → LocalsFit scope locals → (left : ℕ) → Gives (all_of (map (value_of calls world) (trees ts)) locals left) (With (λ vs. (concatenated vs).leaf ≡ leaf))
  concat_has [] leaf h locals ok left = (some_back (unsigned_leaf 0 false) leaf h, all_none)
  concat_has (t ∷ ts) leaf h locals ok left =
      let first = on_leaf_back (tree_shape scope t.0) (λ a. on_shape (concat_leaf (map (tree_shape scope) (trees ts))) (λ b. Some (unsigned_leaf (a.width + b.width) (a.four || b.four)))) leaf h in
      let rest = on_shape_back (concat_leaf (map (tree_shape scope) (trees ts))) (λ b. Some (unsigned_leaf (first.0.width + b.width) (first.0.four || b.four))) leaf first.2 in
      gives_then (value_of calls world t.0 locals left) (λ v l. and_then (all_of (map (value_of calls world) (trees ts)) locals l) (λ vs k. Some (v ∷ vs, k))) (IsOne first.0) (With (λ vs. (concatenated vs).leaf ≡ leaf))
      (t.1 (first.0 ∷ []) first.1 locals ok left)
      (λ v l p. gives_then (all_of (map (value_of calls world) (trees ts)) locals l) (λ vs k. Some (v ∷ vs, k)) (With (λ vs. (concatenated vs).leaf ≡ rest.0)) (With (λ vs. (concatenated vs).leaf ≡ leaf))
      (concat_has ts rest.0 rest.1 locals ok l)
      (λ vs k q. (
        two (λ (x y : Leaf). unsigned_leaf (x.width + y.width) (x.four || y.four)) (only_leaf v first.0 p.leaves) q.0
            ∙ some_back (unsigned_leaf (first.0.width + rest.0.width) (first.0.four || rest.0.four)) leaf rest.2,
        All-cons Filled v vs p.filled q.1,
      )))

  gather_has : (ts : List Below) (s : List Leaf) → all_leaves (map (tree_shape scope) (trees ts)) ≡ Some s → (locals : List Value) → LocalsFit scope locals → (left : ℕ) → Gives (all_of (map (value_of calls world) (trees ts)) locals left) (With (λ vs. shape_of (gathered vs) ≡ s))
  gather_has [] s h locals ok left = (some_back [] s h, all_none)
  gather_has (t ∷ ts) s h locals ok left =
      let first = on_shape_back (tree_shape scope t.0) (λ a. on_shape (all_leaves (map (tree_shape scope) (trees ts))) (λ b. Some (a ++ b))) s h in
      let rest = on_shape_back (all_leaves (map (tree_shape scope) (trees ts))) (λ b. Some (first.0 ++ b)) s first.2 in
      gives_then (value_of calls world t.0 locals left) (λ v l. and_then (all_of (map (value_of calls world) (trees ts)) locals l) (λ vs k. Some (v ∷ vs, k))) (IsValueOf first.0) (With (λ vs. shape_of (gathered vs) ≡ s))
      (t.1 first.0 first.1 locals ok left)
      (λ v l p. gives_then (all_of (map (value_of calls world) (trees ts)) locals l) (λ vs k. Some (v ∷ vs, k)) (With (λ vs. shape_of (gathered vs) ≡ rest.0)) (With (λ vs. shape_of (gathered vs) ≡ s))
      (gather_has ts rest.0 rest.1 locals ok l)
      (λ vs k q. (
        append_has v (gathered vs) ∙ (two (λ x y. x ++ y) p.leaves q.0 ∙ some_back (first.0 ++ rest.0) s rest.2),
        All-cons Filled v vs p.filled q.1,
      )))

  args_have : (ts : List Below) (ss : List (List Leaf)) → are_shapes (map (tree_shape scope) (trees ts)) ss ≡ true → (locals : List Value) → LocalsFit scope locals → (left : ℕ) → Gives (all_of (map (value_of calls world) (trees ts)) locals left) (AreValuesOf ss)
  args_have [] [] h locals ok left = record { leaves = refl; filled = all_none }
  args_have [] (s ∷ ss) h locals ok left = false_is h
  args_have (t ∷ ts) [] h locals ok left = false_is h
  args_have (t ∷ ts) (s ∷ ss) h locals ok left =
      let parts = and_parts (is_shape (tree_shape scope t.0) s) (are_shapes (map (tree_shape scope) (trees ts)) ss) h in
      gives_then (value_of calls world t.0 locals left) (λ v l. and_then (all_of (map (value_of calls world) (trees ts)) locals l) (λ vs k. Some (v ∷ vs, k))) (IsValueOf s) (AreValuesOf (s ∷ ss))
      (t.1 s (is_shape_back (tree_shape scope t.0) s parts.0) locals ok left)
      (λ v l p. gives_then (all_of (map (value_of calls world) (trees ts)) locals l) (λ vs k. Some (v ∷ vs, k)) (AreValuesOf ss) (AreValuesOf (s ∷ ss))
      (args_have ts ss parts.1 locals ok l)
      (λ vs k q. record { leaves = two (λ x y. x ∷ y) p.leaves q.leaves; filled = All-cons Filled v vs p.filled q.filled }))

  abbrev Step : Tree-F Below → Type 0
  Step y = Has (tree_step calls world (map-Tree Tree (Timing Value) (value_of calls world) (map-Tree Below Tree (λ e. e.0) y))) (shape_step scope (map-Tree Tree Shaped (tree_shape scope) (map-Tree Below Tree (λ e. e.0) y)))

  step : (y : Tree-F Below) → Step y
  step (Tree-F.Const value) s h locals ok left =
      let parts = where_so_back (are_filled value) (shape_of value) s h in
      record { leaves = parts.1; filled = all_filled_back value parts.0 }
  step (Tree-F.Read o) s h locals ok left = fits.objects o s h
  step (Tree-F.Local i) s h locals ok left = ok i s h
  step (Tree-F.Leaves t first count) s h locals ok left =
      let of = on_shape_back (tree_shape scope t.0) (leaves_shape first count) s h in
      let cut = where_so_back (nat_le (first + count) (length of.0)) (leaves_at first count of.0) s of.2 in
      gives_one (leaves_at first count) (value_of calls world t.0) (IsValueOf of.0) (IsValueOf s) locals left (t.1 of.0 of.1 locals ok left)
      (λ v p. record {
        leaves = leaves_has first count v ∙ (ap (leaves_at first count) p.leaves ∙ cut.1);
        filled = leaves_filled first count v p.filled;
      })
  step (Tree-F.Item t index low size up) s h locals ok left =
      let of = on_shape_back (tree_shape scope t.0) (λ r. on_leaf (tree_shape scope index.0) (λ i. item_shape size r)) s h in
      let at = on_leaf_back (tree_shape scope index.0) (λ i. item_shape size of.0) s of.2 in
      gives_two (λ x i. item_at size (position_of low size up (number_in i)) x) (value_of calls world t.0) (value_of calls world index.0) (IsValueOf of.0) (IsOne at.0) (IsValueOf s) locals left
      (t.1 of.0 of.1 locals ok left) (index.1 (at.0 ∷ []) at.1 locals ok)
      (λ v i p q. record {
        leaves = item_has size (position_of low size up (number_in i)) v of.0 s p.leaves at.2 (position_in low size up (number_in i));
        filled = item_filled size (position_of low size up (number_in i)) v p.filled;
      })
  step (Tree-F.Element index) s h locals ok left =
      let at = on_leaf_back (tree_shape scope index.0) (λ i. scope.many) s h in
      gives_one (λ i. element_at world.element world.many (position_of 0 (length world.many) true (number_in i))) (value_of calls world index.0) (IsOne at.0) (IsValueOf s) locals left
      (index.1 (at.0 ∷ []) at.1 locals ok left)
      (λ i p. subst (λ r. IsValueOf r (element_at world.element world.many (position_of 0 (length world.many) true (number_in i)))) (fits.element s at.2) (element_has (position_of 0 (length world.many) true (number_in i))))
  step (Tree-F.Part t low width) s h locals ok left =
      let of = on_leaf_back (tree_shape scope t.0) (λ leaf. on_leaf (tree_shape scope low.0) (λ i. part_shape width leaf)) s h in
      let at = on_leaf_back (tree_shape scope low.0) (λ i. part_shape width of.0) s of.2 in
      let cut = where_so_back (is_width width) (unsigned_leaf width of.0.four ∷ []) s at.2 in
      gives_two (λ x i. one (part_at (number_in i) width (only x))) (value_of calls world t.0) (value_of calls world low.0) (IsOne of.0) (IsOne at.0) (IsValueOf s) locals left
      (t.1 (of.0 ∷ []) of.1 locals ok left) (low.1 (at.0 ∷ []) at.1 locals ok)
      (λ v i p q. record {
        leaves = ap (λ (a : Leaf). unsigned_leaf width a.four ∷ []) (only_leaf v of.0 p.leaves) ∙ cut.1;
        filled = one_all (part_at (number_in i) width (only v)) (part_filled (number_in i) width (only v) (only_filled v p.filled));
      })
  step (Tree-F.Unary o t) s h locals ok left =
      let of = on_leaf_back (tree_shape scope t.0) (λ leaf. one_leaf (unary_answer o leaf)) s h in
      gives_one (λ x. one (unary_of o (only x))) (value_of calls world t.0) (IsOne of.0) (IsValueOf s) locals left
      (t.1 (of.0 ∷ []) of.1 locals ok left)
      (λ v p. record {
        leaves = ap (λ l. l ∷ []) (unary_has o (only v) ∙ ap (unary_answer o) (only_leaf v of.0 p.leaves)) ∙ some_back (unary_answer o of.0 ∷ []) s of.2;
        filled = one_all (unary_of o (only v)) (unary_filled o (only v) (only_filled v p.filled));
      })
  step (Tree-F.Binary o t u) s h locals ok left =
      let of = on_leaf_back (tree_shape scope t.0) (λ l. on_leaf (tree_shape scope u.0) (λ r. where_so (are_operand_leaves o l r) (binary_answer o l r ∷ []))) s h in
      let at = on_leaf_back (tree_shape scope u.0) (λ r. where_so (are_operand_leaves o of.0 r) (binary_answer o of.0 r ∷ [])) s of.2 in
      let cut = where_so_back (are_operand_leaves o of.0 at.0) (binary_answer o of.0 at.0 ∷ []) s at.2 in
      gives_then (value_of calls world t.0 locals left)
      (λ x l. if is_decided o (test_of x) then Some (one (one_digit (only x).leaf.four (test_of x)), l) else and_then (value_of calls world u.0 locals l) (λ y k. Some (one (binary_of o (only x) (only y)), k)))
      (IsOne of.0) (IsValueOf s)
      (t.1 (of.0 ∷ []) of.1 locals ok left)
      (λ x l p. gives_if (is_decided o (test_of x)) (Some (one (one_digit (only x).leaf.four (test_of x)), l)) (and_then (value_of calls world u.0 locals l) (λ y k. Some (one (binary_of o (only x) (only y)), k))) (IsValueOf s)
      (λ d. record {
        leaves = ap (λ (a : Leaf). unsigned_leaf 1 a.four ∷ []) (only_leaf x of.0 p.leaves) ∙ (ap (λ l. l ∷ []) (decided_has o (test_of x) of.0 at.0 d cut.0) ∙ cut.1);
        filled = one_all (one_digit (only x).leaf.four (test_of x)) (one_filled (only x).leaf.four (test_of x));
      })
      (gives_then (value_of calls world u.0 locals l) (λ y k. Some (one (binary_of o (only x) (only y)), k)) (IsOne at.0) (IsValueOf s)
      (u.1 (at.0 ∷ []) at.1 locals ok l)
      (λ y k q. record {
        leaves = ap (λ l. l ∷ []) (binary_has o (only x) (only y) ∙ two (binary_answer o) (only_leaf x of.0 p.leaves) (only_leaf y at.0 q.leaves)) ∙ cut.1;
        filled = one_all (binary_of o (only x) (only y)) (binary_filled o (only x) (only y) (only_filled x p.filled) (only_filled y q.filled) (λ e. only_leaf x of.0 p.leaves ∙ (operands_back o of.0 at.0 cut.0 e ∙ sym (only_leaf y at.0 q.leaves))));
      })))
  step (Tree-F.Choose test t u) s h locals ok left =
      let by = on_leaf_back (tree_shape scope test.0) (λ l. on_shape (tree_shape scope t.0) (λ a. on_shape (tree_shape scope u.0) (λ b. where_so (is_same_shape a b) a))) s h in
      let of = on_shape_back (tree_shape scope t.0) (λ a. on_shape (tree_shape scope u.0) (λ b. where_so (is_same_shape a b) a)) s by.2 in
      let at = on_shape_back (tree_shape scope u.0) (λ b. where_so (is_same_shape of.0 b) of.0) s of.2 in
      let cut = where_so_back (is_same_shape of.0 at.0) of.0 s at.2 in
      gives_then (value_of calls world test.0 locals left)
      (λ x l. pick (test_of x) (value_of calls world t.0 locals l) (value_of calls world u.0 locals l) (by_two merged (value_of calls world t.0) (value_of calls world u.0) locals l))
      (IsOne by.0) (IsValueOf s)
      (test.1 (by.0 ∷ []) by.1 locals ok left)
      (λ x l p. gives_pick (test_of x) (value_of calls world t.0 locals l) (value_of calls world u.0 locals l) (by_two merged (value_of calls world t.0) (value_of calls world u.0) locals l) (IsValueOf s)
      (subst (λ r. Gives (value_of calls world t.0 locals l) (IsValueOf r)) cut.1 (t.1 of.0 of.1 locals ok l))
      (subst (λ r. Gives (value_of calls world u.0 locals l) (IsValueOf r)) (sym (shape_back of.0 at.0 cut.0) ∙ cut.1) (u.1 at.0 at.1 locals ok l))
      (gives_two merged (value_of calls world t.0) (value_of calls world u.0) (IsValueOf of.0) (IsValueOf at.0) (IsValueOf s) locals l
      (t.1 of.0 of.1 locals ok l) (u.1 at.0 at.1 locals ok)
      (λ v w q r. record {
        leaves = merged_has v w (two is_same_shape q.leaves r.leaves ∙ cut.0) ∙ (q.leaves ∙ cut.1);
        filled = merged_filled v w q.filled r.filled (two is_same_shape q.leaves r.leaves ∙ cut.0);
      })))
  step (Tree-F.Concat ts) s h locals ok left =
      let of = on_shape_back (concat_leaf (map (tree_shape scope) (trees ts))) (λ leaf. where_so (is_width leaf.width) (leaf ∷ [])) s h in
      let cut = where_so_back (is_width of.0.width) (of.0 ∷ []) s of.2 in
      gives_one (λ vs. one (concatenated vs)) (all_of (map (value_of calls world) (trees ts))) (With (λ vs. (concatenated vs).leaf ≡ of.0)) (IsValueOf s) locals left
      (concat_has ts of.0 of.1 locals ok left)
      (λ vs q. record { leaves = ap (λ l. l ∷ []) q.0 ∙ cut.1; filled = one_all (concatenated vs) (concatenated_filled vs q.1) })
  step (Tree-F.Gather ts) s h locals ok left =
      let of = on_shape_back (all_leaves (map (tree_shape scope) (trees ts))) (λ shape. where_so (nat_le (length shape) 64) shape) s h in
      let cut = where_so_back (nat_le (length of.0) 64) of.0 s of.2 in
      gives_one gathered (all_of (map (value_of calls world) (trees ts))) (With (λ vs. shape_of (gathered vs) ≡ of.0)) (IsValueOf s) locals left
      (gather_has ts of.0 of.1 locals ok left)
      (λ vs q. record { leaves = q.0 ∙ cut.1; filled = gathered_filled vs q.1 })
  step (Tree-F.Resize t to) s h locals ok left =
      let of = on_leaf_back (tree_shape scope t.0) (λ leaf. where_so (is_width to.width) (to ∷ [])) s h in
      gives_one (λ x. one (resize_of (only x) to)) (value_of calls world t.0) (IsOne of.0) (IsValueOf s) locals left
      (t.1 (of.0 ∷ []) of.1 locals ok left)
      (λ v p. record {
        leaves = (where_so_back (is_width to.width) (to ∷ []) s of.2).1;
        filled = one_all (resize_of (only v) to) (resize_filled (only v) to);
      })
  step (Tree-F.Call f ts) s h locals ok left =
      let of = call_back (signature_at scope f) (map (tree_shape scope) (trees ts)) s h in
      let cut = where_so_back (are_shapes (map (tree_shape scope) (trees ts)) of.0.args) of.0.result s of.2 in
      gives_then (all_of (map (value_of calls world) (trees ts)) locals left) (λ vs l. calls f vs l) (AreValuesOf of.0.args) (IsValueOf s)
      (args_have ts of.0.args cut.0 locals ok left)
      (λ vs l p. subst (λ r. Gives (calls f vs l) (IsValueOf r)) cut.1 (fits.results f of.0 of.1 vs l p))
  step Tree-F.Size s h locals ok left = record {
    leaves = some_back (int_leaf ∷ []) s (on_shape_back scope.many (λ r. one_leaf int_leaf) s h).2;
    filled = int_filled (length world.many);
  }
  step Tree-F.Time s h locals ok left = record { leaves = some_back (time_leaf ∷ []) s h; filled = time_filled world.time }

  rolled : (y : Tree-F Below) → Claim (roll-Tree (map-Tree Below Tree (λ e. e.0) y))
  rolled y s h locals ok left =
      let x = map-Tree Below Tree (λ e. e.0) y in
      subst (λ (m : Timing Value). Gives (m locals left) (IsValueOf s)) (sym (opened calls world x)) (step y s (sym (fold-roll-Tree Shaped (shape_step scope) x) ∙ h) locals ok left)

  all_claims : (t : Tree) → Claim t
  all_claims = ind-Tree Claim (λ x y is. subst (λ z. Claim (roll-Tree z)) is (rolled y))

-- the value of an expression is one of its shape, where the world, the locals and what functions give have theirs
pub shaped : (scope : Scope) (calls : Calls) (world : World) → HasShapes scope calls world → (t : Tree) (s : List Leaf) → tree_shape scope t ≡ Some s → (locals : List Value) → LocalsFit scope locals → (left : ℕ) → Gives (value_of calls world t locals left) (IsValueOf s)
shaped scope calls world fits t s h locals ok left = all_claims scope calls world fits t s h locals ok left
