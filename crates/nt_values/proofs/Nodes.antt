-- What the parts of a typed expression are, and what is known of their values.
use Rattle.std.proofs.Common.{◌≡◌, ◌≤◌, ◌<◌, ℕ, zero, suc, ◌+◌, List, [], ◌∷◌, ◌++◌, map, length, refl, ap, sym, subst, ◌∙◌, arith}
use Rattle.std.specs.List.{flat_map}
use Rattle.std.specs.Prelude.{replicate, All, Bool, true, ◌&&◌, ◌||◌, nat_lt, nat_le, Option, Some, None, Result, Ok, Err, IfOk, get_or, slice_get}
use Rattle.std.proofs.lemmas.Bool.{and_parts, ltb-true, leb-true}
use Rattle.std.proofs.lemmas.List.{length-map}
use Rattle.std.proofs.lemmas.List.Elements.{All-cons}
use denote.Hole.Carrier.{roll}
use Rattle.nt_value.specs.Digits.{IsFilled, IsLeaf, LeafValue}
use Rattle.nt_value.specs.Operators.{AreOperands, unsigned_leaf}
use Rattle.nt_value.specs.Values.{AreValuesOf, IsValueOf, shape_of}
use Rattle.nt_value.specs.declared.leaf.Leaf.{Leaf}
use Rattle.nt_value.specs.declared.operator.Binary.{Binary}
use Rattle.nt_value.specs.declared.operator.Unary.{Unary}
use Rattle.nt_design.proofs.Does.{locals_fit}
use Rattle.nt_design.proofs.Filled.{all_none}
use Rattle.nt_design.proofs.Frame.{two}
use Rattle.nt_design.proofs.Shaped.{call_back, false_is, gives_then, is_shape_back, nothing_there, on_leaf_back, on_shape_back, only_leaf, operands_back, shape_back, shaped, some_back, where_so_back}
use Rattle.nt_design.proofs.Values.{value_concat, value_gather}
use Rattle.nt_design.specs.Expressions.{Calls, World, value_of, values_of}
use Rattle.nt_design.specs.Fitting.{Gives}
use Rattle.nt_design.specs.Parts.{Value, concatenated, gathered, one, only}
use Rattle.nt_design.specs.Shapes.{Scope, Shaped, Signature, all_leaves, are_operand_leaves, are_shapes, binary_answer, call_shape, concat_leaf, concat_shape, element_shape, gather_shape, is_same_shape, is_shape, is_width, item_shape, leaves_shape, on_leaf, on_shape, one_leaf, part_shape, shape_step, signature_at, tree_shape, unary_answer, where_so}
use Rattle.nt_design.specs.Turns.{Timed, all_of, and_then}
use Rattle.nt_design.specs.declared.env.Stop.{Stop}
use Rattle.nt_design.specs.declared.tree.Tree.{Tree}
use Rattle.nt_design.specs.declared.tree.Tree.TheOpen.{Tree-F}
use Rattle.nt_design.specs.declared.tree.Tree.TheViews as view
use Rattle.nt_design.specs.declared.tree.Tree.TheViews.{roll-Tree}
use Rattle.nt_design.specs.declared.tree.Tree.TheFolds.{fold-roll-Tree}
use Rattle.nt_values.specs.Tells.{Tells}
use Rattle.nt_values.specs.Typed.{AllTyped, IsCall, Stands, Typed}

-- ---- the shape of each form
shape_leaves : (scope : Scope) (a : Tree) (first count : ℕ) → tree_shape scope (view.Leaves a first count) ≡ on_shape (tree_shape scope a) (leaves_shape first count)
unfolding roll-Tree roll
shape_leaves scope a first count = fold-roll-Tree Shaped (shape_step scope) (Tree-F.Leaves a first count)

shape_item : (scope : Scope) (a index : Tree) (low size : ℕ) (up : Bool) → tree_shape scope (view.Item a index low size up) ≡ on_shape (tree_shape scope a) (λ s. on_leaf (tree_shape scope index) (λ i. item_shape size s))
unfolding roll-Tree roll
shape_item scope a index low size up = fold-roll-Tree Shaped (shape_step scope) (Tree-F.Item a index low size up)

shape_element : (scope : Scope) (index : Tree) → tree_shape scope (view.Element index) ≡ on_leaf (tree_shape scope index) (λ i. scope.many)
unfolding roll-Tree roll
shape_element scope index = fold-roll-Tree Shaped (shape_step scope) (Tree-F.Element index)

shape_part : (scope : Scope) (a low : Tree) (width : ℕ) → tree_shape scope (view.Part a low width) ≡ on_leaf (tree_shape scope a) (λ leaf. on_leaf (tree_shape scope low) (λ i. part_shape width leaf))
unfolding roll-Tree roll
shape_part scope a low width = fold-roll-Tree Shaped (shape_step scope) (Tree-F.Part a low width)

shape_unary : (scope : Scope) (o : Unary) (a : Tree) → tree_shape scope (view.Unary o a) ≡ on_leaf (tree_shape scope a) (λ leaf. one_leaf (unary_answer o leaf))
unfolding roll-Tree roll
shape_unary scope o a = fold-roll-Tree Shaped (shape_step scope) (Tree-F.Unary o a)

shape_binary : (scope : Scope) (o : Binary) (a b : Tree) → tree_shape scope (view.Binary o a b) ≡ on_leaf (tree_shape scope a) (λ l. on_leaf (tree_shape scope b) (λ r. where_so (are_operand_leaves o l r) (binary_answer o l r ∷ [])))
unfolding roll-Tree roll
shape_binary scope o a b = fold-roll-Tree Shaped (shape_step scope) (Tree-F.Binary o a b)

shape_choose : (scope : Scope) (t a b : Tree) → tree_shape scope (view.Choose t a b) ≡ on_leaf (tree_shape scope t) (λ l. on_shape (tree_shape scope a) (λ s. on_shape (tree_shape scope b) (λ r. where_so (is_same_shape s r) s)))
unfolding roll-Tree roll
shape_choose scope t a b = fold-roll-Tree Shaped (shape_step scope) (Tree-F.Choose t a b)

shape_concat : (scope : Scope) (parts : List Tree) → tree_shape scope (view.Concat parts) ≡ concat_shape (map (tree_shape scope) parts)
unfolding roll-Tree roll
shape_concat scope parts = fold-roll-Tree Shaped (shape_step scope) (Tree-F.Concat parts)

shape_gather : (scope : Scope) (parts : List Tree) → tree_shape scope (view.Gather parts) ≡ gather_shape (map (tree_shape scope) parts)
unfolding roll-Tree roll
shape_gather scope parts = fold-roll-Tree Shaped (shape_step scope) (Tree-F.Gather parts)

shape_resize : (scope : Scope) (a : Tree) (to : Leaf) → tree_shape scope (view.Resize a to) ≡ on_leaf (tree_shape scope a) (λ leaf. where_so (is_width to.width) (to ∷ []))
unfolding roll-Tree roll
shape_resize scope a to = fold-roll-Tree Shaped (shape_step scope) (Tree-F.Resize a to)

shape_call : (scope : Scope) (f : ℕ) (args : List Tree) → tree_shape scope (view.Call f args) ≡ call_shape (signature_at scope f) (map (tree_shape scope) args)
unfolding roll-Tree roll
shape_call scope f args = fold-roll-Tree Shaped (shape_step scope) (Tree-F.Call f args)

-- a width of a leaf
width_back : (width : ℕ) → is_width width ≡ true → (1 ≤ width) × (width ≤ 64)
width_back width h =
    let p = and_parts (nat_lt 0 width) (nat_le width 64) h in
    (ltb-true 0 width p.0, leb-true width 64 p.1)

-- each of several is the first, or one of the others
either_one : (P : Tree → Type 0) (u t : Tree) (parts : List Tree) (i : ℕ) → slice_get (u ∷ parts) i ≡ Some t → P u → ((j : ℕ) → slice_get parts j ≡ Some t → P t) → P t
either_one P u t parts zero at p others = subst P (some_back u t at) p
either_one P u t parts (suc i) at p others = others i at

abbrev HasShape : Scope → Tree → Type 0
HasShape scope t = (s : List Leaf) × (tree_shape scope t ≡ Some s)

concat_each : (scope : Scope) (parts : List Tree) (leaf : Leaf) → concat_leaf (map (tree_shape scope) parts) ≡ Some leaf → (i : ℕ) (t : Tree) → slice_get parts i ≡ Some t → HasShape scope t
concat_each scope [] leaf h i t at = nothing_there t at
concat_each scope (u ∷ parts) leaf h i t at =
    let go = λ (a : Leaf). on_shape (concat_leaf (map (tree_shape scope) parts)) (λ b. Some (unsigned_leaf (a.width + b.width) (a.four || b.four))) in
    let first = on_leaf_back (tree_shape scope u) go leaf h in
    let rest = on_shape_back (concat_leaf (map (tree_shape scope) parts)) (λ b. Some (unsigned_leaf (first.0.width + b.width) (first.0.four || b.four))) leaf first.2 in
    either_one (HasShape scope) u t parts i at (first.0 ∷ [], first.1) (λ j there. concat_each scope parts rest.0 rest.1 j t there)

gather_each : (scope : Scope) (parts : List Tree) (shape : List Leaf) → all_leaves (map (tree_shape scope) parts) ≡ Some shape → (i : ℕ) (t : Tree) → slice_get parts i ≡ Some t → HasShape scope t
gather_each scope [] shape h i t at = nothing_there t at
gather_each scope (u ∷ parts) shape h i t at =
    let go = λ (a : List Leaf). on_shape (all_leaves (map (tree_shape scope) parts)) (λ b. Some (a ++ b)) in
    let first = on_shape_back (tree_shape scope u) go shape h in
    let rest = on_shape_back (all_leaves (map (tree_shape scope) parts)) (λ b. Some (first.0 ++ b)) shape first.2 in
    either_one (HasShape scope) u t parts i at (first.0, first.1) (λ j there. gather_each scope parts rest.0 rest.1 j t there)

pub args_each : (scope : Scope) (args : List Tree) (ss : List (List Leaf)) → are_shapes (map (tree_shape scope) args) ss ≡ true → (i : ℕ) (t : Tree) → slice_get args i ≡ Some t → HasShape scope t
args_each scope [] ss h i t at = nothing_there t at
args_each scope (u ∷ args) [] h i t at = false_is h
args_each scope (u ∷ args) (s ∷ ss) h i t at =
    let parts = and_parts (is_shape (tree_shape scope u) s) (are_shapes (map (tree_shape scope) args) ss) h in
    either_one (HasShape scope) u t args i at (s, is_shape_back (tree_shape scope u) s parts.0) (λ j there. args_each scope args ss parts.1 j t there)

module _ {signatures : List (Option Signature)} {calls : Calls} {world : World} {locals : List Value} where
  -- an expression in the same scope
  abbrev pub beside : (t : Tree) (typed : Typed signatures calls world locals t) (a : Tree) (s : List Leaf) → tree_shape typed.scope a ≡ Some s → Typed signatures calls world locals a
  beside t typed a s h = record { scope = typed.scope; stands = typed.stands; shape = s; is = h }

  -- a value in a scope that stands is one of its shape
  has_shape : (scope : Scope) → Stands signatures calls world locals scope → (t : Tree) (s : List Leaf) → tree_shape scope t ≡ Some s → (left : ℕ) (x : Value) (l : ℕ) → value_of calls world t locals left ≡ Some (x, l) → IsValueOf s x
  has_shape scope stands t s is left x l h =
      subst (λ (m : Timed Value). Gives m (IsValueOf s)) h
      (shaped scope calls world stands.shapes t s is locals (locals_fit scope.locals locals stands.kept) left)

  pub has : (t : Tree) (typed : Typed signatures calls world locals t) (left : ℕ) (x : Value) (l : ℕ) → value_of calls world t locals left ≡ Some (x, l) → IsValueOf typed.shape x
  has t typed left x l h = has_shape typed.scope typed.stands t typed.shape typed.is left x l h

  -- the same expression
  abbrev pub typed_as : (t u : Tree) → t ≡ u → Typed signatures calls world locals t → Typed signatures calls world locals u
  typed_as t u is typed = subst (λ t. Typed signatures calls world locals t) is typed

  pub of_leaves : (a : Tree) (first count : ℕ) → Typed signatures calls world locals (view.Leaves a first count) → Typed signatures calls world locals a
  of_leaves a first count typed =
      let p = on_shape_back (tree_shape typed.scope a) (leaves_shape first count) typed.shape (sym (shape_leaves typed.scope a first count) ∙ typed.is) in
      beside (view.Leaves a first count) typed a p.0 p.1

  pub of_item : (a index : Tree) (low size : ℕ) (up : Bool) → Typed signatures calls world locals (view.Item a index low size up) → Typed signatures calls world locals a × (Typed signatures calls world locals index × (0 < size))
  of_item a index low size up typed =
      let s = tree_shape typed.scope in
      let p = on_shape_back (s a) (λ x. on_leaf (s index) (λ i. item_shape size x)) typed.shape (sym (shape_item typed.scope a index low size up) ∙ typed.is) in
      let q = on_leaf_back (s index) (λ i. item_shape size p.0) typed.shape p.2 in
      let e = element_shape size p.0 in
      let w = where_so_back (nat_lt 0 size && is_same_shape p.0 (flat_map (λ x. x) (replicate size e))) e typed.shape q.2 in
      let both = and_parts (nat_lt 0 size) (is_same_shape p.0 (flat_map (λ x. x) (replicate size e))) w.0 in
      (beside (view.Item a index low size up) typed a p.0 p.1, (beside (view.Item a index low size up) typed index (q.0 ∷ []) q.1, ltb-true 0 size both.0))

  pub of_element : (index : Tree) → Typed signatures calls world locals (view.Element index) → Typed signatures calls world locals index
  of_element index typed =
      let p = on_leaf_back (tree_shape typed.scope index) (λ i. typed.scope.many) typed.shape (sym (shape_element typed.scope index) ∙ typed.is) in
      beside (view.Element index) typed index (p.0 ∷ []) p.1

  pub of_part : (a low : Tree) (width : ℕ) → Typed signatures calls world locals (view.Part a low width) → Typed signatures calls world locals a × (Typed signatures calls world locals low × ((1 ≤ width) × (width ≤ 64)))
  of_part a low width typed =
      let s = tree_shape typed.scope in
      let p = on_leaf_back (s a) (λ leaf. on_leaf (s low) (λ i. part_shape width leaf)) typed.shape (sym (shape_part typed.scope a low width) ∙ typed.is) in
      let q = on_leaf_back (s low) (λ i. part_shape width p.0) typed.shape p.2 in
      let w = where_so_back (is_width width) (unsigned_leaf width p.0.four ∷ []) typed.shape q.2 in
      (beside (view.Part a low width) typed a (p.0 ∷ []) p.1, (beside (view.Part a low width) typed low (q.0 ∷ []) q.1, width_back width w.0))

  pub of_unary : (o : Unary) (a : Tree) → Typed signatures calls world locals (view.Unary o a) → Typed signatures calls world locals a
  of_unary o a typed =
      let p = on_leaf_back (tree_shape typed.scope a) (λ leaf. one_leaf (unary_answer o leaf)) typed.shape (sym (shape_unary typed.scope o a) ∙ typed.is) in
      beside (view.Unary o a) typed a (p.0 ∷ []) p.1

  pub of_resize : (a : Tree) (to : Leaf) → Typed signatures calls world locals (view.Resize a to) → Typed signatures calls world locals a × IsLeaf to
  of_resize a to typed =
      let p = on_leaf_back (tree_shape typed.scope a) (λ leaf. where_so (is_width to.width) (to ∷ [])) typed.shape (sym (shape_resize typed.scope a to) ∙ typed.is) in
      (beside (view.Resize a to) typed a (p.0 ∷ []) p.1, width_back to.width (where_so_back (is_width to.width) (to ∷ []) typed.shape p.2).0)

  pub of_binary : (o : Binary) (a b : Tree) → Typed signatures calls world locals (view.Binary o a b) → Typed signatures calls world locals a × Typed signatures calls world locals b
  of_binary o a b typed =
      let s = tree_shape typed.scope in
      let go = λ (l r : Leaf). where_so (are_operand_leaves o l r) (binary_answer o l r ∷ []) in
      let p = on_leaf_back (s a) (λ l. on_leaf (s b) (go l)) typed.shape (sym (shape_binary typed.scope o a b) ∙ typed.is) in
      let q = on_leaf_back (s b) (go p.0) typed.shape p.2 in
      (beside (view.Binary o a b) typed a (p.0 ∷ []) p.1, beside (view.Binary o a b) typed b (q.0 ∷ []) q.1)

  -- the operands are of one leaf where they must be
  pub operands_are : (o : Binary) (a b : Tree) → Typed signatures calls world locals (view.Binary o a b) → (left : ℕ) (x : Value) (l : ℕ) → value_of calls world a locals left ≡ Some (x, l) → (r : Result (Value × ℕ) Stop) → Tells l (value_of calls world b locals l) r → IfOk r (λ p. AreOperands o (only x) (only p.0))
  operands_are o a b typed left x l h (Err e) t = tt
  operands_are o a b typed left x l h (Ok y) t = λ together.
      let s = tree_shape typed.scope in
      let go = λ (l r : Leaf). where_so (are_operand_leaves o l r) (binary_answer o l r ∷ []) in
      let p = on_leaf_back (s a) (λ l. on_leaf (s b) (go l)) typed.shape (sym (shape_binary typed.scope o a b) ∙ typed.is) in
      let q = on_leaf_back (s b) (go p.0) typed.shape p.2 in
      let fit = where_so_back (are_operand_leaves o p.0 q.0) (binary_answer o p.0 q.0 ∷ []) typed.shape q.2 in
      only_leaf x p.0 (has_shape typed.scope typed.stands a (p.0 ∷ []) p.1 left x l h).leaves
      ∙ (operands_back o p.0 q.0 fit.0 together
      ∙ sym (only_leaf y.0 q.0 (has_shape typed.scope typed.stands b (q.0 ∷ []) q.1 l y.0 y.1 t.0).leaves))

  pub of_choose : (t a b : Tree) → Typed signatures calls world locals (view.Choose t a b) → Typed signatures calls world locals t × (Typed signatures calls world locals a × Typed signatures calls world locals b)
  of_choose t a b typed =
      let s = tree_shape typed.scope in
      let last = λ (x y : List Leaf). where_so (is_same_shape x y) x in
      let p = on_leaf_back (s t) (λ l. on_shape (s a) (λ x. on_shape (s b) (last x))) typed.shape (sym (shape_choose typed.scope t a b) ∙ typed.is) in
      let q = on_shape_back (s a) (λ x. on_shape (s b) (last x)) typed.shape p.2 in
      let r = on_shape_back (s b) (last q.0) typed.shape q.2 in
      (beside (view.Choose t a b) typed t (p.0 ∷ []) p.1, (beside (view.Choose t a b) typed a q.0 q.1, beside (view.Choose t a b) typed b r.0 r.1))

  -- the arms are of one shape
  pub arms_are : (t a b : Tree) → Typed signatures calls world locals (view.Choose t a b) → (left : ℕ) (x : Value) (l : ℕ) → value_of calls world a locals left ≡ Some (x, l) → (r : Result (Value × ℕ) Stop) → Tells l (value_of calls world b locals l) r → IfOk r (λ p. shape_of x ≡ shape_of p.0)
  arms_are t a b typed left x l h (Err e) told = tt
  arms_are t a b typed left x l h (Ok y) told =
      let s = tree_shape typed.scope in
      let last = λ (x y : List Leaf). where_so (is_same_shape x y) x in
      let p = on_leaf_back (s t) (λ l. on_shape (s a) (λ x. on_shape (s b) (last x))) typed.shape (sym (shape_choose typed.scope t a b) ∙ typed.is) in
      let q = on_shape_back (s a) (λ x. on_shape (s b) (last x)) typed.shape p.2 in
      let r = on_shape_back (s b) (last q.0) typed.shape q.2 in
      let fit = where_so_back (is_same_shape q.0 r.0) q.0 typed.shape r.2 in
      (has_shape typed.scope typed.stands a q.0 q.1 left x l h).leaves
      ∙ (shape_back q.0 r.0 fit.0
      ∙ sym (has_shape typed.scope typed.stands b r.0 r.1 l y.0 y.1 told.0).leaves)

  -- ---- several parts
  pub of_concat : (parts : List Tree) → Typed signatures calls world locals (view.Concat parts) → AllTyped signatures calls world locals parts
  of_concat parts typed =
      let p = on_shape_back (concat_leaf (map (tree_shape typed.scope) parts)) (λ leaf. where_so (is_width leaf.width) (leaf ∷ [])) typed.shape (sym (shape_concat typed.scope parts) ∙ typed.is) in
      record { scope = typed.scope; stands = typed.stands; each = concat_each typed.scope parts p.0 p.1 }

  -- the joined leaf has a width that a leaf may have
  pub concat_is : (parts : List Tree) → Typed signatures calls world locals (view.Concat parts) → (left : ℕ) (r : Result (List Value × ℕ) Stop) → Tells left (values_of calls world parts locals left) r → IfOk r (λ p. IsLeaf (concatenated p.0).leaf)
  concat_is parts typed left (Err e) told = tt
  concat_is parts typed left (Ok vs) told =
      let p = on_shape_back (concat_leaf (map (tree_shape typed.scope) parts)) (λ leaf. where_so (is_width leaf.width) (leaf ∷ [])) typed.shape (sym (shape_concat typed.scope parts) ∙ typed.is) in
      let w = where_so_back (is_width p.0.width) (p.0 ∷ []) typed.shape p.2 in
      let gives = value_concat calls world parts locals left ∙ ap {A = Timed (List Value)} {B = Timed Value} (λ m. and_then m (λ vs l. Some (one (concatenated vs), l))) told.0 in
      let is = (has (view.Concat parts) typed left (one (concatenated vs.0)) vs.1 gives).leaves ∙ sym w.1 in
      subst IsLeaf (sym (only_leaf (one (concatenated vs.0)) p.0 is)) (width_back p.0.width w.0)

  pub of_gather : (parts : List Tree) → Typed signatures calls world locals (view.Gather parts) → AllTyped signatures calls world locals parts
  of_gather parts typed =
      let p = on_shape_back (all_leaves (map (tree_shape typed.scope) parts)) (λ shape. where_so (nat_le (length shape) 64) shape) typed.shape (sym (shape_gather typed.scope parts) ∙ typed.is) in
      record { scope = typed.scope; stands = typed.stands; each = gather_each typed.scope parts p.0 p.1 }

  -- there are at most 64 leaves
  pub gather_is : (parts : List Tree) → Typed signatures calls world locals (view.Gather parts) → (left : ℕ) (r : Result (List Value × ℕ) Stop) → Tells left (values_of calls world parts locals left) r → IfOk r (λ p. length (gathered p.0) ≤ 64)
  gather_is parts typed left (Err e) told = tt
  gather_is parts typed left (Ok vs) told =
      let p = on_shape_back (all_leaves (map (tree_shape typed.scope) parts)) (λ shape. where_so (nat_le (length shape) 64) shape) typed.shape (sym (shape_gather typed.scope parts) ∙ typed.is) in
      let w = where_so_back (nat_le (length p.0) 64) p.0 typed.shape p.2 in
      let gives = value_gather calls world parts locals left ∙ ap {A = Timed (List Value)} {B = Timed Value} (λ m. and_then m (λ vs l. Some (gathered vs, l))) told.0 in
      let is = (has (view.Gather parts) typed left (gathered vs.0) vs.1 gives).leaves ∙ sym w.1 in
      let a = length-map (gathered vs.0) (λ (v : LeafValue). v.leaf) in
      let b = ap length is in
      let few = leb-true (length p.0) 64 w.0 in
      omega (arith, a, b, few)

  pub of_call : (f : ℕ) (args : List Tree) → Typed signatures calls world locals (view.Call f args) → AllTyped signatures calls world locals args
  of_call f args typed =
      let shapes = map (tree_shape typed.scope) args in
      let p = call_back (signature_at typed.scope f) shapes typed.shape (sym (shape_call typed.scope f args) ∙ typed.is) in
      let w = where_so_back (are_shapes shapes p.0.args) p.0.result typed.shape p.2 in
      record { scope = typed.scope; stands = typed.stands; each = args_each typed.scope args p.0.args w.0 }

  -- arguments have the shapes of the function's
  pub args_have : (scope : Scope) → Stands signatures calls world locals scope → (args : List Tree) (ss : List (List Leaf)) → are_shapes (map (tree_shape scope) args) ss ≡ true → (left : ℕ) → Gives (values_of calls world args locals left) (AreValuesOf ss)
  args_have scope stands [] [] h left = record { leaves = refl; filled = all_none }
  args_have scope stands [] (s ∷ ss) h left = false_is h
  args_have scope stands (t ∷ args) [] h left = false_is h
  args_have scope stands (t ∷ args) (s ∷ ss) h left =
      let parts = and_parts (is_shape (tree_shape scope t) s) (are_shapes (map (tree_shape scope) args) ss) h in
      let ms = all_of (map (value_of calls world) args) locals in
      gives_then (value_of calls world t locals left) (λ v l. and_then (ms l) (λ vs k. Some (v ∷ vs, k))) (IsValueOf s) (AreValuesOf (s ∷ ss))
      (shaped scope calls world stands.shapes t s (is_shape_back (tree_shape scope t) s parts.0) locals (locals_fit scope.locals locals stands.kept) left)
      (λ v l p. gives_then (ms l) (λ vs k. Some (v ∷ vs, k)) (AreValuesOf ss) (AreValuesOf (s ∷ ss))
      (args_have scope stands args ss parts.1 l)
      (λ vs k q. record { leaves = two (λ x y. x ∷ y) p.leaves q.leaves; filled = All-cons (All IsFilled) v vs p.filled q.filled }))

  pub call_is : (f : ℕ) (args : List Tree) → Typed signatures calls world locals (view.Call f args) → (most left : ℕ) → left ≤ most → (r : Result (List Value × ℕ) Stop) → Tells left (values_of calls world args locals left) r → IfOk r (λ p. IsCall signatures f p.0 × (p.1 ≤ most))
  call_is f args typed most left few (Err e) told = tt
  call_is f args typed most left few (Ok vs) told =
      let shapes = map (tree_shape typed.scope) args in
      let p = call_back (signature_at typed.scope f) shapes typed.shape (sym (shape_call typed.scope f args) ∙ typed.is) in
      let w = where_so_back (are_shapes shapes p.0.args) p.0.result typed.shape p.2 in
      let have = subst (λ (m : Timed (List Value)). Gives m (AreValuesOf p.0.args)) told.0 (args_have typed.scope typed.stands args p.0.args w.0 left) in
      ((p.0, ap (λ sigs. get_or sigs f None) (sym typed.stands.functions) ∙ p.1, have), omega (arith, told.1, few))
