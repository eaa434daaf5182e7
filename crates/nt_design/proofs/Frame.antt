-- The value of an expression depends only on the objects that it reads, on the moment, and on a resolver's argument.
use Rattle.std.proofs.Common.{◌≡◌, ℕ, List, [], ◌∷◌, ◌++◌, map, refl, ap, sym, subst, ◌∙◌}
use Rattle.std.specs.Prelude.{Bool, true, Some, length}
use Rattle.std.specs.List.{list_all}
use Rattle.std.proofs.lemmas.Bool.{and_parts}
use Rattle.std.proofs.lemmas.List.Folds.{list_all-append}
use Rattle.nt_value.specs.Operators.{unary_of, resize_of}
use Rattle.nt_design.specs.Expressions.{World, Calls, by_operator, by_choice, by_call, tree_step, value_of}
use Rattle.nt_design.specs.Parts.{Value, only, one, number_in, int_value, time_value, concatenated, gathered, leaves_at, position_of, item_at, element_at, part_at}
use Rattle.nt_design.specs.Reads.{reads_of, reads_step, reads_only, joined}
use Rattle.nt_design.specs.Turns.{Timing, by_one, by_two, all_of}
use Rattle.nt_design.specs.Worlds.{Alike}
use Rattle.nt_design.specs.declared.object.Object.{Object}
use Rattle.nt_design.specs.declared.tree.Tree.{Tree}
use Rattle.nt_design.specs.declared.tree.Tree.TheOpen.{Tree-F}
use Rattle.nt_design.specs.declared.tree.Tree.TheViews.{roll-Tree}
use Rattle.nt_design.specs.declared.tree.Tree.TheFolds.{fold-roll-Tree, ind-Tree, map-Tree}

-- both parts of a list pass
split : (p : Object → Bool) (xs ys : List Object) → list_all p (xs ++ ys) ≡ true → (list_all p xs ≡ true) × (list_all p ys ≡ true)
split p xs ys h = and_parts (list_all p xs) (list_all p ys) (sym (list_all-append p xs ys) ∙ h)

-- equal parts give equal wholes
pub two : {A B C : Type 0} (f : A → B → C) {x x' : A} {y y' : B} → x ≡ x' → y ≡ y' → f x y ≡ f x' y'
two f {x} {x'} {y} {y'} p q = ap (λ z. f z y) p ∙ ap (f x') q

pub three : {A B C D : Type 0} (f : A → B → C → D) {x x' : A} {y y' : B} {z z' : C} → x ≡ x' → y ≡ y' → z ≡ z' → f x y z ≡ f x' y' z'
three f {x} {x'} {y} {y'} {z} {z'} p q r = two (λ x y. f x y z) p q ∙ ap (f x' y') r

-- what an expression gives, by its parts
opened : (calls : Calls) (world : World) (x : Tree-F Tree) → value_of calls world (roll-Tree x) ≡ tree_step calls world (map-Tree Tree (Timing Value) (value_of calls world) x)
unfolding value_of
opened calls world x = fold-roll-Tree (Timing Value) (tree_step calls world) x

module _ (passes : Object → Bool) (calls : Calls) (a b : World) (alike : Alike passes a b) where
  abbrev Framed : Tree → Type 0
  Framed t = reads_only passes t ≡ true → value_of calls a t ≡ value_of calls b t

  abbrev Below : Type 0
  Below = (t : Tree) × Framed t

  -- several expressions
  all_framed : (ts : List Below) → list_all passes (joined (map reads_of (map (λ (e : Below). e.0) ts))) ≡ true → map (value_of calls a) (map (λ (e : Below). e.0) ts) ≡ map (value_of calls b) (map (λ (e : Below). e.0) ts)
  all_framed [] h = refl
  all_framed (t ∷ ts) h =
      let parts = split passes (reads_of t.0) (joined (map reads_of (map (λ (e : Below). e.0) ts))) h in
      two (λ m ms. m ∷ ms) (t.1 parts.0) (all_framed ts parts.1)

  -- one expression over framed parts
  abbrev Step : Tree-F Below → Type 0
  Step y =
      list_all passes (reads_step (map-Tree Tree (List Object) reads_of (map-Tree Below Tree (λ e. e.0) y))) ≡ true →
      tree_step calls a (map-Tree Tree (Timing Value) (value_of calls a) (map-Tree Below Tree (λ e. e.0) y))
      ≡ tree_step calls b (map-Tree Tree (Timing Value) (value_of calls b) (map-Tree Below Tree (λ e. e.0) y))

  step : (y : Tree-F Below) → Step y
  step (Tree-F.Const value) h = refl
  step (Tree-F.Read o) h =
      ap {B = Timing Value} (λ (v : Value) (locals : List Value) (left : ℕ). Some (v, left)) (alike.objects o (and_parts (passes o) true h).0)
  step (Tree-F.Local i) h = refl
  step (Tree-F.Leaves t first count) h = ap (λ m. by_one (leaves_at first count) m) (t.1 h)
  step (Tree-F.Item t index low size up) h =
      let parts = split passes (reads_of t.0) (reads_of index.0) h in
      two (λ m n. by_two (λ x i. item_at size (position_of low size up (number_in i)) x) m n) (t.1 parts.0) (index.1 parts.1)
  step (Tree-F.Element index) h =
      three (λ element many m. by_one (λ i. element_at element many (position_of 0 (length many) true (number_in i))) m) alike.element alike.many (index.1 h)
  step (Tree-F.Part t low width) h =
      let parts = split passes (reads_of t.0) (reads_of low.0) h in
      two (λ m n. by_two (λ x i. one (part_at (number_in i) width (only x))) m n) (t.1 parts.0) (low.1 parts.1)
  step (Tree-F.Unary op t) h = ap (λ m. by_one (λ x. one (unary_of op (only x))) m) (t.1 h)
  step (Tree-F.Binary op t u) h =
      let parts = split passes (reads_of t.0) (reads_of u.0) h in
      two (by_operator op) (t.1 parts.0) (u.1 parts.1)
  step (Tree-F.Choose test t u) h =
      let parts = split passes (reads_of test.0) (reads_of t.0 ++ reads_of u.0) h in
      let arms = split passes (reads_of t.0) (reads_of u.0) parts.1 in
      three by_choice (test.1 parts.0) (t.1 arms.0) (u.1 arms.1)
  step (Tree-F.Concat ts) h = ap (λ ms. by_one (λ vs. one (concatenated vs)) (all_of ms)) (all_framed ts h)
  step (Tree-F.Gather ts) h = ap (λ ms. by_one gathered (all_of ms)) (all_framed ts h)
  step (Tree-F.Resize t to) h = ap (λ m. by_one (λ x. one (resize_of (only x) to)) m) (t.1 h)
  step (Tree-F.Call f ts) h = ap (by_call calls f) (all_framed ts h)
  step Tree-F.Size h =
      ap {B = Timing Value} (λ (many : List Value) (locals : List Value) (left : ℕ). Some (int_value (length many), left)) alike.many
  step Tree-F.Time h = ap {B = Timing Value} (λ (time : ℕ) (locals : List Value) (left : ℕ). Some (time_value time, left)) alike.time

  -- an expression over framed parts is framed
  rolled : (y : Tree-F Below) → Framed (roll-Tree (map-Tree Below Tree (λ e. e.0) y))
  rolled y h =
      let x = map-Tree Below Tree (λ e. e.0) y in
      let inner = subst (λ os. list_all passes os ≡ true) (fold-roll-Tree (List Object) reads_step x) h in
      opened calls a x ∙ (step y inner ∙ sym (opened calls b x))

  framed : (t : Tree) → Framed t
  framed = ind-Tree Framed (λ x y is. subst (λ z. Framed (roll-Tree z)) is (rolled y))

-- an expression has the same value in two worlds with the same objects, as far as it reads them
pub frame : (passes : Object → Bool) (calls : Calls) (a b : World) → Alike passes a b → (t : Tree) → reads_only passes t ≡ true → value_of calls a t ≡ value_of calls b t
frame passes calls a b alike t h = framed passes calls a b alike t h
