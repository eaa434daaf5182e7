-- What the parts of a statement that fits rest on, how large they are, and that they keep the shapes of the locals.
use Rattle.std.proofs.Common.{◌≡◌, ◌<◌, ℕ, zero, suc, ◌+◌, List, [], ◌∷◌, ◌++◌, map, length, refl, ap, sym, subst, ◌∙◌, arith}
use Rattle.std.specs.Prelude.{All, Bool, true, ◌&&◌, Option, Some, None, is_some, get_or, option_map, option_to_list, slice_get}
use Rattle.std.specs.List.{flat_map, list_all}
use Rattle.std.proofs.lemmas.Bool.{and_parts}
use Rattle.std.proofs.lemmas.Option.{get_or_from_slice_get}
use Rattle.std.proofs.lemmas.List.Elements.{All-cons, All-head, All-tail}
use denote.Hole.Carrier.{roll}
use Rattle.nt_value.specs.declared.leaf.Leaf.{Leaf}
use Rattle.nt_value.specs.declared.place.Place.{Place}
use Rattle.nt_design.proofs.Shaped.{false_is, is_shape_back, nothing_there, some_back}
use Rattle.nt_design.specs.Expressions.{Calls, World}
use Rattle.nt_design.specs.Parts.{Value, int_leaf}
use Rattle.nt_design.specs.Reads.{target_trees}
use Rattle.nt_design.specs.Rules.{act_fits, arm_fits, bounds_fit, fits_step, or_true, return_fits}
use Rattle.nt_design.specs.Shapes.{Scope, Shaped, Signature, call_shape, is_both, is_leaf, is_shape, signature_at, target_shape, tree_shape}
use Rattle.nt_design.specs.Sizes.{act_size, act_size_step, acts_size, or_zero, sum_of, trees_size}
use Rattle.nt_design.specs.declared.act.Act as act
use Rattle.nt_design.specs.declared.act.Act.{Act}
use Rattle.nt_design.specs.declared.act.Act.TheOpen.{Act-F}
use Rattle.nt_design.specs.declared.act.Act.TheViews as view
use Rattle.nt_design.specs.declared.act.Act.TheViews.{roll-Act}
use Rattle.nt_design.specs.declared.act.Act.TheFolds.{fold-roll-Act}
use Rattle.nt_design.specs.declared.target.Target.{Target}
use Rattle.nt_design.specs.declared.tree.Tree.{Tree}
use Rattle.nt_values.specs.Typed.{AllTyped, Typed}
use Rattle.nt_acts.specs.Doable.{Assigned, Called, CaseDoable, EachDoable, Doable, Fits, HasShape, Returned}

-- ---- what each form asks for
fits_block : (scope : Scope) (r : Shaped) (items : List Act) (at : Place) → act_fits scope r (view.Block items at) ≡ list_all (λ b. b) (map (act_fits scope r) items)
unfolding roll-Act roll
fits_block scope r items at = fold-roll-Act Bool (fits_step scope r) (Act-F.Block items at)

fits_assign : (scope : Scope) (r : Shaped) (to : Target) (right : Tree) (at : Place) → act_fits scope r (act.Assign to right at) ≡ is_both (target_shape scope to) (tree_shape scope right)
unfolding roll-Act roll
fits_assign scope r to right at = fold-roll-Act Bool (fits_step scope r) (Act-F.Assign to right at)

fits_if : (scope : Scope) (r : Shaped) (test : Tree) (first : Act) (second : Option Act) (at : Place) → act_fits scope r (view.If test first second at) ≡ is_leaf (tree_shape scope test) && (act_fits scope r first && or_true (option_map (act_fits scope r) second))
unfolding roll-Act roll
fits_if scope r test first None at = fold-roll-Act Bool (fits_step scope r) (Act-F.If test first None at)
fits_if scope r test first (Some second) at = fold-roll-Act Bool (fits_step scope r) (Act-F.If test first (Some second) at)

fits_case : (scope : Scope) (r : Shaped) (test : Tree) (arms : List (List Tree × Act)) (other : Option Act) (at : Place) → act_fits scope r (view.Case test arms other at) ≡ is_leaf (tree_shape scope test) && (list_all (arm_fits scope (tree_shape scope test)) (map (λ arm. (arm.0, act_fits scope r arm.1)) arms) && or_true (option_map (act_fits scope r) other))
unfolding roll-Act roll
fits_case scope r test arms None at = fold-roll-Act Bool (fits_step scope r) (Act-F.Case test arms None at)
fits_case scope r test arms (Some other) at = fold-roll-Act Bool (fits_step scope r) (Act-F.Case test arms (Some other) at)

fits_while : (scope : Scope) (r : Shaped) (test : Tree) (body : Act) (at : Place) → act_fits scope r (view.While test body at) ≡ is_leaf (tree_shape scope test) && act_fits scope r body
unfolding roll-Act roll
fits_while scope r test body at = fold-roll-Act Bool (fits_step scope r) (Act-F.While test body at)

fits_repeat : (scope : Scope) (r : Shaped) (count : Tree) (body : Act) (at : Place) → act_fits scope r (view.Repeat count body at) ≡ is_leaf (tree_shape scope count) && act_fits scope r body
unfolding roll-Act roll
fits_repeat scope r count body at = fold-roll-Act Bool (fits_step scope r) (Act-F.Repeat count body at)

fits_for : (scope : Scope) (r : Shaped) (fresh : Bool) (to : Target) (first test : Tree) (step body : Act) (at : Place) → act_fits scope r (view.For fresh to first test step body at) ≡ is_both (target_shape scope to) (tree_shape scope first) && (is_leaf (tree_shape scope test) && (act_fits scope r step && act_fits scope r body))
unfolding roll-Act roll
fits_for scope r fresh to first test step body at = fold-roll-Act Bool (fits_step scope r) (Act-F.For fresh to first test step body at)

fits_forever : (scope : Scope) (r : Shaped) (body : Act) (at : Place) → act_fits scope r (view.Forever body at) ≡ act_fits scope r body
unfolding roll-Act roll
fits_forever scope r body at = fold-roll-Act Bool (fits_step scope r) (Act-F.Forever body at)

fits_foreach : (scope : Scope) (r : Shaped) (bounds : Option (ℕ × ℕ)) (i : ℕ) (body : Act) (at : Place) → act_fits scope r (view.Foreach bounds i body at) ≡ bounds_fit bounds scope.many && (is_shape (slice_get scope.locals i) (int_leaf ∷ []) && act_fits scope r body)
unfolding roll-Act roll
fits_foreach scope r bounds i body at = fold-roll-Act Bool (fits_step scope r) (Act-F.Foreach bounds i body at)

fits_return : (scope : Scope) (r : Shaped) (value : Option Tree) (at : Place) → act_fits scope r (act.Return value at) ≡ return_fits scope r value
unfolding roll-Act roll
fits_return scope r value at = fold-roll-Act Bool (fits_step scope r) (Act-F.Return value at)

fits_call : (scope : Scope) (r : Shaped) (f : ℕ) (args : List Tree) (at : Place) → act_fits scope r (act.Call f args at) ≡ is_some (call_shape (signature_at scope f) (map (tree_shape scope) args))
unfolding roll-Act roll
fits_call scope r f args at = fold-roll-Act Bool (fits_step scope r) (Act-F.Call f args at)

-- ---- how large each form is
pub size_block : (items : List Act) (at : Place) → act_size (view.Block items at) ≡ suc (suc (1 + acts_size items))
unfolding act_size roll-Act roll
size_block items at = fold-roll-Act ℕ act_size_step (Act-F.Block items at)

pub size_if : (test : Tree) (first : Act) (second : Option Act) (at : Place) → act_size (view.If test first second at) ≡ suc (suc (trees_size (test ∷ []) + (act_size first + or_zero (option_map act_size second))))
unfolding act_size roll-Act roll
size_if test first None at = fold-roll-Act ℕ act_size_step (Act-F.If test first None at)
size_if test first (Some second) at = fold-roll-Act ℕ act_size_step (Act-F.If test first (Some second) at)

abbrev pub arms_size : List (List Tree × Act) → ℕ
arms_size arms = sum_of (map (λ arm. act_size arm.1) arms)

pub size_while : (test : Tree) (body : Act) (at : Place) → act_size (view.While test body at) ≡ suc (suc (trees_size (test ∷ []) + act_size body))
unfolding act_size roll-Act roll
size_while test body at = fold-roll-Act ℕ act_size_step (Act-F.While test body at)

pub size_repeat : (count : Tree) (body : Act) (at : Place) → act_size (view.Repeat count body at) ≡ suc (suc (trees_size (count ∷ []) + act_size body))
unfolding act_size roll-Act roll
size_repeat count body at = fold-roll-Act ℕ act_size_step (Act-F.Repeat count body at)

pub size_forever : (body : Act) (at : Place) → act_size (view.Forever body at) ≡ suc (suc (1 + act_size body))
unfolding act_size roll-Act roll
size_forever body at = fold-roll-Act ℕ act_size_step (Act-F.Forever body at)

pub size_foreach : (bounds : Option (ℕ × ℕ)) (i : ℕ) (body : Act) (at : Place) → act_size (view.Foreach bounds i body at) ≡ suc (suc (1 + act_size body))
unfolding act_size roll-Act roll
size_foreach bounds i body at = fold-roll-Act ℕ act_size_step (Act-F.Foreach bounds i body at)

pub size_for : (fresh : Bool) (to : Target) (first test : Tree) (step body : Act) (at : Place) → act_size (view.For fresh to first test step body at) ≡ suc (suc (trees_size (target_trees to ++ first ∷ test ∷ []) + (act_size step + act_size body)))
unfolding act_size roll-Act roll
size_for fresh to first test step body at = fold-roll-Act ℕ act_size_step (Act-F.For fresh to first test step body at)

pub size_case : (test : Tree) (arms : List (List Tree × Act)) (other : Option Act) (at : Place) → act_size (view.Case test arms other at) ≡ suc (suc (trees_size (test ∷ flat_map (λ (arm : List Tree × ℕ). arm.0) (map (λ arm. (arm.0, act_size arm.1)) arms)) + (sum_of (map (λ (arm : List Tree × ℕ). arm.1) (map (λ arm. (arm.0, act_size arm.1)) arms)) + or_zero (option_map act_size other))))
unfolding act_size roll-Act roll
size_case test arms None at = fold-roll-Act ℕ act_size_step (Act-F.Case test arms None at)
size_case test arms (Some other) at = fold-roll-Act ℕ act_size_step (Act-F.Case test arms (Some other) at)

-- ---- lists
no_trees : (scope : Scope) → All (HasShape scope) []
no_trees scope = λ k d h. absurd (omega (arith, h))

no_acts : (scope : Scope) (result : Shaped) → All (Fits scope result) []
no_acts scope result = λ k d h. absurd (omega (arith, h))

all_fit : (scope : Scope) (result : Shaped) (items : List Act) → list_all (λ b. b) (map (act_fits scope result) items) ≡ true → All (Fits scope result) items
all_fit scope result [] h = (no_acts scope result)
all_fit scope result (a ∷ items) h =
    let parts = and_parts (act_fits scope result a) (list_all (λ b. b) (map (act_fits scope result) items)) h in
    All-cons (Fits scope result) a items parts.0 (all_fit scope result items parts.1)

maybe_fits : (scope : Scope) (result : Shaped) (a : Option Act) → or_true (option_map (act_fits scope result) a) ≡ true → All (Fits scope result) (option_to_list a)
maybe_fits scope result None h = (no_acts scope result)
maybe_fits scope result (Some a) h = All-cons (Fits scope result) a [] h (no_acts scope result)

leaf_there : (o : Shaped) → is_leaf o ≡ true → (s : List Leaf) × (o ≡ Some s)
leaf_there None h = false_is h
leaf_there (Some s) h = (s, refl)

like_test : (shape : List Leaf) (test o : Shaped) → test ≡ Some shape → is_both test o ≡ true → o ≡ Some shape
like_test shape test o is h = is_shape_back o shape (sym (ap (λ t. is_both t o) is) ∙ h)

items_like : (scope : Scope) (shape : List Leaf) (test : Shaped) (items : List Tree) → test ≡ Some shape → list_all (λ item. is_both test (tree_shape scope item)) items ≡ true → All (λ item. tree_shape scope item ≡ Some shape) items
items_like scope shape test [] is h = λ k d low. absurd (omega (arith, low))
items_like scope shape test (t ∷ items) is h =
    let parts = and_parts (is_both test (tree_shape scope t)) (list_all (λ item. is_both test (tree_shape scope item)) items) h in
    All-cons (λ item. tree_shape scope item ≡ Some shape) t items (like_test shape test (tree_shape scope t) is parts.0) (items_like scope shape test items is parts.1)

abbrev ArmLike : Scope → List Leaf → List Tree × Act → Type 0
ArmLike scope shape arm = All (λ item. tree_shape scope item ≡ Some shape) arm.0

abbrev ArmFits : Scope → Shaped → List Tree × Act → Type 0
ArmFits scope result arm = Fits scope result arm.1

arms_like : (scope : Scope) (result : Shaped) (shape : List Leaf) (test : Shaped) (arms : List (List Tree × Act)) → test ≡ Some shape → list_all (arm_fits scope test) (map (λ (arm : List Tree × Act). (arm.0, act_fits scope result arm.1)) arms) ≡ true → All (ArmLike scope shape) arms × All (ArmFits scope result) arms
arms_like scope result shape test [] is h = (λ k d low. absurd (omega (arith, low)), λ k d low. absurd (omega (arith, low)))
arms_like scope result shape test (arm ∷ arms) is h =
    let parts = and_parts (arm_fits scope test (arm.0, act_fits scope result arm.1)) (list_all (arm_fits scope test) (map (λ (arm : List Tree × Act). (arm.0, act_fits scope result arm.1)) arms)) h in
    let own = and_parts (list_all (λ item. is_both test (tree_shape scope item)) arm.0) (act_fits scope result arm.1) parts.0 in
    let rest = arms_like scope result shape test arms is parts.1 in
    (All-cons (ArmLike scope shape) arm arms (items_like scope shape test arm.0 is own.0) rest.0, All-cons (ArmFits scope result) arm arms own.1 rest.1)

pub got_or : {A : Type 0} (xs : List A) (i : ℕ) (x : A) → slice_get xs i ≡ Some x → get_or xs i x ≡ x
got_or xs i x at = get_or_from_slice_get xs i x x at

pub there : {A : Type 0} (xs : List A) (i : ℕ) (x : A) → slice_get xs i ≡ Some x → i < length xs
there [] i x h = nothing_there x h
there (y ∷ xs) zero x h = omega arith
there (y ∷ xs) (suc i) x h = omega (arith, there xs i x h)

-- ---- parts
module _ {signatures : List (Option Signature)} {calls : Calls} {world : World} {name : ℕ} {locals : List Value} where
  fit_of : (a : Act) (h : Doable signatures calls world name locals [] (a ∷ [])) → act_fits h.scope h.result a ≡ true
  fit_of a h = All-head (Fits h.scope h.result) a [] h.fit

  abbrev with_parts : {trees trees' : List Tree} {acts acts' : List Act} (h : Doable signatures calls world name locals trees acts) → All (HasShape h.scope) trees' → All (Fits h.scope h.result) acts' → Doable signatures calls world name locals trees' acts'
  with_parts h typed fit = record { scope = h.scope; result = h.result; stands = h.stands; named = h.named; typed = typed; fit = fit }

  -- the same statement
  abbrev pub doable_as : (a b : Act) → a ≡ b → Doable signatures calls world name locals [] (a ∷ []) → Doable signatures calls world name locals [] (b ∷ [])
  doable_as a b is h = subst (λ a. Doable signatures calls world name locals [] (a ∷ [])) is h

  pub in_block : (items : List Act) (at : Place) → Doable signatures calls world name locals [] (view.Block items at ∷ []) → Doable signatures calls world name locals [] items
  in_block items at h =
      with_parts h (no_trees h.scope) (all_fit h.scope h.result items (sym (fits_block h.scope h.result items at) ∙ fit_of (view.Block items at) h))

  pub in_assign : (to : Target) (right : Tree) (at : Place) → Doable signatures calls world name locals [] (act.Assign to right at ∷ []) → Assigned signatures calls world locals to right
  in_assign to right at h =
      record { scope = h.scope; stands = h.stands; same = sym (fits_assign h.scope h.result to right at) ∙ fit_of (act.Assign to right at) h }

  pub in_if : (test : Tree) (first : Act) (second : Option Act) (at : Place) → Doable signatures calls world name locals [] (view.If test first second at ∷ []) → Doable signatures calls world name locals (test ∷ []) (first ∷ option_to_list second)
  in_if test first second at h =
      let fit = act_fits h.scope h.result in
      let p = and_parts (is_leaf (tree_shape h.scope test)) (fit first && or_true (option_map fit second)) (sym (fits_if h.scope h.result test first second at) ∙ fit_of (view.If test first second at) h) in
      let q = and_parts (fit first) (or_true (option_map fit second)) p.1 in
      with_parts h (All-cons (HasShape h.scope) test [] (leaf_there (tree_shape h.scope test) p.0) (no_trees h.scope))
      (All-cons (Fits h.scope h.result) first (option_to_list second) q.0 (maybe_fits h.scope h.result second q.1))

  pub in_case : (test : Tree) (arms : List (List Tree × Act)) (other : Option Act) (at : Place) → Doable signatures calls world name locals [] (view.Case test arms other at ∷ []) → CaseDoable signatures calls world name locals test arms other
  in_case test arms other at h =
      let fit = act_fits h.scope h.result in
      let all = list_all (arm_fits h.scope (tree_shape h.scope test)) (map (λ (arm : List Tree × Act). (arm.0, fit arm.1)) arms) in
      let p = and_parts (is_leaf (tree_shape h.scope test)) (all && or_true (option_map fit other)) (sym (fits_case h.scope h.result test arms other at) ∙ fit_of (view.Case test arms other at) h) in
      let q = and_parts all (or_true (option_map fit other)) p.1 in
      let shape = leaf_there (tree_shape h.scope test) p.0 in
      let both = arms_like h.scope h.result shape.0 (tree_shape h.scope test) arms shape.1 q.0 in
      record {
        scope = h.scope;
        result = h.result;
        stands = h.stands;
        named = h.named;
        shape = shape.0;
        typed = shape.1;
        items = both.0;
        arms_fit = both.1;
        other_fits = maybe_fits h.scope h.result other q.1;
      }

  pub in_while : (test : Tree) (body : Act) (at : Place) → Doable signatures calls world name locals [] (view.While test body at ∷ []) → Doable signatures calls world name locals (test ∷ []) (body ∷ [])
  in_while test body at h =
      let p = and_parts (is_leaf (tree_shape h.scope test)) (act_fits h.scope h.result body) (sym (fits_while h.scope h.result test body at) ∙ fit_of (view.While test body at) h) in
      with_parts h (All-cons (HasShape h.scope) test [] (leaf_there (tree_shape h.scope test) p.0) (no_trees h.scope)) (All-cons (Fits h.scope h.result) body [] p.1 (no_acts h.scope h.result))

  pub in_repeat : (count : Tree) (body : Act) (at : Place) → Doable signatures calls world name locals [] (view.Repeat count body at ∷ []) → Doable signatures calls world name locals (count ∷ []) (body ∷ [])
  in_repeat count body at h =
      let p = and_parts (is_leaf (tree_shape h.scope count)) (act_fits h.scope h.result body) (sym (fits_repeat h.scope h.result count body at) ∙ fit_of (view.Repeat count body at) h) in
      with_parts h (All-cons (HasShape h.scope) count [] (leaf_there (tree_shape h.scope count) p.0) (no_trees h.scope)) (All-cons (Fits h.scope h.result) body [] p.1 (no_acts h.scope h.result))

  pub in_forever : (body : Act) (at : Place) → Doable signatures calls world name locals [] (view.Forever body at ∷ []) → Doable signatures calls world name locals [] (body ∷ [])
  in_forever body at h =
      with_parts h (no_trees h.scope) (All-cons (Fits h.scope h.result) body [] (sym (fits_forever h.scope h.result body at) ∙ fit_of (view.Forever body at) h) (no_acts h.scope h.result))

  pub in_for : (fresh : Bool) (to : Target) (first test : Tree) (next body : Act) (at : Place) → Doable signatures calls world name locals [] (view.For fresh to first test next body at ∷ []) → Doable signatures calls world name locals (test ∷ []) (body ∷ next ∷ [])
  in_for fresh to first test next body at h =
      let fit = act_fits h.scope h.result in
      let p = and_parts (is_both (target_shape h.scope to) (tree_shape h.scope first)) (is_leaf (tree_shape h.scope test) && (fit next && fit body)) (sym (fits_for h.scope h.result fresh to first test next body at) ∙ fit_of (view.For fresh to first test next body at) h) in
      let q = and_parts (is_leaf (tree_shape h.scope test)) (fit next && fit body) p.1 in
      let r = and_parts (fit next) (fit body) q.1 in
      with_parts h (All-cons (HasShape h.scope) test [] (leaf_there (tree_shape h.scope test) q.0) (no_trees h.scope))
      (All-cons (Fits h.scope h.result) body (next ∷ []) r.1 (All-cons (Fits h.scope h.result) next [] r.0 (no_acts h.scope h.result)))

  -- the first assignment of a `for`, as a statement
  pub for_first : (fresh : Bool) (to : Target) (first test : Tree) (next body : Act) (at : Place) → Doable signatures calls world name locals [] (view.For fresh to first test next body at ∷ []) → Doable signatures calls world name locals [] (act.Assign to first at ∷ [])
  for_first fresh to first test next body at h =
      let fit = act_fits h.scope h.result in
      let p = and_parts (is_both (target_shape h.scope to) (tree_shape h.scope first)) (is_leaf (tree_shape h.scope test) && (fit next && fit body)) (sym (fits_for h.scope h.result fresh to first test next body at) ∙ fit_of (view.For fresh to first test next body at) h) in
      with_parts h (no_trees h.scope) (All-cons (Fits h.scope h.result) (act.Assign to first at) [] (fits_assign h.scope h.result to first at ∙ p.0) (no_acts h.scope h.result))

  pub in_foreach : (bounds : Option (ℕ × ℕ)) (i : ℕ) (body : Act) (at : Place) → Doable signatures calls world name locals [] (view.Foreach bounds i body at ∷ []) → EachDoable signatures calls world name locals i body
  in_foreach bounds i body at h =
      let fit = act_fits h.scope h.result in
      let p = and_parts (bounds_fit bounds h.scope.many) (is_shape (slice_get h.scope.locals i) (int_leaf ∷ []) && fit body) (sym (fits_foreach h.scope h.result bounds i body at) ∙ fit_of (view.Foreach bounds i body at) h) in
      let q = and_parts (is_shape (slice_get h.scope.locals i) (int_leaf ∷ [])) (fit body) p.1 in
      record {
        doable = with_parts h (no_trees h.scope) (All-cons (Fits h.scope h.result) body [] q.1 (no_acts h.scope h.result));
        counts = is_shape_back (slice_get h.scope.locals i) (int_leaf ∷ []) q.0;
      }

  pub in_return : (value : Option Tree) (at : Place) → Doable signatures calls world name locals [] (act.Return value at ∷ []) → Returned signatures calls world locals value
  in_return value at h =
      record { scope = h.scope; stands = h.stands; typed = λ tree is. of_value h.result value tree is (sym (fits_return h.scope h.result value at) ∙ fit_of (act.Return value at) h) }
    where
      of_value : (result : Shaped) (value : Option Tree) (tree : Tree) → value ≡ Some tree → return_fits h.scope result value ≡ true → (shape : List Leaf) × (tree_shape h.scope tree ≡ Some shape)
      of_value result None tree is fits = nothing_there tree is
      of_value None (Some v) tree is fits = false_is fits
      of_value (Some shape) (Some v) tree is fits = (shape, ap (tree_shape h.scope) (sym (some_back v tree is)) ∙ is_shape_back (tree_shape h.scope v) shape fits)

  pub in_call : (f : ℕ) (args : List Tree) (at : Place) → Doable signatures calls world name locals [] (act.Call f args at ∷ []) → Called signatures calls world locals f args
  in_call f args at h =
      record { scope = h.scope; stands = h.stands; fits = sym (fits_call h.scope h.result f args at) ∙ fit_of (act.Call f args at) h }

  -- ---- the expressions and statements one by one
  pub test_typed : (test : Tree) (acts : List Act) → Doable signatures calls world name locals (test ∷ []) acts → Typed signatures calls world locals test
  test_typed test acts h =
      let is = All-head (HasShape h.scope) test [] h.typed in
      record { scope = h.scope; stands = h.stands; shape = is.0; is = is.1 }

  pub tests_typed : (trees : List Tree) (acts : List Act) → Doable signatures calls world name locals trees acts → AllTyped signatures calls world locals trees
  tests_typed trees acts h =
      record { scope = h.scope; stands = h.stands; each = λ i t at. subst (HasShape h.scope) (got_or trees i t at) (h.typed i t (there trees i t at)) }

  pub first_act : (trees : List Tree) (a : Act) (acts : List Act) → Doable signatures calls world name locals trees (a ∷ acts) → Doable signatures calls world name locals [] (a ∷ [])
  first_act trees a acts h = with_parts h (no_trees h.scope) (All-cons (Fits h.scope h.result) a [] (All-head (Fits h.scope h.result) a acts h.fit) (no_acts h.scope h.result))

  pub other_acts : (trees : List Tree) (a : Act) (acts : List Act) → Doable signatures calls world name locals trees (a ∷ acts) → Doable signatures calls world name locals [] acts
  other_acts trees a acts h = with_parts h (no_trees h.scope) (All-tail (Fits h.scope h.result) a acts h.fit)

  pub act_at : (acts : List Act) (i : ℕ) (a : Act) → Doable signatures calls world name locals [] acts → i < length acts → a ≡ get_or acts i a → Doable signatures calls world name locals [] (a ∷ [])
  act_at acts i a h low is =
      with_parts h (no_trees h.scope) (All-cons (Fits h.scope h.result) a [] (subst (Fits h.scope h.result) (sym is) (h.fit i a low)) (no_acts h.scope h.result))

  pub arm_act : (test : Tree) (arms : List (List Tree × Act)) (other : Option Act) (i : ℕ) (arm : List Tree × Act) → CaseDoable signatures calls world name locals test arms other → i < length arms → arm ≡ get_or arms i arm → Doable signatures calls world name locals [] (arm.1 ∷ [])
  arm_act test arms other i arm h low is =
      record {
        scope = h.scope;
        result = h.result;
        stands = h.stands;
        named = h.named;
        typed = (no_trees h.scope);
        fit = All-cons (Fits h.scope h.result) arm.1 [] (subst (λ (arm : List Tree × Act). Fits h.scope h.result arm.1) (sym is) (h.arms_fit i arm low)) (no_acts h.scope h.result);
      }

  pub other_act : (test : Tree) (arms : List (List Tree × Act)) (other : Option Act) → CaseDoable signatures calls world name locals test arms other → Doable signatures calls world name locals [] (option_to_list other)
  other_act test arms other h =
      record { scope = h.scope; result = h.result; stands = h.stands; named = h.named; typed = (no_trees h.scope); fit = h.other_fits }
