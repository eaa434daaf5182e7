-- Each function of the cases is one of its design, uses only its own, and calls no other but the next of its chain.
use Rattle.std.proofs.Common.{◌≡◌, ℕ, List, [], ◌∷◌, refl, sym, subst, arith}
use Rattle.std.proofs.lemmas.List.Elements.{All-nil, All-cons}
use Rattle.std.specs.Prelude.{All, false, true, Some, None}
use Rattle.nt_value.specs.declared.place.Place.{Place}
use Rattle.nt_design.proofs.Shaped.{false_is}
use Rattle.nt_design.specs.Rules.{act_fits, is_return, is_nonblocking, is_slot}
use Rattle.nt_design.specs.Reads.{has_time, targets_of, trees_of}
use Rattle.nt_design.specs.Shapes.{Scope, Signature, signature_at}
use Rattle.nt_design.specs.WellFormed.{IsFunction, function_calls, function_scope, is_own, signature_of}
use Rattle.nt_design.specs.Rules.{OfFunction}
use Rattle.nt_design.specs.declared.tree.Tree.TheVariants as tree
use Rattle.nt_design.specs.declared.target.Target.TheVariants as target
use Rattle.nt_design.specs.declared.target.Pick.TheVariants as pick
use Rattle.nt_value.specs.declared.operator.Binary.TheVariants.{Lt}
use Rattle.std.specs.List.{flat_map}
use Rattle.nt_call_show.specs.Functions.{endless, endless_body, sum, sum_body, adder, pair_body, link, link_body, last, last_body, int, pair, number, sum_of, grown}
use Rattle.nt_call_show.proofs.Folds.{folds}

-- an `int` for an `int`, and nothing for nothing
abbrev pub of_int : Signature
of_int = record { args = int ∷ []; result = int }

abbrev pub of_nothing : Signature
of_nothing = record { args = []; result = [] }

of_none : {X : Type 0} (P : X → Type 0) {xs : List X} → xs ≡ [] → All P xs
of_none P h = subst (All P) (sym h) (All-nil P)

of_one : {X : Type 0} (P : X → Type 0) {xs : List X} (x : X) → xs ≡ x ∷ [] → P x → All P xs
of_one P x h p = subst (All P) (sym h) (All-cons P x [] p (All-nil P))

of_three : {X : Type 0} (P : X → Type 0) {xs : List X} (x y z : X) → xs ≡ x ∷ y ∷ z ∷ [] → P x → P y → P z → All P xs
of_three P x y z h p q r =
    subst (All P) (sym h) (All-cons P x (y ∷ z ∷ []) p (All-cons P y (z ∷ []) q (All-cons P z [] r (All-nil P))))

of_two : {X : Type 0} (P : X → Type 0) {xs : List X} (x y : X) → xs ≡ x ∷ y ∷ [] → P x → P y → All P xs
of_two P x y h p q = subst (All P) (sym h) (All-cons P x (y ∷ []) p (All-cons P y [] q (All-nil P)))

sum_trees : (at : Place) → flat_map trees_of (sum_body at ∷ []) ≡ number 0 ∷ tree.Binary Lt (tree.Local 2) (tree.Local 0) ∷ sum_of (tree.Local 2) (number 1) ∷ sum_of (tree.Local 1) (tree.Local 2) ∷ []
sum_trees at = simp folds refl

module _ (name : List ℕ) (at : Place) where
  pub link_own : (next : ℕ) → is_own (link name at next) ≡ true
  link_own next = simp folds refl

  pub last_own : is_own (last name at) ≡ true
  last_own = simp folds refl

  pub endless_own : is_own (endless name at) ≡ true
  endless_own = simp folds refl

  pub sum_own : is_own (sum name at) ≡ true
  sum_own = simp folds refl

  pub adder_own : is_own (adder name at) ≡ true
  adder_own = simp folds refl

  pub link_signed : (next : ℕ) → signature_of (link name at next) ≡ Some of_int
  link_signed next = simp folds refl

  pub last_signed : signature_of (last name at) ≡ Some of_int
  last_signed = simp folds refl

  pub endless_signed : signature_of (endless name at) ≡ Some of_nothing
  endless_signed = simp folds refl

  pub sum_signed : signature_of (sum name at) ≡ Some of_int
  sum_signed = simp folds refl

  pub adder_signed : signature_of (adder name at) ≡ None
  adder_signed = refl

  pub link_calls : (next : ℕ) → function_calls (link name at next) ≡ next ∷ []
  link_calls next = simp folds refl

  pub last_calls : function_calls (last name at) ≡ []
  last_calls = simp folds refl

  pub endless_calls : function_calls (endless name at) ≡ []
  endless_calls = simp folds refl

  pub sum_calls : function_calls (sum name at) ≡ []
  sum_calls = simp folds refl

  pub adder_calls : function_calls (adder name at) ≡ []
  adder_calls = simp folds refl

  pub link_is : (scope : Scope) (next : ℕ) → signature_at scope next ≡ Some of_int → IsFunction scope (link name at next)
  link_is scope next h = record {
    fits = of_one (λ s. act_fits (function_scope scope (link name at next)) (Some int) s ≡ true) (link_body next at) refl (simp (folds, h) refl);
    no_timing = simp folds refl;
    no_nonblocking = of_none (λ s. is_nonblocking s ≡ false) (simp folds refl);
    no_jump = of_one (λ j. is_return j ≡ true) OfFunction (simp folds refl) refl;
    no_net = of_none (λ t. is_slot t ≡ false) (simp folds refl);
    no_time = of_one (λ t. has_time t ≡ false) (tree.Call next (tree.Local 0 ∷ [])) (simp folds refl) (simp folds refl);
    one_argument = λ h. refl;
    few_locals = omega arith;
  }

  pub last_is : (scope : Scope) → IsFunction scope (last name at)
  last_is scope = record {
    fits = of_one (λ s. act_fits (function_scope scope (last name at)) (Some int) s ≡ true) (last_body at) refl (simp folds refl);
    no_timing = simp folds refl;
    no_nonblocking = of_none (λ s. is_nonblocking s ≡ false) (simp folds refl);
    no_jump = of_one (λ j. is_return j ≡ true) OfFunction (simp folds refl) refl;
    no_net = of_none (λ t. is_slot t ≡ false) (simp folds refl);
    no_time = of_one (λ t. has_time t ≡ false) (tree.Local 0) (simp folds refl) (simp folds refl);
    one_argument = λ h. refl;
    few_locals = omega arith;
  }

  pub endless_is : (scope : Scope) → IsFunction scope (endless name at)
  endless_is scope = record {
    fits = of_one (λ s. act_fits (function_scope scope (endless name at)) (Some []) s ≡ true) (endless_body at) refl (simp folds refl);
    no_timing = simp folds refl;
    no_nonblocking = of_none (λ s. is_nonblocking s ≡ false) (simp folds refl);
    no_jump = of_none (λ j. is_return j ≡ true) (simp folds refl);
    no_net = of_none (λ t. is_slot t ≡ false) (simp folds refl);
    no_time = of_one (λ t. has_time t ≡ false) (number 1) (simp folds refl) (simp folds refl);
    one_argument = λ h. false_is h;
    few_locals = omega arith;
  }

  sum_no_time : All (λ t. has_time t ≡ false) (flat_map trees_of (sum_body at ∷ []))
  sum_no_time = subst (All (λ t. has_time t ≡ false)) (sym (sum_trees at))
      (All-cons (λ t. has_time t ≡ false) (number 0) (tree.Binary Lt (tree.Local 2) (tree.Local 0) ∷ sum_of (tree.Local 2) (number 1) ∷ sum_of (tree.Local 1) (tree.Local 2) ∷ []) (simp folds refl)
      (All-cons (λ t. has_time t ≡ false) (tree.Binary Lt (tree.Local 2) (tree.Local 0)) (sum_of (tree.Local 2) (number 1) ∷ sum_of (tree.Local 1) (tree.Local 2) ∷ []) (simp folds refl)
      (of_two (λ t. has_time t ≡ false) (sum_of (tree.Local 2) (number 1)) (sum_of (tree.Local 1) (tree.Local 2)) refl (simp folds refl) (simp folds refl))))

  adder_no_net : All (λ t. is_slot t ≡ false) (flat_map targets_of (pair_body at ∷ []))
  adder_no_net = of_two (λ t. is_slot t ≡ false) (target.Local 0 (pick.Leaves 0 1 ∷ [])) (target.Local 0 (pick.Leaves 1 1 ∷ [])) (simp folds refl) refl refl

  adder_no_time : All (λ t. has_time t ≡ false) (flat_map trees_of (pair_body at ∷ []))
  adder_no_time = of_two (λ t. has_time t ≡ false) (grown 0) (grown 1) (simp folds refl) (simp folds refl) (simp folds refl)

  pub sum_is : (scope : Scope) → IsFunction scope (sum name at)
  sum_is scope = record {
    fits = of_one (λ s. act_fits (function_scope scope (sum name at)) (Some int) s ≡ true) (sum_body at) refl (simp folds refl);
    no_timing = simp folds refl;
    no_nonblocking = of_none (λ s. is_nonblocking s ≡ false) (simp folds refl);
    no_jump = of_none (λ j. is_return j ≡ true) (simp folds refl);
    no_net = of_three (λ t. is_slot t ≡ false) (target.Local 2 []) (target.Local 2 []) (target.Local 1 []) (simp folds refl) refl refl refl;
    no_time = sum_no_time;
    one_argument = λ h. false_is h;
    few_locals = omega arith;
  }

  pub adder_is : (scope : Scope) → IsFunction scope (adder name at)
  adder_is scope = record {
    fits = of_one (λ s. act_fits (function_scope scope (adder name at)) (Some pair) s ≡ true) (pair_body at) refl (simp folds refl);
    no_timing = simp folds refl;
    no_nonblocking = of_none (λ s. is_nonblocking s ≡ false) (simp folds refl);
    no_jump = of_none (λ j. is_return j ≡ true) (simp folds refl);
    no_net = adder_no_net;
    no_time = adder_no_time;
    one_argument = λ h. refl;
    few_locals = omega arith;
  }
