-- Where names stand among names.
use Rattle.std.proofs.Common.{◌≡◌, inl, inr, ℕ, suc, Bor, Bool, true, false, ◌||◌, map, List, [], ◌∷◌, ◌++◌, length, Option, Some, None, slice_get, refl, sym, ◌∙◌, ap}
use Rattle.std.specs.List.{Contains, list_any}
use Rattle.std.specs.Str.{bytes_eq}
use Rattle.std.proofs.lemmas.Bool.{false≢true}
use Rattle.std.proofs.lemmas.Slice.Eq.{bytes_eq-Decides}
use Rattle.nt_small.specs.Elaboration.{position_of}
use Rattle.nt_small.specs.Tables.{Distinct}
use Rattle.nt_small.proofs.Positions.{bool_is, first, position_is, position-map, first_at, first_none, none_first, first-append, first-push_fails, first-push_passes, at_from_Contains, Contains-from_at}

pub same_bytes : (a b : List ℕ) → bytes_eq a b ≡ true → a ≡ b
same_bytes a b h = (bytes_eq-Decides a b).0 h

pub bytes_same : (a b : List ℕ) → a ≡ b → bytes_eq a b ≡ true
bytes_same a b h = (bytes_eq-Decides a b).1 h

pub bytes_differ : (a b : List ℕ) → (a ≡ b → ⊥) → bytes_eq a b ≡ false
bytes_differ a b other =
    elim (bool_is (bytes_eq a b)) [
      | inl same ↦ absurd (other (same_bytes a b same))
      | inr differ ↦ differ
    ]

first_of : (name : List ℕ) (names : List (List ℕ)) → position_of name names ≡ first (bytes_eq name) names
first_of name names = position_is (bytes_eq name) names

pub at_position : (name : List ℕ) (names : List (List ℕ)) (i : ℕ) → position_of name names ≡ Some i → slice_get names i ≡ Some name
at_position name names i h =
    let found = first_at (bytes_eq name) names i (sym (first_of name names) ∙ h) in
    found.1 ∙ ap Some (sym (same_bytes name found.0 found.2))

pub no_position : (name : List ℕ) (names : List (List ℕ)) → position_of name names ≡ None → Contains names name → ⊥
no_position name names h there =
    let at = at_from_Contains names name there in
    false≢true (sym (first_none (bytes_eq name) names (sym (first_of name names) ∙ h) at.0 name at.1) ∙ bytes_same name name refl)

pub position_none : (name : List ℕ) (names : List (List ℕ)) → (Contains names name → ⊥) → position_of name names ≡ None
position_none name names absent =
    first_of name names ∙ none_first (bytes_eq name) names (λ k x at. bytes_differ name x (λ e. absent (Contains-from_at names k name (at ∙ ap Some (sym e)))))

-- a name that is there has a position
pub position_there : (name : List ℕ) (names : List (List ℕ)) → Contains names name → (i : ℕ) × (position_of name names ≡ Some i)
position_there name names there = by (position_of name names) refl
  where
    by : (o : Option ℕ) → position_of name names ≡ o → (i : ℕ) × (position_of name names ≡ Some i)
    by None is = absurd (no_position name names is there)
    by (Some i) is = (i, is)

-- among distinct names it is where the name stands
pub position_distinct : (names : List (List ℕ)) (i : ℕ) (name : List ℕ) → Distinct names → slice_get names i ≡ Some name → position_of name names ≡ Some i
position_distinct names i name distinct at =
    let there = position_there name names (Contains-from_at names i name at) in
    there.1 ∙ ap Some (distinct there.0 i name (at_position name names there.0 there.1) at)

pub position-append : (name : List ℕ) (names more : List (List ℕ)) (i : ℕ) → position_of name names ≡ Some i → position_of name (names ++ more) ≡ Some i
position-append name names more i h =
    first_of name (names ++ more) ∙ first-append (bytes_eq name) names more i (sym (first_of name names) ∙ h)

pub position-push_other : (name other : List ℕ) (names : List (List ℕ)) → (name ≡ other → ⊥) → position_of name (names ++ other ∷ []) ≡ position_of name names
position-push_other name other names differ =
    first_of name (names ++ other ∷ []) ∙ first-push_fails (bytes_eq name) names other (bytes_differ name other differ) ∙ sym (first_of name names)

pub position-push_same : (name : List ℕ) (names : List (List ℕ)) → position_of name names ≡ None → position_of name (names ++ name ∷ []) ≡ Some (length names)
position-push_same name names h =
    first_of name (names ++ name ∷ []) ∙ first-push_passes (bytes_eq name) names name (bytes_same name name refl) (sym (first_of name names) ∙ h)

module _ {X : Type 0} (p : X → Bool) where
  all_fail : (ys : List X) → ((k : ℕ) (y : X) → slice_get ys k ≡ Some y → p y ≡ false) → list_any p ys ≡ false
  all_fail [] fails = refl
  all_fail (y ∷ ys) fails = ap (λ b. b || list_any p ys) (fails 0 y refl) ∙ all_fail ys (λ k z at. fails (suc k) z at)

  any_none : (xs : List X) → first p xs ≡ None → list_any p xs ≡ false
  any_none xs h = all_fail xs (first_none p xs h)

-- a name that has no position equals no key
pub new_key : (name : Bor (List ℕ)) (keys : List (Bor (List ℕ))) → position_of name.now (map (λ (k : Bor (List ℕ)). k.now) keys) ≡ None → list_any (λ (k : Bor (List ℕ)). bytes_eq name.now k.now) keys ≡ false
new_key name keys h =
    any_none (λ (k : Bor (List ℕ)). bytes_eq name.now k.now) keys (sym (position_is (λ (k : Bor (List ℕ)). bytes_eq name.now k.now) keys) ∙ position-map (λ (k : Bor (List ℕ)). k.now) (bytes_eq name.now) keys ∙ h)
