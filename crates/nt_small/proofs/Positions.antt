-- Where elements stand in a list.
use Rattle.std.proofs.Common.{◌≡◌, inl, inr, ◌⊎◌, ℕ, zero, suc, ◌+◌, ◌≤◌, Bool, true, false, not, cond, List, [], ◌∷◌, ◌++◌, length, map, position, Option, Some, None, option_map, slice_get, refl, sym, ◌∙◌, ap, subst, arith, nat_lt}
use Rattle.std.specs.List.{Contains, prefix_len}
use Rattle.std.proofs.lemmas.Bool.Decides.{nat_tests}
use Rattle.nt_small.specs.Tables.{Distinct}
use Rattle.std.proofs.lemmas.Option.{slice_get-get_or, slice_get_within, get_or_from_slice_get}

none_some : {X : Type 0} (x : X) → None ≡ Some x → ⊥
none_some x h = cc

some_is : {X : Type 0} (x y : X) → Some x ≡ Some y → x ≡ y
some_is x y h = cc

pub bool_is : (b : Bool) → (b ≡ true) ⊎ (b ≡ false)
bool_is true = inl refl
bool_is false = inr refl

module _ {X Y : Type 0} (f : X → Y) (p : Y → Bool) where
  length_after : (xs : List X) → length (map f xs) ≡ length xs
  length_after [] = refl
  length_after (x ∷ xs) = ap suc (length_after xs)

  front_after : (xs : List X) → prefix_len (λ y. not (p y)) (map f xs) ≡ prefix_len (λ x. not (p (f x))) xs
  front_after [] = refl
  front_after (x ∷ xs) = ap (λ n. cond (not (p (f x))) (1 + n) 0) (front_after xs)

  -- the first whose image passes
  pub position-map : (xs : List X) → position (λ x. p (f x)) xs ≡ position p (map f xs)
  position-map xs = sym (ap (λ n. cond (nat_lt n (length (map f xs))) (Some n) None) (front_after xs) ∙ ap (λ n. cond (nat_lt (prefix_len (λ x. not (p (f x))) xs) n) (Some (prefix_len (λ x. not (p (f x))) xs)) None) (length_after xs))

module _ {X : Type 0} where
  pub at_from_Contains : (xs : List X) (x : X) → Contains xs x → (k : ℕ) × (slice_get xs k ≡ Some x)
  at_from_Contains xs x (k, within, is) = (k, slice_get-get_or xs k x within ∙ ap Some is)

  pub Contains-from_at : (xs : List X) (k : ℕ) (x : X) → slice_get xs k ≡ Some x → Contains xs x
  Contains-from_at xs k x at = (k, slice_get_within xs k x at, get_or_from_slice_get xs k x x at)

module _ {X : Type 0} (p : X → Bool) where
  -- the same by recursion on the list
  abbrev pub first : List X → Option ℕ
  first [] = None
  first (x ∷ xs) = cond (p x) (Some 0) (option_map suc (first xs))

  pub position_is : (xs : List X) → position p xs ≡ first xs
  position_is [] = refl
  position_is (x ∷ xs) = by (p x) ∙ ap (λ o. cond (p x) (Some 0) (option_map suc o)) (position_is xs)
    where
      less : (n m : ℕ) (b : Bool) → nat_lt n m ≡ b → cond (nat_lt (1 + n) (suc m)) (Some (1 + n)) None ≡ option_map suc (cond (nat_lt n m) (Some n) None)
      less n m true h = let e : nat_lt (1 + n) (suc m) ≡ true = grind (arith, nat_tests) in let s : 1 + n ≡ suc n = omega arith in rw (e, h) (ap Some s)
      less n m false h = let e : nat_lt (1 + n) (suc m) ≡ false = grind (arith, nat_tests) in rw (e, h) refl

      by : (b : Bool) → cond (nat_lt (cond (not b) (1 + prefix_len (λ y. not (p y)) xs) 0) (suc (length xs))) (Some (cond (not b) (1 + prefix_len (λ y. not (p y)) xs) 0)) None ≡ cond b (Some 0) (option_map suc (position p xs))
      by true = let e : nat_lt 0 (suc (length xs)) ≡ true = grind (arith, nat_tests) in rw e refl
      by false = less (prefix_len (λ y. not (p y)) xs) (length xs) (nat_lt (prefix_len (λ y. not (p y)) xs) (length xs)) refl

  -- the element at the first position passes
  pub first_at : (xs : List X) (i : ℕ) → first xs ≡ Some i → (x : X) × (slice_get xs i ≡ Some x) × (p x ≡ true)
  first_at [] i h = absurd (none_some i h)
  first_at (x ∷ xs) i h = by (λ j is. first_at xs j is) (p x) refl
    where
      later : ((j : ℕ) → first xs ≡ Some j → (y : X) × (slice_get xs j ≡ Some y) × (p y ≡ true)) → (o : Option ℕ) → first xs ≡ o → option_map suc o ≡ Some i → (y : X) × (slice_get (x ∷ xs) i ≡ Some y) × (p y ≡ true)
      later rest None is e = absurd (none_some i e)
      later rest (Some j) is e = let r = rest j is in subst (λ k. (y : X) × (slice_get (x ∷ xs) k ≡ Some y) × (p y ≡ true)) (some_is (suc j) i e) (r.0, r.1, r.2)

      by : ((j : ℕ) → first xs ≡ Some j → (y : X) × (slice_get xs j ≡ Some y) × (p y ≡ true)) → (b : Bool) → p x ≡ b → (y : X) × (slice_get (x ∷ xs) i ≡ Some y) × (p y ≡ true)
      by rest true is = subst (λ k. (y : X) × (slice_get (x ∷ xs) k ≡ Some y) × (p y ≡ true)) (some_is 0 i (sym (ap (λ b. cond b (Some 0) (option_map suc (first xs))) is) ∙ h)) (x, refl, is)
      by rest false is = later rest (first xs) refl (sym (ap (λ b. cond b (Some 0) (option_map suc (first xs))) is) ∙ h)

  -- where there is no first position, no element passes
  pub first_none : (xs : List X) → first xs ≡ None → (k : ℕ) (x : X) → slice_get xs k ≡ Some x → p x ≡ false
  first_none [] h k x at = absurd (none_some x at)
  first_none (y ∷ xs) h k x at = by (λ none j there. first_none xs none j x there) (p y) refl k at
    where
      none : (o : Option ℕ) → option_map suc o ≡ None → o ≡ None
      none None e = refl
      none (Some n) e = cc

      by : (first xs ≡ None → (j : ℕ) → slice_get xs j ≡ Some x → p x ≡ false) → (b : Bool) → p y ≡ b → (j : ℕ) → slice_get (y ∷ xs) j ≡ Some x → p x ≡ false
      by rest true is j at = absurd (none_some 0 (sym h ∙ ap (λ b. cond b (Some 0) (option_map suc (first xs))) is))
      by rest false is zero at = sym (ap p (some_is y x at)) ∙ is
      by rest false is (suc j) at = rest (none (first xs) (sym (ap (λ b. cond b (Some 0) (option_map suc (first xs))) is) ∙ h)) j at

  pub none_first : (xs : List X) → ((k : ℕ) (x : X) → slice_get xs k ≡ Some x → p x ≡ false) → first xs ≡ None
  none_first [] h = refl
  none_first (x ∷ xs) h = ap (λ b. cond b (Some 0) (option_map suc (first xs))) (h 0 x refl) ∙ ap (option_map suc) (none_first xs (λ k y at. h (suc k) y at))

  -- a longer list has the same first position
  pub first-append : (xs ys : List X) (i : ℕ) → first xs ≡ Some i → first (xs ++ ys) ≡ Some i
  first-append [] ys i h = absurd (none_some i h)
  first-append (x ∷ xs) ys i h = by (λ j is. first-append xs ys j is) (p x) refl
    where
      later : ((j : ℕ) → first xs ≡ Some j → first (xs ++ ys) ≡ Some j) → (o : Option ℕ) → first xs ≡ o → option_map suc o ≡ Some i → option_map suc (first (xs ++ ys)) ≡ Some i
      later rest None is e = absurd (none_some i e)
      later rest (Some j) is e = ap (option_map suc) (rest j is) ∙ e

      by : ((j : ℕ) → first xs ≡ Some j → first (xs ++ ys) ≡ Some j) → (b : Bool) → p x ≡ b → first ((x ∷ xs) ++ ys) ≡ Some i
      by rest true is = ap (λ b. cond b (Some 0) (option_map suc (first (xs ++ ys)))) is ∙ sym (ap (λ b. cond b (Some 0) (option_map suc (first xs))) is) ∙ h
      by rest false is = ap (λ b. cond b (Some 0) (option_map suc (first (xs ++ ys)))) is ∙ later rest (first xs) refl (sym (ap (λ b. cond b (Some 0) (option_map suc (first xs))) is) ∙ h)

  -- a new last element that fails changes nothing
  pub first-push_fails : (xs : List X) (y : X) → p y ≡ false → first (xs ++ y ∷ []) ≡ first xs
  first-push_fails [] y fails = ap (λ b. cond b (Some 0) None) fails
  first-push_fails (x ∷ xs) y fails = ap (λ o. cond (p x) (Some 0) (option_map suc o)) (first-push_fails xs y fails)

  -- a new last element that passes is the first, if no other passes
  pub first-push_passes : (xs : List X) (y : X) → p y ≡ true → first xs ≡ None → first (xs ++ y ∷ []) ≡ Some (length xs)
  first-push_passes xs y passes none = by xs (first_none xs none)
    where
      by : (zs : List X) → ((k : ℕ) (x : X) → slice_get zs k ≡ Some x → p x ≡ false) → first (zs ++ y ∷ []) ≡ Some (length zs)
      by [] fails = ap (λ b. cond b (Some 0) None) passes
      by (z ∷ zs) fails = ap (λ b. cond b (Some 0) (option_map suc (first (zs ++ y ∷ [])))) (fails 0 z refl) ∙ ap (option_map suc) (by zs (λ k x at. fails (suc k) x at))

module _ {X : Type 0} where
  pub at_push : (xs : List X) (y : X) (k : ℕ) (x : X) → slice_get (xs ++ y ∷ []) k ≡ Some x → (slice_get xs k ≡ Some x) ⊎ ((k ≡ length xs) × (y ≡ x))
  at_push [] y zero x at = inr (refl, some_is y x at)
  at_push [] y (suc k) x at = absurd (none_some x at)
  at_push (z ∷ xs) y zero x at = inl at
  at_push (z ∷ xs) y (suc k) x at =
      elim (at_push xs y k x at) [
        | inl old ↦ inl old
        | inr new ↦ inr (ap suc new.0, new.1)
      ]

  pub push_at : (xs ys : List X) (k : ℕ) (x : X) → slice_get xs k ≡ Some x → slice_get (xs ++ ys) k ≡ Some x
  push_at [] ys k x at = absurd (none_some x at)
  push_at (z ∷ xs) ys zero x at = at
  push_at (z ∷ xs) ys (suc k) x at = push_at xs ys k x at

  pub push_last : (xs : List X) (y : X) → slice_get (xs ++ y ∷ []) (length xs) ≡ Some y
  push_last [] y = refl
  push_last (x ∷ xs) y = push_last xs y

  pub Distinct-nil : Distinct {X = X} []
  Distinct-nil i j x at there = absurd (none_some x at)

  pub Distinct-push : (xs : List X) (y : X) → Distinct xs → ((k : ℕ) → slice_get xs k ≡ Some y → ⊥) → Distinct (xs ++ y ∷ [])
  Distinct-push xs y distinct new i j x at there = by (at_push xs y i x at) (at_push xs y j x there)
    where
      by : (slice_get xs i ≡ Some x) ⊎ ((i ≡ length xs) × (y ≡ x)) → (slice_get xs j ≡ Some x) ⊎ ((j ≡ length xs) × (y ≡ x)) → i ≡ j
      by (inl a) (inl b) = distinct i j x a b
      by (inl a) (inr b) = absurd (new i (a ∙ ap Some (sym b.1)))
      by (inr a) (inl b) = absurd (new j (b ∙ ap Some (sym a.1)))
      by (inr a) (inr b) = a.0 ∙ sym b.0

  -- the list without its element at i
  abbrev without : List X → ℕ → List X
  without [] i = []
  without (x ∷ xs) zero = xs
  without (x ∷ xs) (suc i) = x ∷ without xs i

  length-without : (xs : List X) (i : ℕ) (x : X) → slice_get xs i ≡ Some x → length xs ≡ suc (length (without xs i))
  length-without [] i x at = absurd (none_some x at)
  length-without (y ∷ xs) zero x at = refl
  length-without (y ∷ xs) (suc i) x at = ap suc (length-without xs i x at)

  -- another element is still there
  still : (xs : List X) (i k : ℕ) (y : X) → (i ≡ k → ⊥) → slice_get xs k ≡ Some y → (j : ℕ) × (slice_get (without xs i) j ≡ Some y)
  still [] i k y other at = absurd (none_some y at)
  still (x ∷ xs) zero zero y other at = absurd (other refl)
  still (x ∷ xs) zero (suc k) y other at = (k, at)
  still (x ∷ xs) (suc i) zero y other at = (0, at)
  still (x ∷ xs) (suc i) (suc k) y other at = let r = still xs i k y (λ e. other (ap suc e)) at in (suc r.0, r.1)

  -- distinct elements of a list are no more than it has
  pub few_distinct : (xs ys : List X) → Distinct xs → ((k : ℕ) (x : X) → slice_get xs k ≡ Some x → (j : ℕ) × (slice_get ys j ≡ Some x)) → length xs ≤ length ys
  few_distinct [] ys distinct all = omega arith
  few_distinct (x ∷ xs) ys distinct all =
      let here = all 0 x refl in
      let rest = few_distinct xs (without ys here.0)
      (λ i j y at there. let e = distinct (suc i) (suc j) y at there in omega (arith, e))
      (λ k y at. let there = all (suc k) y at in
      still ys here.0 there.0 y (λ e. let same : x ≡ y = some_is x y (sym here.1 ∙ ap (slice_get ys) e ∙ there.1) in
      let z = distinct 0 (suc k) y (ap Some same) at in omega (arith, z)) there.1) in
      omega (arith, rest, length-without ys here.0 x here.1)
