-- The orders of n slots are the permutations of the numbers below n.
use Rattle.std.proofs.Common.{◌≡◌, ℕ, zero, suc, ◌+◌, ◌<◌, ◌≤◌, Bool, true, false, not, ◌&&◌, ◌||◌, ◌==◌, nat_lt, if◌then◌else◌, List, [], ◌∷◌, ◌++◌, length, map, filter, get_or, slice_get, Option, Some, None, refl, sym, ◌∙◌, ap, subst, arith, lt-ltb, ltb-true, inl, inr}
use Rattle.std.specs.List.{range_with_len, sum_by}
use Rattle.std.specs.List.Sorted.{IsPermutation}
use Rattle.std.proofs.lemmas.Bool.{eq-eqb, eqb-true, cases_lt, cases_eq, and_parts, and_from, or_parts, or_from, not-true}
use Rattle.std.proofs.lemmas.Bool.Decides.{eqb_tells}
use Rattle.std.proofs.lemmas.List.FromFn.{length-range_with_len}
use Rattle.std.proofs.lemmas.List.Sums.{sum_by-append, sum_by-cons}
use Rattle.std.proofs.lemmas.List.Sorted.{IsPermutation-refl, IsPermutation-sym, IsPermutation-cons, IsPermutation-trans, IsPermutation-to_front, IsPermutation-middle, length_permutation, sum_by-IsPermutation}
use Rattle.nt_semantics.specs.Step.{is_distinct, all_below, is_order}
use Rattle.nt_semantics.specs.Same.{is_listed}
use Rattle.nt_design.specs.declared.object.Net.{Net}
use Rattle.nt_semantics.specs.Rounds.{arrival, declared_order, last_of_each}
use Rattle.nt_semantics.specs.Laws.{ArrivalsAreOrders, DeclaredAreOrders, OrdersArePermutations}

abbrev hit : ℕ → ℕ → ℕ
hit k x = if k == x then 1 else 0

-- how often a number stands in a list
abbrev count : ℕ → List ℕ → ℕ
count k xs = sum_by (hit k) xs

count_cons : (k x : ℕ) (xs : List ℕ) → count k (x ∷ xs) ≡ hit k x + count k xs
count_cons k x xs = sum_by-cons (hit k) x xs

hit_same : (k x : ℕ) → k ≡ x → hit k x ≡ 1
hit_same k x e = ap (λ (b : Bool). if b then 1 else 0) (eq-eqb k x e)

hit_other : (k x : ℕ) → (k == x) ≡ false → hit k x ≡ 0
hit_other k x e = ap (λ (b : Bool). if b then 1 else 0) e

-- the tests, by counts
count_none : (k : ℕ) (xs : List ℕ) → is_listed k xs ≡ false → count k xs ≡ 0
count_none k [] h = refl
count_none k (x ∷ xs) h =
    let p = or_parts (k == x) (is_listed k xs) h in
    omega (arith, count_cons k x xs, hit_other k x p.0, count_none k xs p.1)

has_none : (k : ℕ) (xs : List ℕ) → count k xs ≡ 0 → is_listed k xs ≡ false
has_none k [] h = refl
has_none k (x ∷ xs) h = elim (eqb_tells k x) [
  | inl p ↦ absurd (omega (arith, count_cons k x xs, h, hit_same k x p.1))
  | inr p ↦ or_from (k == x) (is_listed k xs) p.0 (has_none k xs (omega (arith, count_cons k x xs, hit_other k x p.0, h)))
]

distinct_counts : (xs : List ℕ) → is_distinct xs ≡ true → (k : ℕ) → count k xs ≤ 1
distinct_counts [] h k = omega arith
distinct_counts (x ∷ xs) h k =
    let p = and_parts (not (is_listed x xs)) (is_distinct xs) h in
    elim (eqb_tells k x) [
      | inl q ↦ let none : count k xs ≡ 0 = ap (λ j. count j xs) q.1 ∙ count_none x xs (not-true (is_listed x xs) p.0) in
          omega (arith, count_cons k x xs, hit_same k x q.1, none)
      | inr q ↦ omega (arith, count_cons k x xs, hit_other k x q.0, distinct_counts xs p.1 k)
    ]

counts_distinct : (xs : List ℕ) → ((k : ℕ) → count k xs ≤ 1) → is_distinct xs ≡ true
counts_distinct [] h = refl
counts_distinct (x ∷ xs) h =
    let none : count x xs ≡ 0 = omega (arith, count_cons x x xs, h x, hit_same x x refl) in
    and_from (not (is_listed x xs)) (is_distinct xs) (ap (λ (b : Bool). not b) (has_none x xs none)) (counts_distinct xs (λ k. omega (arith, count_cons k x xs, h k)))

below_counts : (n : ℕ) (xs : List ℕ) → all_below n xs ≡ true → (k : ℕ) → n ≤ k → count k xs ≡ 0
below_counts n [] h k high = refl
below_counts n (x ∷ xs) h k high =
    let p = and_parts (nat_lt x n) (all_below n xs) h in
    elim (eqb_tells k x) [
      | inl q ↦ absurd (omega (arith, ltb-true x n p.0, q.1, high))
      | inr q ↦ omega (arith, count_cons k x xs, hit_other k x q.0, below_counts n xs p.1 k high)
    ]

counts_below : (n : ℕ) (xs : List ℕ) → ((k : ℕ) → n ≤ k → count k xs ≡ 0) → all_below n xs ≡ true
counts_below n [] h = refl
counts_below n (x ∷ xs) h = elim (cases_lt x n) [
  | inl low ↦ and_from (nat_lt x n) (all_below n xs) (lt-ltb x n low) (counts_below n xs (λ k high. omega (arith, count_cons k x xs, h k high)))
  | inr high ↦ absurd (omega (arith, count_cons x x xs, h x high, hit_same x x refl))
]

-- a number that stands in a list can be brought to its front
fronted : (k : ℕ) (xs : List ℕ) → 1 ≤ count k xs → (rest : List ℕ) × IsPermutation xs (k ∷ rest)
fronted k [] h = absurd (omega (arith, h))
fronted k (x ∷ xs) h = elim (eqb_tells k x) [
  | inl q ↦ (xs, subst (λ j. IsPermutation (x ∷ xs) (j ∷ xs)) (sym q.1) (IsPermutation-refl (x ∷ xs)))
  | inr q ↦ let f = fronted k xs (omega (arith, count_cons k x xs, h, hit_other k x q.0)) in
      (x ∷ f.0, IsPermutation-trans (x ∷ xs) (x ∷ k ∷ f.0) (k ∷ x ∷ f.0) (IsPermutation-cons x xs (k ∷ f.0) f.1) (IsPermutation-middle (x ∷ []) k f.0))
]

-- what the others hold of a number
rest_counts : (k n : ℕ) (xs rest : List ℕ) → IsPermutation xs (n ∷ rest) → hit k n + count k rest ≡ count k xs
rest_counts k n xs rest p = sym (count_cons k n rest) ∙ sum_by-IsPermutation (hit k) xs (n ∷ rest) p

rest_distinct : (n : ℕ) (xs rest : List ℕ) → ((k : ℕ) → count k xs ≤ 1) → IsPermutation xs (n ∷ rest) → (k : ℕ) → count k rest ≤ 1
rest_distinct n xs rest distinct p k = omega (arith, rest_counts k n xs rest p, distinct k)

above : (n k : ℕ) → (k ≡ n → ⊥) → n ≤ k → suc n ≤ k
above n k ne high = elim (cases_lt n k) [
  | inl more ↦ omega (arith, more)
  | inr low ↦ absurd (ne (omega (arith, low, high)))
]

rest_below : (n : ℕ) (xs rest : List ℕ) → ((k : ℕ) → count k xs ≤ 1) → ((k : ℕ) → suc n ≤ k → count k xs ≡ 0) → IsPermutation xs (n ∷ rest) → (k : ℕ) → n ≤ k → count k rest ≡ 0
rest_below n xs rest distinct below p k high =
    let same = rest_counts k n xs rest p in
    elim (cases_eq k n) [
      | inl e ↦ omega (arith, same, distinct k, hit_same k n e)
      | inr ne ↦ omega (arith, same, below k (above n k ne high))
    ]

none_below : (n : ℕ) (xs : List ℕ) → count n xs < 1 → ((k : ℕ) → suc n ≤ k → count k xs ≡ 0) → (k : ℕ) → n ≤ k → count k xs ≡ 0
none_below n xs none below k high = elim (cases_eq k n) [
  | inl e ↦ ap (λ j. count j xs) e ∙ omega (arith, none)
  | inr ne ↦ below k (above n k ne high)
]

-- no more than n different numbers are below n
few : (n : ℕ) (xs : List ℕ) → ((k : ℕ) → count k xs ≤ 1) → ((k : ℕ) → n ≤ k → count k xs ≡ 0) → length xs ≤ n
few zero [] distinct below = omega arith
few zero (x ∷ xs) distinct below = absurd (omega (arith, count_cons x x xs, below x (omega arith), hit_same x x refl))
few (suc n) xs distinct below = elim (cases_lt (count n xs) 1) [
  | inl none ↦ omega (arith, few n xs distinct (none_below n xs none below))
  | inr some ↦ let f = fronted n xs some in
      omega (arith, length_permutation xs (n ∷ f.0) f.1, few n f.0 (rest_distinct n xs f.0 distinct f.1) (rest_below n xs f.0 distinct below f.1))
]

range_more : (a n : ℕ) → range_with_len a (suc n) ≡ range_with_len a n ++ (a + n) ∷ []
range_more a zero = ap (λ k. k ∷ []) (omega arith)
range_more a (suc n) =
    ap (λ (l : List ℕ). a ∷ l) (range_more (a + 1) n ∙ ap (λ k. range_with_len (a + 1) n ++ k ∷ []) (omega arith))

range_last : (n : ℕ) → range_with_len 0 (suc n) ≡ range_with_len 0 n ++ n ∷ []
range_last n = range_more 0 n ∙ ap (λ k. range_with_len 0 n ++ k ∷ []) (omega arith)

shuffled : (n : ℕ) (xs : List ℕ) → length xs ≡ n → ((k : ℕ) → count k xs ≤ 1) → ((k : ℕ) → n ≤ k → count k xs ≡ 0) → IsPermutation (range_with_len 0 n) xs
shuffled zero [] long distinct below = IsPermutation-refl []
shuffled zero (x ∷ xs) long distinct below = absurd (omega (arith, long))
shuffled (suc n) xs long distinct below = elim (cases_lt (count n xs) 1) [
  | inl none ↦ absurd (omega (arith, long, few n xs distinct (none_below n xs none below)))
  | inr some ↦ let f = fronted n xs some in
      let inner = shuffled n f.0 (omega (arith, long, length_permutation xs (n ∷ f.0) f.1)) (rest_distinct n xs f.0 distinct f.1) (rest_below n xs f.0 distinct below f.1) in
      subst (λ (l : List ℕ). IsPermutation l xs) (sym (range_last n)) (IsPermutation-trans (range_with_len 0 n ++ n ∷ []) (n ∷ range_with_len 0 n) xs (IsPermutation-to_front (range_with_len 0 n) n) (IsPermutation-trans (n ∷ range_with_len 0 n) (n ∷ f.0) xs (IsPermutation-cons n (range_with_len 0 n) f.0 inner) (IsPermutation-sym xs (n ∷ f.0) f.1)))
]

-- a range is_listed each of its numbers once
range_low : (a n k : ℕ) → k < a → count k (range_with_len a n) ≡ 0
range_low a zero k low = refl
range_low a (suc n) k low = elim (eqb_tells k a) [
  | inl q ↦ absurd (omega (arith, q.1, low))
  | inr q ↦ omega (arith, count_cons k a (range_with_len (a + 1) n), hit_other k a q.0, range_low (a + 1) n k (omega arith))
]

range_high : (a n k : ℕ) → a + n ≤ k → count k (range_with_len a n) ≡ 0
range_high a zero k high = refl
range_high a (suc n) k high = elim (eqb_tells k a) [
  | inl q ↦ absurd (omega (arith, q.1, high))
  | inr q ↦ omega (arith, count_cons k a (range_with_len (a + 1) n), hit_other k a q.0, range_high (a + 1) n k (omega arith))
]

range_once : (a n k : ℕ) → count k (range_with_len a n) ≤ 1
range_once a zero k = omega arith
range_once a (suc n) k = elim (eqb_tells k a) [
  | inl q ↦ omega (arith, count_cons k a (range_with_len (a + 1) n), hit_same k a q.1, range_low (a + 1) n k (omega (arith, q.1)))
  | inr q ↦ omega (arith, count_cons k a (range_with_len (a + 1) n), hit_other k a q.0, range_once (a + 1) n k)
]

pub orders : OrdersArePermutations
orders n order = (there, back)
  where
    there : is_order n order ≡ true → IsPermutation (range_with_len 0 n) order
    there h =
        let p = and_parts ((length order == n) && all_below n order) (is_distinct order) h in
        let q = and_parts (length order == n) (all_below n order) p.0 in
        shuffled n order (eqb-true (length order) n q.0) (distinct_counts order p.1) (below_counts n order q.1)

    back : IsPermutation (range_with_len 0 n) order → is_order n order ≡ true
    back p =
        let same : (k : ℕ) → count k order ≡ count k (range_with_len 0 n) = λ k. sum_by-IsPermutation (hit k) (range_with_len 0 n) order p in
        let long : length order ≡ n = length_permutation (range_with_len 0 n) order p ∙ length-range_with_len 0 n in
        and_from ((length order == n) && all_below n order) (is_distinct order) (and_from (length order == n) (all_below n order) (eq-eqb (length order) n long) (counts_below n order (λ k high. same k ∙ range_high 0 n k (omega (arith, high))))) (counts_distinct order (λ k. subst (λ j. j ≤ 1) (sym (same k)) (range_once 0 n k)))

-- ---- declared and arrival orders
covers : (n : ℕ) (xs : List ℕ) → ((k : ℕ) → k < n → 1 ≤ count k xs) → n ≤ length xs
covers zero xs h = omega arith
covers (suc n) xs h =
    let f = fronted n xs (h n (omega arith)) in
    let rest = covers n f.0 (λ k low. left f k low) in
    omega (arith, rest, length_permutation xs (n ∷ f.0) f.1)
  where
    left : (f : (rest : List ℕ) × IsPermutation xs (n ∷ rest)) (k : ℕ) → k < n → 1 ≤ count k f.0
    left f k low = elim (eqb_tells k n) [
      | inl q ↦ absurd (omega (arith, q.1, low))
      | inr q ↦ omega (arith, rest_counts k n xs f.0 f.1, hit_other k n q.0, h k (omega (arith, low)))
    ]

-- each number below n stands once, and no other
pub order_by_counts : (n : ℕ) (xs : List ℕ) → ((k : ℕ) → k < n → count k xs ≡ 1) → ((k : ℕ) → n ≤ k → count k xs ≡ 0) → is_order n xs ≡ true
order_by_counts n xs once below =
    and_from ((length xs == n) && all_below n xs) (is_distinct xs) (and_from (length xs == n) (all_below n xs) (eq-eqb (length xs) n long) (counts_below n xs below)) (counts_distinct xs distinct)
  where
    distinct : (k : ℕ) → count k xs ≤ 1
    distinct k = elim (cases_lt k n) [
      | inl low ↦ omega (arith, once k low)
      | inr high ↦ omega (arith, below k high)
    ]

    long : length xs ≡ n
    long = omega (arith, few n xs distinct below, covers n xs (λ k low. omega (arith, once k low)))

range_in : (a n k : ℕ) → a ≤ k → k < a + n → count k (range_with_len a n) ≡ 1
range_in a zero k low high = absurd (omega (arith, low, high))
range_in a (suc n) k low high = elim (eqb_tells k a) [
  | inl q ↦ omega (arith, count_cons k a (range_with_len (a + 1) n), hit_same k a q.1, range_low (a + 1) n k (omega (arith, q.1)))
  | inr q ↦ omega (arith, count_cons k a (range_with_len (a + 1) n), hit_other k a q.0, range_in (a + 1) n k (apart (λ e. true_false (sym (eq-eqb k a e) ∙ q.0))) (omega (arith, high)))
]
  where
    true_false : true ≡ false → ⊥
    true_false h = cc

    apart : (k ≡ a → ⊥) → a + 1 ≤ k
    apart ne = omega (arith, low, ne)

count_append : (k : ℕ) (xs ys : List ℕ) → count k (xs ++ ys) ≡ count k xs + count k ys
count_append k xs ys = sum_by-append (hit k) xs ys

-- what isn't on a list, by counts
count_others : (k : ℕ) (slots xs : List ℕ) → count k (filter (λ slot. not (is_listed slot slots)) xs) ≡ (if is_listed k slots then 0 else count k xs)
count_others k slots [] = of_listed (is_listed k slots)
  where
    of_listed : (b : Bool) → count k [] ≡ (if b then 0 else count k [])
    of_listed true = refl
    of_listed false = refl
count_others k slots (x ∷ xs) = of_kept (count_others k slots xs) (is_listed x slots) refl
  where
    of_kept : count k (filter (λ slot. not (is_listed slot slots)) xs) ≡ (if is_listed k slots then 0 else count k xs) → (b : Bool) → is_listed x slots ≡ b → count k (if not b then x ∷ filter (λ slot. not (is_listed slot slots)) xs else filter (λ slot. not (is_listed slot slots)) xs) ≡ (if is_listed k slots then 0 else count k (x ∷ xs))
    of_kept rest true is = rest ∙ of_k (is_listed k slots) refl
      where
        of_k : (c : Bool) → is_listed k slots ≡ c → (if c then 0 else count k xs) ≡ (if c then 0 else count k (x ∷ xs))
        of_k true here = refl
        of_k false here = elim (eqb_tells k x) [
          | inl q ↦ absurd (listed_both (sym here ∙ ap (λ j. is_listed j slots) q.1 ∙ is))
          | inr q ↦ omega (arith, count_cons k x xs, hit_other k x q.0)
        ]
          where
            listed_both : false ≡ true → ⊥
            listed_both h = cc
    of_kept rest false is = count_cons k x (filter (λ slot. not (is_listed slot slots)) xs) ∙ ap (λ m. hit k x + m) rest ∙ of_k (is_listed k slots) refl
      where
        of_k : (c : Bool) → is_listed k slots ≡ c → hit k x + (if c then 0 else count k xs) ≡ (if c then 0 else count k (x ∷ xs))
        of_k false here = sym (count_cons k x xs)
        of_k true here = elim (eqb_tells k x) [
          | inl q ↦ absurd (listed_both (sym is ∙ ap (λ j. is_listed j slots) (sym q.1) ∙ here))
          | inr q ↦ omega (arith, hit_other k x q.0)
        ]
          where
            listed_both : false ≡ true → ⊥
            listed_both h = cc

-- each number of a list stands once among those that stand last
count_last : (k : ℕ) (slots : List ℕ) → count k (last_of_each slots) ≡ (if is_listed k slots then 1 else 0)
count_last k [] = refl
count_last k (x ∷ slots) = of_listed (count_last k slots) (is_listed x slots) refl
  where
    of_listed : count k (last_of_each slots) ≡ (if is_listed k slots then 1 else 0) → (b : Bool) → is_listed x slots ≡ b → count k (if b then last_of_each slots else x ∷ last_of_each slots) ≡ (if (k == x) || is_listed k slots then 1 else 0)
    of_listed rest true is = elim (eqb_tells k x) [
      | inl q ↦ rest ∙ ap (λ (c : Bool). if c then 1 else 0) (ap (λ j. is_listed j slots) q.1 ∙ is) ∙ ap (λ (c : Bool). if c || is_listed k slots then 1 else 0) (sym q.0)
      | inr q ↦ rest ∙ ap (λ (c : Bool). if c || is_listed k slots then 1 else 0) (sym q.0)
    ]
    of_listed rest false is = elim (eqb_tells k x) [
      | inl q ↦ count_cons k x (last_of_each slots) ∙ omega (arith, hit_same k x q.1, rest ∙ ap (λ (c : Bool). if c then 1 else 0) (ap (λ j. is_listed j slots) q.1 ∙ is)) ∙ ap (λ (c : Bool). if c || is_listed k slots then 1 else 0) (sym q.0)
      | inr q ↦ count_cons k x (last_of_each slots) ∙ omega (arith, hit_other k x q.0) ∙ rest ∙ ap (λ (c : Bool). if c || is_listed k slots then 1 else 0) (sym q.0)
    ]

net_slots : (nets : List Net) (n : ℕ) (net : Net) → slice_get nets n ≡ Some net → get_or (map (λ (x : Net). length x.slots) nets) n 0 ≡ length net.slots
net_slots [] n net h = absurd (none_some net h)
  where
    none_some : {A : Type 0} (x : A) → None ≡ Some x → ⊥
    none_some x h = cc
net_slots (x ∷ nets) zero net h = ap (λ (o : Option Net). slots_in o) h
  where
    slots_in : Option Net → ℕ
    slots_in None = 0
    slots_in (Some y) = length y.slots
net_slots (x ∷ nets) (suc n) net h = net_slots nets n net h

pub declared_orders : DeclaredAreOrders
declared_orders d n net h =
    ap (λ m. is_order (length net.slots) (range_with_len 0 m)) (net_slots d.nets n net h) ∙ order_by_counts (length net.slots) (range_with_len 0 (length net.slots)) (λ k low. range_in 0 (length net.slots) k (omega arith) (omega (arith, low))) (λ k high. range_high 0 (length net.slots) k (omega (arith, high)))

listed_below : (n : ℕ) (slots : List ℕ) (k : ℕ) → all_below n slots ≡ true → is_listed k slots ≡ true → k < n
listed_below n [] k below h = absurd (false_true h)
  where
    false_true : false ≡ true → ⊥
    false_true h = cc
listed_below n (x ∷ slots) k below h =
    let p = and_parts (nat_lt x n) (all_below n slots) below in
    of_first (listed_below n slots k p.1) (k == x) refl h (ltb-true x n p.0)
  where
    of_first : (is_listed k slots ≡ true → k < n) → (b : Bool) → (k == x) ≡ b → (b || is_listed k slots) ≡ true → x < n → k < n
    of_first rest true is g low = omega (arith, eqb-true k x is, low)
    of_first rest false is g low = rest g

pub arrivals_are_orders : ArrivalsAreOrders
arrivals_are_orders d n net slots h below =
    order_by_counts (length net.slots) (arrival d n slots) (λ k low. once k low (is_listed k slots) refl) (λ k high. none k high (is_listed k slots) refl)
  where
    range_is : declared_order d n ≡ range_with_len 0 (length net.slots)
    range_is = ap (λ m. range_with_len 0 m) (net_slots d.nets n net h)

    parts : (k : ℕ) (b : Bool) → is_listed k slots ≡ b → count k (arrival d n slots) ≡ (if b then 0 else count k (range_with_len 0 (length net.slots))) + (if b then 1 else 0)
    parts k b is =
        count_append k (filter (λ slot. not (is_listed slot slots)) (declared_order d n)) (last_of_each slots) ∙ ap (λ l. count k (filter (λ slot. not (is_listed slot slots)) l) + count k (last_of_each slots)) range_is ∙ ap (λ m. m + count k (last_of_each slots)) (count_others k slots (range_with_len 0 (length net.slots)) ∙ ap (λ (c : Bool). if c then 0 else count k (range_with_len 0 (length net.slots))) is) ∙ ap (λ m. (if b then 0 else count k (range_with_len 0 (length net.slots))) + m) (count_last k slots ∙ ap (λ (c : Bool). if c then 1 else 0) is)

    once : (k : ℕ) → k < length net.slots → (b : Bool) → is_listed k slots ≡ b → count k (arrival d n slots) ≡ 1
    once k low true is = parts k true is
    once k low false is =
        parts k false is ∙ omega (arith, range_in 0 (length net.slots) k (omega arith) (omega (arith, low)))

    none : (k : ℕ) → length net.slots ≤ k → (b : Bool) → is_listed k slots ≡ b → count k (arrival d n slots) ≡ 0
    none k high true is = absurd (omega (arith, high, listed_below (length net.slots) slots k below is))
    none k high false is =
        parts k false is ∙ omega (arith, range_high 0 (length net.slots) k (omega (arith, high)))
