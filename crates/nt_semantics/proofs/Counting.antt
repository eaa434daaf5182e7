-- How often a process stands on a list.
use Rattle.std.proofs.Common.{◌≡◌, inl, inr, ℕ, zero, suc, ◌+◌, ◌<◌, ◌≤◌, ◌==◌, nat_lt, Bool, true, false, not, ◌||◌, if◌then◌else◌, List, [], ◌∷◌, ◌++◌, length, map, filter, refl, sym, ◌∙◌, ap, arith}
use Rattle.std.specs.List.{range_with_len}
use Rattle.std.proofs.lemmas.Bool.{false≢true, eq-eqb, eqb-true, lt-ltb}
use Rattle.nt_design.specs.declared.design.Design.{Design}
use Rattle.nt_semantics.proofs.Listing.{same_is}
use Rattle.nt_semantics.proofs.Waking.{lt_or_le}
use Rattle.nt_semantics.specs.Groups.{processes, is_among, is_same_process}
use Rattle.nt_semantics.specs.ReadyLists.{times}
use Rattle.nt_semantics.specs.Rounds.{with_new}
use Rattle.nt_semantics.specs.declared.process.Process.{Process}
use Rattle.nt_semantics.specs.declared.process.Process.TheVariants.{Procedure, Assignment}

pub times_append : {A : Type 0} (f : A → Bool) (xs ys : List A) → times f (xs ++ ys) ≡ times f xs + times f ys
times_append f [] ys = omega arith
times_append f (x ∷ xs) ys = of_test (times_append f xs ys) (f x)
  where
    of_test : times f (xs ++ ys) ≡ times f xs + times f ys → (b : Bool) → (if b then 1 + times f (xs ++ ys) else times f (xs ++ ys)) ≡ (if b then 1 + times f xs else times f xs) + times f ys
    of_test rest true = omega (arith, rest)
    of_test rest false = rest

pub same_self : (x : Process) → is_same_process x x ≡ true
same_self (Procedure p) = eq-eqb p p refl
same_self (Assignment a) = eq-eqb a a refl

-- among the items is what stands there at least once
pub among_times : (y : Process) (xs : List Process) → is_among xs y ≡ nat_lt 0 (times (is_same_process y) xs)
among_times y [] = refl
among_times y (x ∷ xs) = of_same (among_times y xs) (is_same_process y x)
  where
    of_same : is_among xs y ≡ nat_lt 0 (times (is_same_process y) xs) → (b : Bool) → (b || is_among xs y) ≡ nat_lt 0 (if b then 1 + times (is_same_process y) xs else times (is_same_process y) xs)
    of_same rest true = sym (lt-ltb 0 (1 + times (is_same_process y) xs) (omega arith))
    of_same rest false = rest

-- where the test finds one item alone, as often as it is kept
module _ {A : Type 0} (same : A → Bool) (g : A → Bool) (y : A) (found : (x : A) → same x ≡ true → y ≡ x) where
  abbrev Filtered : List A → Type 0
  Filtered xs = times same (filter g xs) ≡ (if g y then times same xs else 0)

  filtered : (xs : List A) → Filtered xs
  filtered [] = of_kept (g y)
    where
      of_kept : (b : Bool) → times same [] ≡ (if b then times same [] else 0)
      of_kept true = refl
      of_kept false = refl
  filtered (x ∷ xs) = of_same (filtered xs) (same x) refl
    where
      -- where it is this item, it is kept as the item is
      here : Filtered xs → (b : Bool) → g y ≡ b → same x ≡ true → times same (if b then x ∷ filter g xs else filter g xs) ≡ (if b then 1 + times same xs else 0)
      here rest true is it =
          ap (λ c. if c then 1 + times same (filter g xs) else times same (filter g xs)) it ∙ ap (λ n. 1 + n) (rest ∙ ap (λ b. if b then times same xs else 0) is)
      here rest false is it = rest ∙ ap (λ b. if b then times same xs else 0) is

      other : Filtered xs → (b : Bool) → same x ≡ false → times same (if b then x ∷ filter g xs else filter g xs) ≡ (if g y then times same xs else 0)
      other rest true isnt = ap (λ c. if c then 1 + times same (filter g xs) else times same (filter g xs)) isnt ∙ rest
      other rest false isnt = rest

      of_same : Filtered xs → (b : Bool) → same x ≡ b → times same (if g x then x ∷ filter g xs else filter g xs) ≡ (if g y then (if same x then 1 + times same xs else times same xs) else 0)
      of_same rest true it =
          ap (λ z. times same (if g z then x ∷ filter g xs else filter g xs)) (sym (found x it)) ∙ here rest (g y) refl it ∙ ap (λ c. if g y then (if c then 1 + times same xs else times same xs) else 0) (sym it)
      of_same rest false isnt =
          other rest (g x) isnt ∙ ap (λ c. if g y then (if c then 1 + times same xs else times same xs) else 0) (sym isnt)

pub times_filter : (g : Process → Bool) (y : Process) (xs : List Process) → times (is_same_process y) (filter g xs) ≡ (if g y then times (is_same_process y) xs else 0)
times_filter g y xs = filtered (is_same_process y) g y (same_is y) xs

pub times_filter_number : (g : ℕ → Bool) (p : ℕ) (xs : List ℕ) → times (λ q. p == q) (filter g xs) ≡ (if g p then times (λ q. p == q) xs else 0)
times_filter_number g p xs = filtered (λ q. p == q) g p (eqb-true p) xs

-- of those that are new, what wasn't there stands as often as they say
pub times_new : (y : Process) (xs ys : List Process) → times (is_same_process y) (with_new xs ys) ≡ times (is_same_process y) xs + (if is_among xs y then 0 else times (is_same_process y) ys)
times_new y xs ys =
    times_append (is_same_process y) xs (filter (λ z. not (is_among xs z)) ys) ∙ ap (λ n. times (is_same_process y) xs + n) (times_filter (λ z. not (is_among xs z)) y ys ∙ turned (is_among xs y))
  where
    turned : (b : Bool) → (if not b then times (is_same_process y) ys else 0) ≡ (if b then 0 else times (is_same_process y) ys)
    turned true = refl
    turned false = refl

-- ---- lists of numbers
pub times_procs : (p : ℕ) (ps : List ℕ) → times (is_same_process (Procedure p)) (map (λ q. Procedure q) ps) ≡ times (λ q. p == q) ps
times_procs p [] = refl
times_procs p (q ∷ ps) = ap (λ n. if p == q then 1 + n else n) (times_procs p ps)

pub times_assigns : (a : ℕ) (bs : List ℕ) → times (is_same_process (Assignment a)) (map (λ b. Assignment b) bs) ≡ times (λ b. a == b) bs
times_assigns a [] = refl
times_assigns a (b ∷ bs) = ap (λ n. if a == b then 1 + n else n) (times_assigns a bs)

pub no_assign : (a : ℕ) (ps : List ℕ) → times (is_same_process (Assignment a)) (map (λ q. Procedure q) ps) ≡ 0
no_assign a [] = refl
no_assign a (q ∷ ps) = no_assign a ps

pub no_proc : (p : ℕ) (bs : List ℕ) → times (is_same_process (Procedure p)) (map (λ b. Assignment b) bs) ≡ 0
no_proc p [] = refl
no_proc p (b ∷ bs) = no_proc p bs

other_number : (p q : ℕ) → (p ≡ q → ⊥) → (p == q) ≡ false
other_number p q other = of_test (p == q) refl
  where
    of_test : (b : Bool) → (p == q) ≡ b → (p == q) ≡ false
    of_test true is = absurd (other (eqb-true p q is))
    of_test false is = is

past_range : (p a n : ℕ) → p < a → times (λ q. p == q) (range_with_len a n) ≡ 0
past_range p a zero low = refl
past_range p a (suc n) low =
    ap (λ (b : Bool). if b then 1 + times (λ q. p == q) (range_with_len (a + 1) n) else times (λ q. p == q) (range_with_len (a + 1) n)) (other_number p a (λ e. omega (arith, low, e))) ∙ past_range p (a + 1) n (omega (arith, low))

pub in_range : (p a n : ℕ) → a ≤ p → p < a + n → times (λ q. p == q) (range_with_len a n) ≡ 1
in_range p a zero low high = absurd (omega (arith, low, high))
in_range p a (suc n) low high = of_first (λ above. in_range p (a + 1) n above (omega (arith, high))) (p == a) refl
  where
    above : (p ≡ a → ⊥) → a + 1 ≤ p
    above other = omega (arith, low, other)

    of_first : (a + 1 ≤ p → times (λ q. p == q) (range_with_len (a + 1) n) ≡ 1) → (b : Bool) → (p == a) ≡ b → (if p == a then 1 + times (λ q. p == q) (range_with_len (a + 1) n) else times (λ q. p == q) (range_with_len (a + 1) n)) ≡ 1
    of_first rest true is =
        ap (λ (b : Bool). if b then 1 + times (λ q. p == q) (range_with_len (a + 1) n) else times (λ q. p == q) (range_with_len (a + 1) n)) is ∙ ap (λ n. 1 + n) (past_range p (a + 1) n (omega (arith, eqb-true p a is)))
    of_first rest false is =
        ap (λ (b : Bool). if b then 1 + times (λ q. p == q) (range_with_len (a + 1) n) else times (λ q. p == q) (range_with_len (a + 1) n)) is ∙ rest (above (λ e. false≢true (sym is ∙ eq-eqb p a e)))

behind_range : (p a n : ℕ) → a + n ≤ p → times (λ q. p == q) (range_with_len a n) ≡ 0
behind_range p a zero past = refl
behind_range p a (suc n) past =
    ap (λ (b : Bool). if b then 1 + times (λ q. p == q) (range_with_len (a + 1) n) else times (λ q. p == q) (range_with_len (a + 1) n)) (other_number p a (λ e. omega (arith, past, e))) ∙ behind_range p (a + 1) n (omega (arith, past))

-- each process of a design stands once among all
pub proc_once : (d : Design) (p : ℕ) → p < length d.procs → times (is_same_process (Procedure p)) (processes d) ≡ 1
proc_once d p low =
    let parts = times_append (is_same_process (Procedure p)) (map (λ q. Procedure q) (range_with_len 0 (length d.procs))) (map (λ q. Assignment q) (range_with_len 0 (length d.assigns))) in
    let first = times_procs p (range_with_len 0 (length d.procs)) ∙ in_range p 0 (length d.procs) (omega arith) (omega (arith, low)) in
    omega (arith, parts, first, no_proc p (range_with_len 0 (length d.assigns)))

pub assign_once : (d : Design) (a : ℕ) → a < length d.assigns → times (is_same_process (Assignment a)) (processes d) ≡ 1
assign_once d a low =
    let parts = times_append (is_same_process (Assignment a)) (map (λ q. Procedure q) (range_with_len 0 (length d.procs))) (map (λ q. Assignment q) (range_with_len 0 (length d.assigns))) in
    let second = times_assigns a (range_with_len 0 (length d.assigns)) ∙ in_range a 0 (length d.assigns) (omega arith) (omega (arith, low)) in
    omega (arith, parts, second, no_assign a (range_with_len 0 (length d.procs)))

-- where a test chooses numbers, each stands at most once
range_once : (p a n : ℕ) → times (λ q. p == q) (range_with_len a n) ≤ 1
range_once p a n = elim (lt_or_le p a) [
  | inl before ↦ omega (arith, past_range p a n before)
  | inr from ↦ elim (lt_or_le p (a + n)) [
    | inl below ↦ omega (arith, in_range p a n from below)
    | inr past ↦ omega (arith, behind_range p a n past)
  ]
]

pub chosen_once : (f : ℕ → Bool) (p a n : ℕ) → times (λ q. p == q) (filter f (range_with_len a n)) ≤ 1
chosen_once f p a n = of_test (f p) (times_filter_number f p (range_with_len a n))
  where
    of_test : (b : Bool) → times (λ q. p == q) (filter f (range_with_len a n)) ≡ (if b then times (λ q. p == q) (range_with_len a n) else 0) → times (λ q. p == q) (filter f (range_with_len a n)) ≤ 1
    of_test true is = omega (arith, is, range_once p a n)
    of_test false is = omega (arith, is)
