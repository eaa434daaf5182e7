-- Entries of a map of moments as lists of moments.
use Rattle.std.proofs.Common.{◌≡◌, ℕ, ◌<◌, ◌≤◌, ◌==◌, nat_lt, Bool, true, false, not, if◌then◌else◌, List, [], ◌∷◌, ◌++◌, Option, Some, None, OnErr, Result, Ok, Err, Vec, slice_get, unwrap_or, length, IfSome, IsSome, refl, sym, ◌∙◌, ap, subst, arith, append-nil}
use Rattle.std.specs.Prelude.{cond, option_map}
use Rattle.std.specs.List.{All}
use Rattle.std.specs.List.Sorted.{IsStrictlySortedBy}
use Rattle.std.specs.Map.{keys_of, lookup, set_value}
use Rattle.std.specs.declared.cmp.Ordering.{Ordering}
use Rattle.std.specs.Ordering.{nat_cmp, is_eq, is_gt, match_ordering}
use Rattle.std.specs.declared.cmp.Ordering.TheVariants.{Less, Equal, Greater}
use Rattle.std.specs.BTreeMap.{insert_entry, is_at}
use Rattle.std.specs.declared.alloc.Global.{Global}
use Rattle.std.proofs.lemmas.Map.Keys.{sorted_tail, le_from_not_gt}
use Rattle.std.proofs.lemmas.Map.Views.{All-after_first}
use Rattle.std.proofs.lemmas.List.Elements.{All-nil, All-cons, All-head, All-tail}
use Rattle.std.proofs.lemmas.Option.{same_Some}
use Rattle.std.proofs.lemmas.Bool.{false≢true, eqb-true, eqb-false, ltb-true}
use Rattle.nt_semantics.specs.Rounds.{with_later, procs_at, without_moment}
use Rattle.nt_design.specs.declared.put.Put.{Put}
use Rattle.nt_queue.specs.Lists.{Waiting, lists_of, TakesNext}

abbrev Entry : Type 0
Entry = ℕ × Vec ℕ Global

abbrev Slot : Type 0
Slot = ℕ × List ℕ

none_some : {A : Type 0} (x : A) → None ≡ Some x → ⊥
none_some x h = cc

abbrev test_at : ℕ → ℕ → Bool
test_at at k = is_at (nat_cmp at) k

-- ---- a list written back
pub same_back : (test : ℕ → Bool) (es : List Entry) (v w : Vec ℕ Global) → lookup test es ≡ Some v → w.items ≡ v.items → lists_of (set_value test es w) ≡ lists_of es
same_back test [] v w h same = absurd (none_some v h)
same_back test (e ∷ es) v w h same = of_test (λ g. same_back test es v w g same) (test e.0) h
  where
    of_test : (lookup test es ≡ Some v → lists_of (set_value test es w) ≡ lists_of es) → (b : Bool) → cond b (Some e.1) (lookup test es) ≡ Some v → lists_of (cond b ((e.0, w) ∷ es) (e ∷ set_value test es w)) ≡ lists_of (e ∷ es)
    of_test rest true g = ap (λ l. (e.0, l) ∷ lists_of es) (same ∙ ap (λ (x : Vec ℕ Global). x.items) (sym (same_Some e.1 v g)))
    of_test rest false g = ap (λ l. (e.0, e.1.items) ∷ l) (rest g)

-- ---- a new list
not_both : (a b : ℕ) → nat_lt a b ≡ true → (a == b) ≡ true → ⊥
not_both a b lt eq = omega (arith, ltb-true a b lt, eqb-true a b eq)

abbrev compared : Bool → Bool → Ordering
compared lt eq = cond lt Less (cond eq Equal Greater)

pub inserted : (at p : ℕ) (w : Vec ℕ Global) (es : List Entry) → lookup (is_at (nat_cmp at)) es ≡ None → w.items ≡ p ∷ [] → lists_of (insert_entry nat_cmp es at w) ≡ with_later at p (lists_of es)
inserted at p w [] h one = ap (λ l. (at, l) ∷ []) one
inserted at p w (e ∷ es) h one = of_tests (λ g. inserted at p w es g one) (nat_lt at e.0) (at == e.0) refl refl h
  where
    of_tests : (lookup (is_at (nat_cmp at)) es ≡ None → lists_of (insert_entry nat_cmp es at w) ≡ with_later at p (lists_of es)) → (lt eq : Bool) → nat_lt at e.0 ≡ lt → (at == e.0) ≡ eq → cond (is_eq (compared lt eq)) (Some e.1) (lookup (is_at (nat_cmp at)) es) ≡ None → lists_of (match_ordering (compared lt eq) ((at, w) ∷ e ∷ es) ((e.0, w) ∷ es) (e ∷ insert_entry nat_cmp es at w)) ≡ (if eq then (at, e.1.items ++ p ∷ []) ∷ lists_of es else (if lt then (at, p ∷ []) ∷ (e.0, e.1.items) ∷ lists_of es else (e.0, e.1.items) ∷ with_later at p (lists_of es)))
    of_tests rest true true lt eq g = absurd (not_both at e.0 lt eq)
    of_tests rest true false lt eq g = ap (λ l. (at, l) ∷ (e.0, e.1.items) ∷ lists_of es) one
    of_tests rest false true lt eq g = absurd (none_some e.1 (sym g))
    of_tests rest false false lt eq g = ap (λ l. (e.0, e.1.items) ∷ l) (rest g)

-- ---- one more on a list
-- the keys of the rest are greater
none_below : (at : ℕ) (es : List Entry) → All (λ k. at < k) (keys_of es) → lookup (is_at (nat_cmp at)) es ≡ None
none_below at [] h = refl
none_below at (e ∷ es) h = of_tests (none_below at es (All-tail (λ k. at < k) e.0 (keys_of es) h)) (nat_lt at e.0) (at == e.0) refl
  where
    first : at < e.0
    first = All-head (λ k. at < k) e.0 (keys_of es) h

    of_tests : lookup (is_at (nat_cmp at)) es ≡ None → (lt eq : Bool) → (at == e.0) ≡ eq → cond (is_eq (compared lt eq)) (Some e.1) (lookup (is_at (nat_cmp at)) es) ≡ None
    of_tests rest lt true eq = absurd (omega (arith, first, eqb-true at e.0 eq))
    of_tests rest true false eq = rest
    of_tests rest false false eq = rest

less_is : (a b : ℕ) → nat_cmp a b ≡ Less → a < b
less_is a b h = of_tests (nat_lt a b) (a == b) refl h
  where
    not_less : Equal ≡ Less → ⊥
    not_less e = cc

    not_less_either : Greater ≡ Less → ⊥
    not_less_either e = cc

    of_tests : (lt eq : Bool) → nat_lt a b ≡ lt → compared lt eq ≡ Less → a < b
    of_tests true eq lt g = ltb-true a b lt
    of_tests false true lt g = absurd (not_less g)
    of_tests false false lt g = absurd (not_less_either g)

all_less : (a : ℕ) (ks : List ℕ) → All (λ q. nat_cmp a q ≡ Less) ks → All (λ q. a < q) ks
all_less a [] h = All-nil (λ q. a < q)
all_less a (k ∷ ks) h =
    All-cons (λ q. a < q) k ks (less_is a k (All-head (λ q. nat_cmp a q ≡ Less) k ks h)) (all_less a ks (All-tail (λ q. nat_cmp a q ≡ Less) k ks h))

all_after : (a b : ℕ) (ks : List ℕ) → a < b → All (λ q. b < q) ks → All (λ q. a < q) ks
all_after a b [] h g = All-nil (λ q. a < q)
all_after a b (k ∷ ks) h g =
    let first : b < k = All-head (λ q. b < q) k ks g in
    All-cons (λ q. a < q) k ks (omega (arith, h, first)) (all_after a b ks h (All-tail (λ q. b < q) k ks g))

pub pushed : (at p : ℕ) (v w : Vec ℕ Global) (es : List Entry) → IsStrictlySortedBy nat_cmp (keys_of es) → lookup (is_at (nat_cmp at)) es ≡ Some v → w.items ≡ v.items ++ p ∷ [] → lists_of (set_value (is_at (nat_cmp at)) es w) ≡ with_later at p (lists_of es)
pushed at p v w [] sorted h more = absurd (none_some v h)
pushed at p v w (e ∷ es) sorted h more = of_tests (λ g. pushed at p v w es (sorted_tail nat_cmp e.0 (keys_of es) sorted) g more) (nat_lt at e.0) (at == e.0) refl refl h
  where
    above : All (λ q. e.0 < q) (keys_of es)
    above = all_less e.0 (keys_of es) (All-after_first nat_cmp e.0 (keys_of es) sorted)

    of_tests : (lookup (is_at (nat_cmp at)) es ≡ Some v → lists_of (set_value (is_at (nat_cmp at)) es w) ≡ with_later at p (lists_of es)) → (lt eq : Bool) → nat_lt at e.0 ≡ lt → (at == e.0) ≡ eq → cond (is_eq (compared lt eq)) (Some e.1) (lookup (is_at (nat_cmp at)) es) ≡ Some v → lists_of (cond (is_eq (compared lt eq)) ((e.0, w) ∷ es) (e ∷ set_value (is_at (nat_cmp at)) es w)) ≡ (if eq then (at, e.1.items ++ p ∷ []) ∷ lists_of es else (if lt then (at, p ∷ []) ∷ (e.0, e.1.items) ∷ lists_of es else (e.0, e.1.items) ∷ with_later at p (lists_of es)))
    of_tests rest true true lt eq g = absurd (not_both at e.0 lt eq)
    of_tests rest true false lt eq g =
        absurd (none_some v (sym (none_below at es (all_after at e.0 (keys_of es) (ltb-true at e.0 lt) above)) ∙ g))
    of_tests rest false true lt eq g =
        (λ i. (sym (eqb-true at e.0 eq) i, (more ∙ ap (λ (x : Vec ℕ Global). x.items ++ p ∷ []) (sym (same_Some e.1 v g))) i) ∷ lists_of es)
    of_tests rest false false lt eq g =
        ap (λ l. (e.0, e.1.items) ∷ l) (rest g)

-- ---- the first list
all_slots : (a : ℕ) (es : List Entry) → All (λ q. a < q) (keys_of es) → All (λ (slot : Slot). a < slot.0) (lists_of es)
all_slots a [] h = All-nil (λ (slot : Slot). a < slot.0)
all_slots a (e ∷ es) h =
    All-cons (λ (slot : Slot). a < slot.0) (e.0, e.1.items) (lists_of es) (All-head (λ q. a < q) e.0 (keys_of es) h) (all_slots a es (All-tail (λ q. a < q) e.0 (keys_of es) h))

all_from : (a : ℕ) (slots : List Slot) → All (λ (slot : Slot). a < slot.0) slots → All (λ (slot : Slot). a ≤ slot.0) slots
all_from a [] h = All-nil (λ (slot : Slot). a ≤ slot.0)
all_from a (s ∷ slots) h =
    let first : a < s.0 = All-head (λ (slot : Slot). a < slot.0) s slots h in
    All-cons (λ (slot : Slot). a ≤ slot.0) s slots (omega (arith, first)) (all_from a slots (All-tail (λ (slot : Slot). a < slot.0) s slots h))

other : (m k : ℕ) → m < k → (k == m) ≡ false
other m k h = of_test (k == m) refl
  where
    of_test : (b : Bool) → (k == m) ≡ b → (k == m) ≡ false
    of_test true e = absurd (omega (arith, h, eqb-true k m e))
    of_test false e = e

none_there : (m : ℕ) (slots : List Slot) → All (λ (slot : Slot). m < slot.0) slots → procs_at m slots ≡ []
none_there m [] h = refl
none_there m (s ∷ slots) h =
    ap (λ b. (if b then s.1 else []) ++ procs_at m slots) (other m s.0 (All-head (λ (slot : Slot). m < slot.0) s slots h)) ∙ none_there m slots (All-tail (λ (slot : Slot). m < slot.0) s slots h)

all_stay : (m : ℕ) (slots : List Slot) → All (λ (slot : Slot). m < slot.0) slots → without_moment m slots ≡ slots
all_stay m [] h = refl
all_stay m (s ∷ slots) h =
    ap (λ b. if not b then s ∷ without_moment m slots else without_moment m slots) (other m s.0 (All-head (λ (slot : Slot). m < slot.0) s slots h)) ∙ ap (λ l. s ∷ l) (all_stay m slots (All-tail (λ (slot : Slot). m < slot.0) s slots h))

same_number : (m : ℕ) → (m == m) ≡ true
same_number m = of_test (m == m) refl
  where
    of_test : (b : Bool) → (m == m) ≡ b → (m == m) ≡ true
    of_test true e = e
    of_test false e = absurd (eqb-false m m e refl)

-- what stands first, where the rest comes later
pub record First (m : ℕ) (procs : List ℕ) (rest : List Slot) : Type 0 where
  pub list_is : procs ≡ procs_at m ((m, procs) ∷ rest)
  pub rest_is : rest ≡ without_moment m ((m, procs) ∷ rest)
  pub least : All (λ (slot : Slot). m ≤ slot.0) ((m, procs) ∷ rest)

first_of : (m : ℕ) (procs : List ℕ) (rest : List Slot) → All (λ (slot : Slot). m < slot.0) rest → First m procs rest
first_of m procs rest h = record {
  list_is = sym (ap (λ b. (if b then procs else []) ++ procs_at m rest) (same_number m) ∙ ap (λ l. procs ++ l) (none_there m rest h) ∙ append-nil procs);
  rest_is = sym (ap (λ b. if not b then (m, procs) ∷ without_moment m rest else without_moment m rest) (same_number m) ∙ all_stay m rest h);
  least = All-cons (λ (slot : Slot). m ≤ slot.0) (m, procs) rest (omega arith) (all_from m rest h);
}

pub first_entry : (e : Entry) (es : List Entry) → All (λ q. nat_cmp e.0 q ≡ Less) (keys_of es) → First e.0 e.1.items (lists_of es)
first_entry e es h = first_of e.0 e.1.items (lists_of es) (all_slots e.0 es (all_less e.0 (keys_of es) h))

-- ---- the queues
abbrev pub seen : List ℕ → List Put → List Slot → Waiting
seen inactive updates later = record { inactive = inactive; updates = updates; later = later }

-- no moment is up to the limit
pub none_until : (until first : ℕ) (es : List Entry) → until < first → All (λ q. is_gt (nat_cmp first q) ≡ false) (keys_of es) → All (λ (slot : Slot). until < slot.0) (lists_of es)
none_until until first [] below h = All-nil (λ (slot : Slot). until < slot.0)
none_until until first (e ∷ es) below h =
    let from : first ≤ e.0 = le_from_not_gt first e.0 (All-head (λ q. is_gt (nat_cmp first q) ≡ false) e.0 (keys_of es) h) in
    All-cons (λ (slot : Slot). until < slot.0) (e.0, e.1.items) (lists_of es) (omega (arith, below, from)) (none_until until first es below (All-tail (λ q. is_gt (nat_cmp first q) ≡ false) e.0 (keys_of es) h))

-- the first list is taken
pub taken : (until first : ℕ) (inactive : List ℕ) (updates : List Put) (es after : List Entry) (r : Option Entry) → first ≤ until → option_map (λ (e : Entry). e.0) (slice_get es 0) ≡ Some first → (0 < length es → IsSome r) → IfSome r (λ p. es ≡ p ∷ after) → IfSome r (λ p. All (λ q. nat_cmp p.0 q ≡ Less) (keys_of after)) → TakesNext until (seen inactive updates (lists_of es)) (seen inactive updates (lists_of after)) r
taken until first inactive updates [] after r within at some is above = absurd (none_some first at)
taken until first inactive updates (x ∷ es) after None within at some is above = absurd (false≢true (some (omega arith)))
taken until first inactive updates (x ∷ es) after (Some e) within at some is above =
    let f = first_entry e after above in
    let same : x.0 ≡ first = same_Some x.0 first at in
    let head : x.0 ≡ e.0 = ap (λ (l : List Entry). unwrap_or (option_map (λ (y : Entry). y.0) (slice_get l 0)) first) is in
    let lists : lists_of (x ∷ es) ≡ (e.0, e.1.items) ∷ lists_of after = ap lists_of is in (
      omega (arith, within, same, head),
      f.list_is ∙ ap (procs_at e.0) (sym lists),
      subst (λ (l : List Slot). All (λ (slot : Slot). e.0 ≤ slot.0) l) (sym lists) f.least,
      ap (seen inactive updates) (f.rest_is ∙ ap (without_moment e.0) (sym lists)),
    )

-- whatever failed
pub on_any_err : {A E : Type 0} (r : Result A E) (P : Type 0) → P → OnErr r P
on_any_err (Ok x) P h = tt
on_any_err (Err e) P h = h
