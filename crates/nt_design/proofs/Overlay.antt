-- Digits laid over others, by the places that they take.
use Rattle.std.proofs.Common.{◌≡◌, ◌≤◌, ◌<◌, ℕ, zero, suc, ◌+◌, ◌-◌, List, [], ◌∷◌, ◌++◌, length, take, drop, replicate, refl, ap, sym, ◌∙◌, arith, inl, inr}
use Rattle.std.specs.Prelude.{Option, Some, None, slice_get, ℤ, pos, negsuc, min, max}
use Rattle.std.proofs.lemmas.Bool.{cases_lt}
use Rattle.nt_value.specs.Arithmetic.{padded}
use Rattle.nt_value.specs.declared.digit.Digit.{Digit}
use Rattle.nt_design.proofs.Frame.{two}
use Rattle.nt_design.specs.Parts.{digits_at, over_lowest, with_digits}

-- for each place the digit that it takes, if any
abbrev pub Places : Type 0
Places = ℕ → Option Digit

abbrev pub or_old : Option Digit → Digit → Digit
or_old None d = d
or_old (Some n) d = n

abbrev pub overlay : Places → List Digit → List Digit
overlay f [] = []
overlay f (d ∷ ds) = or_old (f 0) d ∷ overlay (λ i. f (suc i)) ds

pub overlay_none : (f : Places) (ds : List Digit) → ((i : ℕ) → f i ≡ None) → overlay f ds ≡ ds
overlay_none f [] h = refl
overlay_none f (d ∷ ds) h = two (λ x xs. x ∷ xs) (ap (λ o. or_old o d) (h 0)) (overlay_none (λ i. f (suc i)) ds (λ i. h (suc i)))

pub overlay_same : (f g : Places) (ds : List Digit) → ((i : ℕ) → i < length ds → f i ≡ g i) → overlay f ds ≡ overlay g ds
overlay_same f g [] h = refl
overlay_same f g (d ∷ ds) h =
    two (λ x xs. x ∷ xs) (ap (λ o. or_old o d) (h 0 (omega arith)))
    (overlay_same (λ i. f (suc i)) (λ i. g (suc i)) ds (λ i low. h (suc i) (omega (arith, low))))

-- ---- writes
-- digits that begin at a place
abbrev pub begun : ℕ → Places → Places
begun zero f i = f i
begun (suc l) f zero = None
begun (suc l) f (suc i) = begun l f i

-- digits without the lowest ones
abbrev pub passed : ℕ → Places → Places
passed zero f i = f i
passed (suc b) f i = passed b (λ j. f (suc j)) i

-- the lowest so many digits
abbrev pub lowest : ℕ → Places → Places
lowest zero f i = None
lowest (suc w) f zero = f 0
lowest (suc w) f (suc i) = lowest w (λ j. f (suc j)) i

abbrev pub at_place : ℤ → Places → Places
at_place (pos l) f = begun l f
at_place (negsuc b) f = passed (suc b) f

over_is : (ds new : List Digit) → over_lowest ds new ≡ overlay (slice_get new) ds
over_is [] new = refl
over_is (d ∷ ds) [] = sym (overlay_none (slice_get []) (d ∷ ds) (λ i. refl))
over_is (d ∷ ds) (n ∷ ns) = ap (λ xs. n ∷ xs) (over_is ds ns)

begun_is : (l : ℕ) (new ds : List Digit) → take l ds ++ over_lowest (drop l ds) new ≡ overlay (begun l (slice_get new)) ds
begun_is zero new [] = refl
begun_is zero new (d ∷ ds) = over_is (d ∷ ds) new
begun_is (suc l) new [] = refl
begun_is (suc l) new (d ∷ ds) = ap (λ xs. d ∷ xs) (begun_is l new ds)

-- no place takes a digit
abbrev pub no_places : Places
no_places i = None

passed_nothing : (b i : ℕ) → passed b no_places i ≡ None
passed_nothing zero i = refl
passed_nothing (suc b) i = passed_nothing b i

passed_get : (b : ℕ) (new : List Digit) (i : ℕ) → slice_get (drop b new) i ≡ passed b (slice_get new) i
passed_get zero [] i = refl
passed_get zero (n ∷ ns) i = refl
passed_get (suc b) [] i = sym (passed_nothing b i)
passed_get (suc b) (n ∷ ns) i = passed_get b ns i

-- a write of digits
pub with_is : (low : ℤ) (new ds : List Digit) → with_digits (Some low) new ds ≡ overlay (at_place low (slice_get new)) ds
with_is (pos l) new ds = begun_is l new ds
with_is (negsuc b) new ds =
    over_is ds (drop (suc b) new)
    ∙ overlay_same (slice_get (drop (suc b) new)) (passed (suc b) (slice_get new)) ds (λ i low. passed_get (suc b) new i)

-- ---- a write of a part that was written
lowest_none : (w : ℕ) (f : Places) → ((i : ℕ) → f i ≡ None) → (i : ℕ) → lowest w f i ≡ None
lowest_none zero f h i = refl
lowest_none (suc w) f h zero = h 0
lowest_none (suc w) f h (suc i) = lowest_none w (λ j. f (suc j)) (λ j. h (suc j)) i

-- the lowest digits, read, changed and written back
lowest_back : (w : ℕ) (fill : Digit) (f : Places) (ds : List Digit) → overlay (slice_get (overlay f (padded w fill ds))) ds ≡ overlay (lowest w f) ds
lowest_back w fill f [] = refl
lowest_back zero fill f (d ∷ ds) =
    overlay_none (slice_get []) (d ∷ ds) (λ i. refl) ∙ sym (overlay_none (lowest zero f) (d ∷ ds) (λ i. refl))
lowest_back (suc w) fill f (d ∷ ds) =
    ap (λ xs. or_old (f 0) d ∷ xs) (lowest_back w fill (λ i. f (suc i)) ds)

begun_back : (l w : ℕ) (fill : Digit) (f : Places) (ds : List Digit) → overlay (begun l (slice_get (overlay f (padded w fill (drop l ds))))) ds ≡ overlay (begun l (lowest w f)) ds
begun_back zero w fill f [] = refl
begun_back zero w fill f (d ∷ ds) = lowest_back w fill f (d ∷ ds)
begun_back (suc l) w fill f [] = refl
begun_back (suc l) w fill f (d ∷ ds) = ap (λ xs. d ∷ xs) (begun_back l w fill f ds)

passed_back : (b w : ℕ) (fill : Digit) (f : Places) (ds : List Digit) → overlay (passed b (slice_get (overlay f (padded w fill (replicate b fill ++ ds))))) ds ≡ overlay (passed b (lowest w f)) ds
passed_back zero w fill f ds = lowest_back w fill f ds
passed_back (suc b) zero fill f ds =
    overlay_none (passed (suc b) (slice_get [])) ds (passed_nothing (suc b))
    ∙ sym (overlay_none (passed (suc b) (lowest zero f)) ds (none_passed (suc b)))
  where
    none_passed : (b i : ℕ) → passed b (lowest zero f) i ≡ None
    none_passed zero i = refl
    none_passed (suc b) i = none_passed b i
passed_back (suc b) (suc w) fill f ds = passed_back b w fill (λ i. f (suc i)) ds

-- a part read, changed and written back changes those digits of the whole that are inside the part
pub part_back : (low : ℤ) (w : ℕ) (fill : Digit) (f : Places) (ds : List Digit) → overlay (at_place low (slice_get (overlay f (digits_at fill (Some low) w ds)))) ds ≡ overlay (at_place low (lowest w f)) ds
part_back (pos l) w fill f ds = begun_back l w fill f ds
part_back (negsuc b) w fill f ds = passed_back (suc b) w fill f ds

-- ---- windows
begun_in : (l : ℕ) (f : Places) (i : ℕ) → l ≤ i → begun l f i ≡ f (i - l)
begun_in zero f i h = let e : i ≡ i - 0 = omega arith in ap f e
begun_in (suc l) f zero h = absurd (omega (arith, h))
begun_in (suc l) f (suc i) h = let e : i - l ≡ suc i - suc l = omega arith in begun_in l f i (omega (arith, h)) ∙ ap f e

begun_out : (l : ℕ) (f : Places) (i : ℕ) → i < l → begun l f i ≡ None
begun_out zero f i h = absurd (omega (arith, h))
begun_out (suc l) f zero h = refl
begun_out (suc l) f (suc i) h = begun_out l f i (omega (arith, h))

lowest_in : (w : ℕ) (f : Places) (i : ℕ) → i < w → lowest w f i ≡ f i
lowest_in zero f i h = absurd (omega (arith, h))
lowest_in (suc w) f zero h = refl
lowest_in (suc w) f (suc i) h = lowest_in w (λ j. f (suc j)) i (omega (arith, h))

lowest_out : (w : ℕ) (f : Places) (i : ℕ) → w ≤ i → lowest w f i ≡ None
lowest_out zero f i h = refl
lowest_out (suc w) f zero h = absurd (omega (arith, h))
lowest_out (suc w) f (suc i) h = lowest_out w (λ j. f (suc j)) i (omega (arith, h))

passed_at : (b : ℕ) (f : Places) (i : ℕ) → passed b f i ≡ f (b + i)
passed_at zero f i = let e : i ≡ 0 + i = omega arith in ap f e
passed_at (suc b) f i = let e : suc (b + i) ≡ suc b + i = omega arith in passed_at b (λ j. f (suc j)) i ∙ ap f e

-- places from the first up to the end, of which the first takes the digit of this number
abbrev pub window : ℕ → ℕ → ℕ → Places → Places
window first end k f = begun first (lowest (end - first) (passed k f))

pub window_in : (first end k : ℕ) (f : Places) (i : ℕ) → first ≤ i → i < end → window first end k f i ≡ f (k + (i - first))
window_in first end k f i h low =
    begun_in first (lowest (end - first) (passed k f)) i h
    ∙ (lowest_in (end - first) (passed k f) (i - first) (omega (arith, h, low)) ∙ passed_at k f (i - first))

pub window_before : (first end k : ℕ) (f : Places) (i : ℕ) → i < first → window first end k f i ≡ None
window_before first end k f i h = begun_out first (lowest (end - first) (passed k f)) i h

pub window_after : (first end k : ℕ) (f : Places) (i : ℕ) → end ≤ i → window first end k f i ≡ None
window_after first end k f i h = elim (cases_lt i first) [
  | inl low ↦ window_before first end k f i low
  | inr high ↦ begun_in first (lowest (end - first) (passed k f)) i high ∙ lowest_out (end - first) (passed k f) (i - first) (omega (arith, h, high))
]

-- the window of a part
abbrev pub of_low : ℤ → ℕ → Places → Places
of_low (pos l) w f = window l (l + w) (l + 0 - l) f
of_low (negsuc b) w f = window 0 (w - suc b) (0 + suc b - 0) f

pub part_window : (low : ℤ) (w : ℕ) (f : Places) (i : ℕ) → at_place low (lowest w f) i ≡ of_low low w f i
part_window (pos l) w f i = elim (cases_lt i l) [
  | inl low ↦ begun_out l (lowest w f) i low ∙ sym (window_before l (l + w) (l + 0 - l) f i low)
  | inr high ↦ elim (cases_lt i (l + w)) [
    | inl below ↦
        let e : i - l ≡ l + 0 - l + (i - l) = omega arith in
        begun_in l (lowest w f) i high ∙ (lowest_in w f (i - l) (omega (arith, below, high)) ∙ (ap f e ∙ sym (window_in l (l + w) (l + 0 - l) f i high below)))
    | inr above ↦
        begun_in l (lowest w f) i high ∙ (lowest_out w f (i - l) (omega (arith, above, high)) ∙ sym (window_after l (l + w) (l + 0 - l) f i above))
  ]
]
part_window (negsuc b) w f i = elim (cases_lt i (w - suc b)) [
  | inl below ↦
      let e : suc b + i ≡ 0 + suc b - 0 + (i - 0) = omega arith in
      let zero_low : 0 ≤ i = omega arith in
      passed_at (suc b) (lowest w f) i ∙ (lowest_in w f (suc b + i) (omega (arith, below)) ∙ (ap f e ∙ sym (window_in 0 (w - suc b) (0 + suc b - 0) f i zero_low below)))
  | inr above ↦
      passed_at (suc b) (lowest w f) i ∙ (lowest_out w f (suc b + i) (omega (arith, above)) ∙ sym (window_after 0 (w - suc b) (0 + suc b - 0) f i above))
]

-- a part inside a window is a narrower one
pub narrower_up : (low skip first end m w : ℕ) (f : Places) (i : ℕ) → low ≤ first + skip → window first end (first + skip - low) (begun m (lowest w f)) i ≡ window (max first (low + m - skip)) (min end (low + m + w - skip)) (max first (low + m - skip) + skip - (low + m)) f i
narrower_up low skip first end m w f i inner = elim (cases_lt i first) [
  | inl before ↦
      window_before first end (first + skip - low) (begun m (lowest w f)) i before
      ∙ sym (window_before (max first (low + m - skip)) (min end (low + m + w - skip)) (max first (low + m - skip) + skip - (low + m)) f i (omega (arith, before)))
  | inr from ↦ elim (cases_lt i end) [
    | inr past ↦
        window_after first end (first + skip - low) (begun m (lowest w f)) i past
        ∙ sym (window_after (max first (low + m - skip)) (min end (low + m + w - skip)) (max first (low + m - skip) + skip - (low + m)) f i (omega (arith, past)))
    | inl below ↦
        window_in first end (first + skip - low) (begun m (lowest w f)) i from below ∙ inside from below
  ]
]
  where
    inside : first ≤ i → i < end → begun m (lowest w f) (first + skip - low + (i - first)) ≡ window (max first (low + m - skip)) (min end (low + m + w - skip)) (max first (low + m - skip) + skip - (low + m)) f i
    inside from below = elim (cases_lt (i + skip) (low + m)) [
      | inl early ↦
          begun_out m (lowest w f) (first + skip - low + (i - first)) (omega (arith, early, from, inner))
          ∙ sym (window_before (max first (low + m - skip)) (min end (low + m + w - skip)) (max first (low + m - skip) + skip - (low + m)) f i (omega (arith, early)))
      | inr there ↦ elim (cases_lt (i + skip) (low + m + w)) [
        | inl within ↦
            let e : first + skip - low + (i - first) - m ≡ max first (low + m - skip) + skip - (low + m) + (i - max first (low + m - skip)) = omega (arith, there, from, inner) in
            begun_in m (lowest w f) (first + skip - low + (i - first)) (omega (arith, there, from, inner))
            ∙ (lowest_in w f (first + skip - low + (i - first) - m) (omega (arith, within, there, from, inner))
            ∙ (ap f e ∙ sym (window_in (max first (low + m - skip)) (min end (low + m + w - skip)) (max first (low + m - skip) + skip - (low + m)) f i (omega (arith, from, there)) (omega (arith, below, within)))))
        | inr late ↦
            begun_in m (lowest w f) (first + skip - low + (i - first)) (omega (arith, there, from, inner))
            ∙ (lowest_out w f (first + skip - low + (i - first) - m) (omega (arith, late, there, from, inner))
            ∙ sym (window_after (max first (low + m - skip)) (min end (low + m + w - skip)) (max first (low + m - skip) + skip - (low + m)) f i (omega (arith, late))))
      ]
    ]

pub narrower_down : (low skip first end b w : ℕ) (f : Places) (i : ℕ) → low ≤ first + skip → window first end (first + skip - low) (passed b (lowest w f)) i ≡ window (max first (low - (skip + b))) (min end (low + w - (skip + b))) (max first (low - (skip + b)) + (skip + b) - low) f i
narrower_down low skip first end b w f i inner = elim (cases_lt i first) [
  | inl before ↦
      window_before first end (first + skip - low) (passed b (lowest w f)) i before
      ∙ sym (window_before (max first (low - (skip + b))) (min end (low + w - (skip + b))) (max first (low - (skip + b)) + (skip + b) - low) f i (omega (arith, before)))
  | inr from ↦ elim (cases_lt i end) [
    | inr past ↦
        window_after first end (first + skip - low) (passed b (lowest w f)) i past
        ∙ sym (window_after (max first (low - (skip + b))) (min end (low + w - (skip + b))) (max first (low - (skip + b)) + (skip + b) - low) f i (omega (arith, past)))
    | inl below ↦
        window_in first end (first + skip - low) (passed b (lowest w f)) i from below
        ∙ (passed_at b (lowest w f) (first + skip - low + (i - first)) ∙ inside from below)
  ]
]
  where
    inside : first ≤ i → i < end → lowest w f (b + (first + skip - low + (i - first))) ≡ window (max first (low - (skip + b))) (min end (low + w - (skip + b))) (max first (low - (skip + b)) + (skip + b) - low) f i
    inside from below = elim (cases_lt (i + (skip + b)) (low + w)) [
      | inl within ↦
          let e : b + (first + skip - low + (i - first)) ≡ max first (low - (skip + b)) + (skip + b) - low + (i - max first (low - (skip + b))) = omega (arith, from, inner) in
          lowest_in w f (b + (first + skip - low + (i - first))) (omega (arith, within, from, inner))
          ∙ (ap f e ∙ sym (window_in (max first (low - (skip + b))) (min end (low + w - (skip + b))) (max first (low - (skip + b)) + (skip + b) - low) f i (omega (arith, from, inner)) (omega (arith, below, within))))
      | inr late ↦
          lowest_out w f (b + (first + skip - low + (i - first))) (omega (arith, late, from, inner))
          ∙ sym (window_after (max first (low - (skip + b))) (min end (low + w - (skip + b))) (max first (low - (skip + b)) + (skip + b) - low) f i (omega (arith, late)))
    ]

-- ---- whole lists
pub overlay_whole : (ds new : List Digit) → length ds ≡ length new → overlay (slice_get new) ds ≡ new
overlay_whole [] [] h = refl
overlay_whole [] (n ∷ ns) h = absurd (omega (arith, h))
overlay_whole (d ∷ ds) [] h = absurd (omega (arith, h))
overlay_whole (d ∷ ds) (n ∷ ns) h = ap (λ xs. n ∷ xs) (overlay_whole ds ns (omega (arith, h)))

take_get : (w : ℕ) (ds : List Digit) (i : ℕ) → slice_get (take w ds) i ≡ lowest w (slice_get ds) i
take_get zero [] i = refl
take_get zero (d ∷ ds) i = refl
take_get (suc w) [] i = sym (lowest_none (suc w) (slice_get []) (λ j. refl) i)
take_get (suc w) (d ∷ ds) zero = refl
take_get (suc w) (d ∷ ds) (suc i) = take_get w ds i

-- so many digits of others from one on, laid from a place on
pub taken_window : (first n k : ℕ) (new : List Digit) (i : ℕ) → begun first (slice_get (take n (drop k new))) i ≡ window first (first + n) k (slice_get new) i
taken_window first n k new i = elim (cases_lt i first) [
  | inl low ↦
      begun_out first (slice_get (take n (drop k new))) i low ∙ sym (window_before first (first + n) k (slice_get new) i low)
  | inr high ↦
      begun_in first (slice_get (take n (drop k new))) i high
      ∙ (take_get n (drop k new) (i - first) ∙ elim (cases_lt i (first + n)) [
        | inl below ↦
            lowest_in n (slice_get (drop k new)) (i - first) (omega (arith, below, high))
            ∙ (passed_get k new (i - first) ∙ (passed_at k (slice_get new) (i - first) ∙ sym (window_in first (first + n) k (slice_get new) i high below)))
        | inr above ↦
            lowest_out n (slice_get (drop k new)) (i - first) (omega (arith, above, high))
            ∙ sym (window_after first (first + n) k (slice_get new) i above)
      ])
]

-- a window that ends where the digits end
pub window_ends : (first end k width n : ℕ) (f : Places) (i : ℕ) → i < width → min end width - first ≡ n → window first (first + n) k f i ≡ window first end k f i
window_ends first end k width n f i low is = elim (cases_lt i first) [
  | inl before ↦ window_before first (first + n) k f i before ∙ sym (window_before first end k f i before)
  | inr from ↦ elim (cases_lt i end) [
    | inl below ↦ window_in first (first + n) k f i from (omega (arith, below, from, low, is)) ∙ sym (window_in first end k f i from below)
    | inr above ↦ window_after first (first + n) k f i (omega (arith, above, from, low, is)) ∙ sym (window_after first end k f i above)
  ]
]

pub window_none : (first end k width : ℕ) (f : Places) (i : ℕ) → i < width → min end width - first ≡ 0 → window first end k f i ≡ None
window_none first end k width f i low is = elim (cases_lt i first) [
  | inl before ↦ window_before first end k f i before
  | inr from ↦ window_after first end k f i (omega (arith, from, low, is))
]

pub window_of_none : (first end k : ℕ) (f : Places) → ((i : ℕ) → f i ≡ None) → (i : ℕ) → window first end k f i ≡ None
window_of_none first end k f h i = elim (cases_lt i first) [
  | inl before ↦ window_before first end k f i before
  | inr from ↦ elim (cases_lt i end) [
    | inl below ↦ window_in first end k f i from below ∙ h (k + (i - first))
    | inr above ↦ window_after first end k f i above
  ]
]
