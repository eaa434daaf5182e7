-- A write that was put, when it is performed, is the write through its path.
use Rattle.std.proofs.Common.{◌≡◌, ◌≤◌, ◌<◌, ℕ, zero, suc, ◌+◌, ◌-◌, ◌*◌, ◌/◌, Bool, true, false, if◌then◌else◌, List, [], ◌∷◌, ◌++◌, length, map, take, drop, refl, ap, sym, subst, ◌∙◌, arith}
use Rattle.std.specs.Prelude.{Option, Some, None, get_or, slice_get, option_map, ℤ, pos, negsuc, min, max, nat_lt, ◌&&◌}
use Rattle.std.proofs.lemmas.Bool.{and_parts}
use Rattle.std.proofs.lemmas.List.{append_assoc, append-nil, drop-drop, drop-take, drop_all, length-drop, length-map, length-take-le, take-append-drop, take-take, take_all}
use Rattle.std.proofs.lemmas.Option.{none-some, same_Some}
use Rattle.std.proofs.Math.Nat.{div-le_self}
use Rattle.nt_value.proofs.Returns.{known_digits}
use Rattle.nt_value.specs.Digits.{LeafValue, IsFilled}
use Rattle.nt_value.specs.Operators.{in_leaf, part_of, two_state, unsigned_leaf}
use Rattle.nt_value.specs.Values.{IsValueOf, shape_of}
use Rattle.nt_value.specs.declared.digit.Digit.{Digit}
use Rattle.nt_value.specs.declared.digit.Digit.TheVariants.{Zero, One, X, Z}
use Rattle.nt_value.specs.declared.leaf.Leaf.{Leaf}
use Rattle.nt_design.proofs.Filled.{Filled, leaves_filled, only_filled, part_filled}
use Rattle.nt_design.proofs.Frame.{two}
use Rattle.nt_design.proofs.Overlay.{Places, at_place, begun, lowest, narrower_down, narrower_up, no_places, or_old, overlay, overlay_none, overlay_same, overlay_whole, part_back, part_window, passed, taken_window, window, window_ends, window_none, window_of_none, with_is}
use Rattle.nt_design.proofs.Shaped.{false_is, leaves_has, only_leaf, repeated, where_so_back}
use Rattle.nt_design.proofs.Writes.{item_where, written_has}
use Rattle.nt_design.specs.Fitting.{Leads}
use Rattle.nt_design.specs.Parts.{Value, digits_at, leaves_at, leaves_each, one, only, part_at, Step, IntoItem, IntoLeaves, IntoPart, with_digits, with_leaves, with_part, written}
use Rattle.nt_design.specs.Puts.{Spot, AtDigits, AtLeaves, Nowhere, after_put, digits_put, put_at, put_of, spot_of, step_into}
use Rattle.nt_design.specs.Shapes.{element_shape, is_same_shape, item_shape}

-- ---- leaves
-- digits of a leaf as they are
same_digits : (a : LeafValue) → IsFilled a → in_leaf a.leaf a.digits ≡ a
same_digits a h = ap {B = LeafValue} (λ ds. record { leaf = a.leaf; digits = ds }) (of_four a.leaf.four refl)
  where
    of_four : (b : Bool) → a.leaf.four ≡ b → (if b then a.digits else map two_state a.digits) ≡ a.digits
    of_four true e = refl
    of_four false e = known_digits a.digits (h.two e)

one_back : (v : Value) (a : Leaf) → shape_of v ≡ a ∷ [] → v ≡ one (only v)
one_back [] a h = absurd (omega (arith, ap length h))
one_back (x ∷ []) a h = refl
one_back (x ∷ y ∷ v) a h = absurd (omega (arith, ap length h))

none_back : (v : Value) → shape_of v ≡ [] → v ≡ []
none_back [] h = refl
none_back (x ∷ v) h = absurd (omega (arith, ap length h))

-- ---- digits that are written twice
two_again : (d : Digit) → two_state (two_state d) ≡ two_state d
two_again Zero = refl
two_again One = refl
two_again X = refl
two_again Z = refl

-- the same digits in two states
abbrev SameTwo : Places → Places → Type 0
SameTwo f g = (i : ℕ) → option_map two_state (f i) ≡ option_map two_state (g i)

begun_two : (l : ℕ) (f g : Places) → SameTwo f g → SameTwo (begun l f) (begun l g)
begun_two zero f g h i = h i
begun_two (suc l) f g h zero = refl
begun_two (suc l) f g h (suc i) = begun_two l f g h i

passed_two : (b : ℕ) (f g : Places) → SameTwo f g → SameTwo (passed b f) (passed b g)
passed_two zero f g h i = h i
passed_two (suc b) f g h i = passed_two b (λ j. f (suc j)) (λ j. g (suc j)) (λ j. h (suc j)) i

place_two : (low : ℤ) (f g : Places) → SameTwo f g → SameTwo (at_place low f) (at_place low g)
place_two (pos l) f g h = begun_two l f g h
place_two (negsuc b) f g h = passed_two (suc b) f g h

get_two : (ds : List Digit) → SameTwo (slice_get (map two_state ds)) (slice_get ds)
get_two [] i = refl
get_two (d ∷ ds) zero = ap (λ x. Some x) (two_again d)
get_two (d ∷ ds) (suc i) = get_two ds i

overlay_two : (f g : Places) (ds : List Digit) → SameTwo f g → map two_state (overlay f ds) ≡ map two_state (overlay g ds)
overlay_two f g [] h = refl
overlay_two f g (d ∷ ds) h =
    two (λ x xs. x ∷ xs) (of_first (f 0) (g 0) (h 0)) (overlay_two (λ i. f (suc i)) (λ i. g (suc i)) ds (λ i. h (suc i)))
  where
    of_first : (o p : Option Digit) → option_map two_state o ≡ option_map two_state p → two_state (or_old o d) ≡ two_state (or_old p d)
    of_first None None e = refl
    of_first None (Some n) e = absurd (none-some (two_state n) e)
    of_first (Some n) None e = absurd (none-some (two_state n) (sym e))
    of_first (Some n) (Some m) e = same_Some (two_state n) (two_state m) e

-- what stands where a part has no digits
abbrev filler : LeafValue → Digit
filler x = if x.leaf.four then X else Zero

-- the digits of a part, changed
abbrev inner : ℤ → ℕ → Places → LeafValue → List Digit
inner low width f x = overlay f (digits_at (filler x) (Some low) width x.digits)

-- a part of a leaf is read, its digits change, and it is written back
part_again : (low : ℤ) (width : ℕ) (b : Leaf) (f : Places) (x : LeafValue) → b.four ≡ x.leaf.four → with_part (Some low) (in_leaf b (overlay f (part_at (Some low) width x).digits)) x ≡ in_leaf x.leaf (overlay (at_place low (lowest width f)) x.digits)
part_again low width b f x same =
    ap {B = LeafValue} (λ ds. record { leaf = x.leaf; digits = ds }) (of_four b.four refl)
  where
    whole : with_digits (Some low) (inner low width f x) x.digits ≡ overlay (at_place low (lowest width f)) x.digits
    whole = with_is low (inner low width f x) x.digits ∙ part_back low width (filler x) f x.digits

    of_four : (four : Bool) → b.four ≡ four → (if x.leaf.four then with_digits (Some low) (if b.four then (inner low width f x) else map two_state (inner low width f x)) x.digits else map two_state (with_digits (Some low) (if b.four then (inner low width f x) else map two_state (inner low width f x)) x.digits)) ≡ (if x.leaf.four then overlay (at_place low (lowest width f)) x.digits else map two_state (overlay (at_place low (lowest width f)) x.digits))
    of_four true e =
        two (λ (p q : Bool). if p then with_digits (Some low) (if q then (inner low width f x) else map two_state (inner low width f x)) x.digits else map two_state (with_digits (Some low) (if q then (inner low width f x) else map two_state (inner low width f x)) x.digits)) (sym same ∙ e) e
        ∙ (whole ∙ sym (ap (λ (p : Bool). if p then overlay (at_place low (lowest width f)) x.digits else map two_state (overlay (at_place low (lowest width f)) x.digits)) (sym same ∙ e)))
    of_four false e =
        two (λ (p q : Bool). if p then with_digits (Some low) (if q then (inner low width f x) else map two_state (inner low width f x)) x.digits else map two_state (with_digits (Some low) (if q then (inner low width f x) else map two_state (inner low width f x)) x.digits)) (sym same ∙ e) e
        ∙ ((ap (map two_state) (with_is low (map two_state (inner low width f x)) x.digits)
        ∙ (overlay_two (at_place low (slice_get (map two_state (inner low width f x)))) (at_place low (slice_get (inner low width f x))) x.digits (place_two low (slice_get (map two_state (inner low width f x))) (slice_get (inner low width f x)) (get_two (inner low width f x)))
        ∙ (ap (map two_state) (part_back low width (filler x) f x.digits))))
        ∙ sym (ap (λ (p : Bool). if p then overlay (at_place low (lowest width f)) x.digits else map two_state (overlay (at_place low (lowest width f)) x.digits)) (sym same ∙ e)))

-- ---- paths in a leaf
-- the digits of a leaf that a step changes, by those that are changed in its part
abbrev step_places : Step → Places → Places
step_places (IntoLeaves at zero) f = no_places
step_places (IntoLeaves at (suc n)) f = f
step_places (IntoItem None size) f = no_places
step_places (IntoItem (Some position) size) f = f
step_places (IntoPart None width) f = no_places
step_places (IntoPart (Some low) width) f = at_place low (lowest width f)

abbrev places_of : List Step → Places → Places
places_of [] f = f
places_of (step ∷ path) f = step_places step (places_of path f)

unchanged : (x : LeafValue) → IsFilled x → one (in_leaf x.leaf (overlay no_places x.digits)) ≡ one x
unchanged x h = ap one (ap (in_leaf x.leaf) (overlay_none no_places x.digits (λ i. refl)) ∙ same_digits x h)

none_repeated : (size : ℕ) → repeated size [] ≡ []
none_repeated zero = refl
none_repeated (suc size) = none_repeated size

-- an array of one leaf has one element
one_each : (size : ℕ) (leaf : Leaf) (r : List Leaf) → item_shape size (leaf ∷ []) ≡ Some r → 1 / size ≡ 1
one_each size leaf r h =
    let parts = where_so_back (nat_lt 0 size && is_same_shape (leaf ∷ []) (repeated size (element_shape size (leaf ∷ [])))) (element_shape size (leaf ∷ [])) r h in
    of_count (1 / size) (div-le_self 1 size) (and_parts (nat_lt 0 size) (is_same_shape (leaf ∷ []) (repeated size (element_shape size (leaf ∷ [])))) parts.0).1
  where
    of_count : (n : ℕ) → n ≤ 1 → is_same_shape (leaf ∷ []) (repeated size (take n (leaf ∷ []))) ≡ true → n ≡ 1
    of_count zero low same = false_is (ap (is_same_shape (leaf ∷ [])) (sym (none_repeated size)) ∙ same)
    of_count (suc zero) low same = refl
    of_count (suc (suc n)) low same = absurd (omega (arith, low))

-- where the step leads to the leaf itself
whole_leaf : (path : List Step) (x : LeafValue) (new : Value) (f : Places) → written path new (one x) ≡ one (in_leaf x.leaf (overlay f x.digits)) → with_leaves 0 1 (written path new (leaves_at 0 1 (one x))) (one x) ≡ one (in_leaf x.leaf (overlay f x.digits))
whole_leaf path x new f h = ap (λ w. with_leaves 0 1 w (one x)) h

-- a write through a path in a leaf
below : (path : List Step) (x : LeafValue) (r : List Leaf) (new : Value) → Leads path (x.leaf ∷ []) r → IsFilled x → IsValueOf r new → written path new (one x) ≡ one (in_leaf x.leaf (overlay (places_of path (slice_get (only new).digits)) x.digits))
below [] x r new leads h is =
    let same : (only new).leaf ≡ x.leaf = only_leaf new x.leaf (is.leaves ∙ sym leads) in
    let filled = only_filled new is.filled in
    let long : length x.digits ≡ length (only new).digits = h.long ∙ (sym (ap (λ (l : Leaf). l.width) same) ∙ sym filled.long) in
    one_back new x.leaf (is.leaves ∙ sym leads)
    ∙ (ap one (sym (same_digits (only new) filled))
    ∙ two (λ (l : Leaf) ds. one (in_leaf l ds)) same (sym (overlay_whole x.digits (only new).digits long)))
below (IntoLeaves zero zero ∷ path) x r new leads h is =
    ap (λ w. with_leaves 0 0 w (one x)) (none_back (written path new []) (written_has path leads.0 r leads.2 new [] leads.1.1 is.leaves ∙ sym leads.1.1))
    ∙ sym (unchanged x h)
below (IntoLeaves (suc zero) zero ∷ path) x r new leads h is =
    ap (λ w. with_leaves 1 0 w (one x)) (none_back (written path new []) (written_has path leads.0 r leads.2 new [] leads.1.1 is.leaves ∙ sym leads.1.1))
    ∙ sym (unchanged x h)
below (IntoLeaves (suc (suc at)) zero ∷ path) x r new leads h is = let low = leads.1.0 in absurd (omega (arith, low))
below (IntoLeaves zero (suc zero) ∷ path) x r new leads h is =
    whole_leaf path x new (places_of path (slice_get (only new).digits)) (below path x r new (subst (λ m. Leads path m r) (sym leads.1.1) leads.2) h is)
below (IntoLeaves zero (suc (suc n)) ∷ path) x r new leads h is = let low = leads.1.0 in absurd (omega (arith, low))
below (IntoLeaves (suc at) (suc n) ∷ path) x r new leads h is = let low = leads.1.0 in absurd (omega (arith, low))
below (IntoItem None size ∷ path) x r new leads h is = sym (unchanged x h)
below (IntoItem (Some position) size ∷ path) x r new leads h is =
    let each = one_each size x.leaf leads.0 leads.1.0 in
    let where_is = item_where size position (x.leaf ∷ []) leads.0 leads.1.0 leads.1.1 in
    let inside = where_is.0 in
    let first : position * (1 / size) ≡ 0 = let at_most : position * (1 / size) + (1 / size) ≤ 1 = inside in omega (arith, at_most, each) in
    let whole : x.leaf ∷ [] ≡ leads.0 = sym (two (λ k n. leaves_at k n (x.leaf ∷ [])) first each) ∙ where_is.1 in
    two (λ k n. with_leaves k n (written path new (leaves_at k n (one x))) (one x)) first each
    ∙ whole_leaf path x new (places_of path (slice_get (only new).digits)) (below path x r new (subst (λ m. Leads path m r) (sym whole) leads.2) h is)
below (IntoPart None width ∷ path) x r new leads h is =
    ap (λ ds. one (in_leaf x.leaf ds)) (sym (overlay_none no_places x.digits (λ i. refl)))
below (IntoPart (Some low) width ∷ path) x r new leads h is =
    let leaf : x.leaf ≡ leads.1.0 = ap (λ l. get_or l 0 x.leaf) leads.1.1 in
    let to : leads.0 ≡ unsigned_leaf width x.leaf.four ∷ [] = leads.1.2 ∙ ap (λ (l : Leaf). unsigned_leaf width l.four ∷ []) (sym leaf) in
    ap (λ v. one (with_part (Some low) (only v) x)) (below path (part_at (Some low) width x) r new (subst (λ m. Leads path m r) to leads.2) (part_filled (Some low) width x h) is)
    ∙ ap one (part_again low width (unsigned_leaf width x.leaf.four) (places_of path (slice_get (only new).digits)) x refl)

-- ---- leaves of leaves
pub nothing_taken : {A : Type 0} (n : ℕ) → take {A = A} n [] ≡ []
nothing_taken zero = refl
nothing_taken (suc n) = refl

pub nothing_dropped : {A : Type 0} (n : ℕ) → drop {A = A} n [] ≡ []
nothing_dropped zero = refl
nothing_dropped (suc n) = refl

pub in_parts : {A : Type 0} (first count : ℕ) (s : List A) → take first s ++ (take count (drop first s) ++ drop (first + count) s) ≡ s
in_parts first count s =
    ap (λ l. take first s ++ (take count (drop first s) ++ l)) (sym (drop-drop count first s))
    ∙ (ap (λ l. take first s ++ l) (take-append-drop count (drop first s)) ∙ take-append-drop first s)

-- leaves replaced by themselves
pub itself : (first count : ℕ) (v : Value) → with_leaves first count (leaves_at first count v) v ≡ v
itself first count v = in_parts first count v

pub taken_inside : {A : Type 0} (c f n : ℕ) (xs : List A) → f + c ≤ n → take c (drop f (take n xs)) ≡ take c (drop f xs)
taken_inside c f n [] low = ap (λ l. take c (drop f l)) (nothing_taken n)
taken_inside zero zero zero (x ∷ xs) low = refl
taken_inside zero zero (suc n) (x ∷ xs) low = refl
taken_inside (suc c) zero zero (x ∷ xs) low = absurd (omega (arith, low))
taken_inside (suc c) zero (suc n) (x ∷ xs) low =
    ap (λ l. x ∷ l) (taken_inside c zero n xs (omega (arith, low)))
taken_inside c (suc f) zero (x ∷ xs) low = absurd (omega (arith, low))
taken_inside c (suc f) (suc n) (x ∷ xs) low = taken_inside c f n xs (omega (arith, low))

nest_at : {A : Type 0} (first count f c : ℕ) (v : List A) → f + c ≤ count → leaves_at f c (leaves_at first count v) ≡ leaves_at (first + f) c v
nest_at first count f c v low = taken_inside c f count (drop first v) low ∙ ap (take c) (drop-drop f first v)

take_sum : {A : Type 0} (n m : ℕ) (l : List A) → take (n + m) l ≡ take n l ++ take m (drop n l)
take_sum n m l =
    let low : n ≤ n + m = omega arith in
    sym (take-append-drop n (take (n + m) l)) ∙ two (λ x y. x ++ y) (take-take n (n + m) l low) (drop-take n m l)

drop_front : {A : Type 0} (k n : ℕ) (l : List A) → k ≤ n → drop k (take n l) ++ drop n l ≡ drop k l
drop_front k n [] low =
    two (λ x y. x ++ y) (ap (drop k) (nothing_taken n) ∙ nothing_dropped k) (nothing_dropped n) ∙ sym (nothing_dropped k)
drop_front zero zero (x ∷ l) low = refl
drop_front zero (suc n) (x ∷ l) low = ap (λ m. x ∷ m) (take-append-drop n l)
drop_front (suc k) zero (x ∷ l) low = absurd (omega (arith, low))
drop_front (suc k) (suc n) (x ∷ l) low = drop_front k n l (omega (arith, low))

-- leaves of leaves replaced
nest_with : (first count f c : ℕ) (w v : Value) → f + c ≤ count → with_leaves (first + f) c w v ≡ with_leaves first count (with_leaves f c w (leaves_at first count v)) v
nest_with first count f c w v low =
    two (λ x y. x ++ (w ++ y)) (take_sum first f v) same_rest
    ∙ (append_assoc (take first v) (take f (drop first v)) (w ++ drop (f + c) (drop first v))
    ∙ ap (λ l. take first v ++ l) (sym inner))
  where
    same_rest : drop (first + f + c) v ≡ drop (f + c) (drop first v)
    same_rest = let e : first + f + c ≡ first + (f + c) = omega arith in ap (λ n. drop n v) e ∙ sym (drop-drop (f + c) first v)

    within : f ≤ count
    within = omega (arith, low)

    inner : with_leaves f c w (leaves_at first count v) ++ drop (first + count) v ≡ take f (drop first v) ++ (w ++ drop (f + c) (drop first v))
    inner =
        append_assoc (take f (leaves_at first count v)) (w ++ drop (f + c) (leaves_at first count v)) (drop (first + count) v)
        ∙ two (λ x y. x ++ y) (take-take f count (drop first v) within)
        (append_assoc w (drop (f + c) (leaves_at first count v)) (drop (first + count) v)
        ∙ ap (λ l. w ++ l) (ap (λ l. drop (f + c) (leaves_at first count v) ++ l) (sym (drop-drop count first v)) ∙ drop_front (f + c) count (drop first v) low))

-- ---- what is put is performed
module _ (v : ℕ) (old new : Value) where
  abbrev Performs : Spot → Value → Type 0
  Performs spot value = after_put (put_at v old spot new) old ≡ value

  nothing_done : Performs Nowhere old
  unfolding after_put
  nothing_done = refl_of old
    where
      refl_of : (w : Value) → with_leaves 0 0 [] w ≡ w
      refl_of [] = refl
      refl_of (x ∷ w) = refl

  nowhere_on : (path : List Step) → spot_of path Nowhere ≡ Nowhere
  nowhere_on [] = refl
  nowhere_on (step ∷ path) = nowhere_on path

  nowhere_done : (path : List Step) → Performs (spot_of path Nowhere) old
  nowhere_done path = ap (λ spot. after_put (put_at v old spot new) old) (nowhere_on path) ∙ nothing_done

  abbrev given : Places
  given = slice_get (only new).digits

  module _ (at : ℕ) (x : LeafValue) (there : leaves_at at 1 old ≡ one x) (h : IsFilled x) where
    -- the variable with other digits in this leaf
    abbrev changed : Places → Value
    changed f = with_leaves at 1 (one (in_leaf x.leaf (overlay f x.digits))) old

    changed_same : (f g : Places) → ((i : ℕ) → i < length x.digits → f i ≡ g i) → changed f ≡ changed g
    changed_same f g same = ap (λ ds. with_leaves at 1 (one (in_leaf x.leaf ds)) old) (overlay_same f g x.digits same)

    unchanged_there : (f : Places) → ((i : ℕ) → i < length x.digits → f i ≡ None) → old ≡ changed f
    unchanged_there f none =
        sym (itself at 1 old)
        ∙ (ap (λ w. with_leaves at 1 w old) (there ∙ sym (unchanged x h)) ∙ sym (changed_same f no_places none))

    digits_performed : (low skip first end : ℕ) → Performs (AtDigits at low skip first end) (changed (window first end (first + skip - low) given))
    unfolding after_put
    digits_performed low skip first end =
        of_count (min end (only (leaves_at at 1 old)).leaf.width - first) refl
      where
        width_is : (only (leaves_at at 1 old)).leaf.width ≡ length x.digits
        width_is = ap (λ w. (only w).leaf.width) there ∙ sym h.long

        of_count : (n : ℕ) → min end (only (leaves_at at 1 old)).leaf.width - first ≡ n → after_put (digits_put v at first (first + skip - low) (only new) n) old ≡ changed (window first end (first + skip - low) given)
        of_count zero is =
            nothing_done
            ∙ unchanged_there (window first end (first + skip - low) given) (λ i low_i. window_none first end (first + skip - low) (length x.digits) given i low_i (ap (λ w. min end w - first) (sym width_is) ∙ is))
        of_count (suc n) is =
            ap (λ w. with_leaves at 1 (one (with_part (Some (pos first)) (part_of (only new) (first + skip - low) (suc n)) (only w))) old) there
            ∙ (ap (λ ds. with_leaves at 1 (one (in_leaf x.leaf ds)) old) (with_is (pos first) (take (suc n) (drop (first + skip - low) (only new).digits)) x.digits)
            ∙ changed_same (begun first (slice_get (take (suc n) (drop (first + skip - low) (only new).digits)))) (window first end (first + skip - low) given)
            (λ i low_i. taken_window first (suc n) (first + skip - low) (only new).digits i ∙ window_ends first end (first + skip - low) (length x.digits) (suc n) given i low_i (ap (λ w. min end w - first) (sym width_is) ∙ is)))

    -- a path from digits of the leaf on
    digits_done : (path : List Step) (low skip first end : ℕ) → low ≤ first + skip → Performs (spot_of path (AtDigits at low skip first end)) (changed (window first end (first + skip - low) (places_of path given)))
    digits_done [] low skip first end inner = digits_performed low skip first end
    digits_done (IntoLeaves first_leaf zero ∷ path) low skip first end inner =
        nowhere_done path ∙ unchanged_there (window first end (first + skip - low) no_places) (λ i l. window_of_none first end (first + skip - low) no_places (λ j. refl) i)
    digits_done (IntoLeaves first_leaf (suc n) ∷ path) low skip first end inner = digits_done path low skip first end inner
    digits_done (IntoItem None size ∷ path) low skip first end inner =
        nowhere_done path ∙ unchanged_there (window first end (first + skip - low) no_places) (λ i l. window_of_none first end (first + skip - low) no_places (λ j. refl) i)
    digits_done (IntoItem (Some position) size ∷ path) low skip first end inner =
        digits_done path low skip first end inner
    digits_done (IntoPart None width ∷ path) low skip first end inner =
        nowhere_done path ∙ unchanged_there (window first end (first + skip - low) no_places) (λ i l. window_of_none first end (first + skip - low) no_places (λ j. refl) i)
    digits_done (IntoPart (Some (pos more)) width ∷ path) low skip first end inner =
        digits_done path (low + more) skip (max first (low + more - skip)) (min end (low + more + width - skip)) (omega (arith, inner))
        ∙ changed_same (window (max first (low + more - skip)) (min end (low + more + width - skip)) (max first (low + more - skip) + skip - (low + more)) (places_of path given)) (window first end (first + skip - low) (begun more (lowest width (places_of path given))))
        (λ i l. sym (narrower_up low skip first end more width (places_of path given) i inner))
    digits_done (IntoPart (Some (negsuc b)) width ∷ path) low skip first end inner =
        digits_done path low (skip + suc b) (max first (low - (skip + suc b))) (min end (low + width - (skip + suc b))) (omega (arith, inner))
        ∙ changed_same (window (max first (low - (skip + suc b))) (min end (low + width - (skip + suc b))) (max first (low - (skip + suc b)) + (skip + suc b) - low) (places_of path given)) (window first end (first + skip - low) (passed (suc b) (lowest width (places_of path given))))
        (λ i l. sym (narrower_down low skip first end (suc b) width (places_of path given) i inner))

    -- a step into the leaf, and a path from there on
    part_done : (path : List Step) (start : Option ℤ) (width : ℕ) → Performs (spot_of path (step_into (IntoPart start width) at 1)) (changed (step_places (IntoPart start width) (places_of path given)))
    part_done path None width = nowhere_done path ∙ unchanged_there no_places (λ i l. refl)
    part_done path (Some (pos low)) width =
        digits_done path low 0 low (low + width) (omega arith)
        ∙ changed_same (window low (low + width) (low + 0 - low) (places_of path given)) (begun low (lowest width (places_of path given))) (λ i l. sym (part_window (pos low) width (places_of path given) i))
    part_done path (Some (negsuc b)) width =
        digits_done path 0 (suc b) 0 (width - suc b) (omega arith)
        ∙ changed_same (window 0 (width - suc b) (0 + suc b - 0) (places_of path given)) (passed (suc b) (lowest width (places_of path given))) (λ i l. sym (part_window (negsuc b) width (places_of path given) i))

  module _ (filled : Filled old) (r : List Leaf) (is : IsValueOf r new) where
    abbrev Done : List Step → ℕ → ℕ → Type 0
    Done path first count = Performs (spot_of path (AtLeaves first count)) (with_leaves first count (written path new (leaves_at first count old)) old)

    long_there : (first count : ℕ) → first + count ≤ length old → length (leaves_at first count old) ≡ count
    long_there first count low = length-take-le count (drop first old) (omega (arith, low, length-drop first old))

    long_shape : (first count : ℕ) (mid : List Leaf) → first + count ≤ length old → shape_of (leaves_at first count old) ≡ mid → length mid ≡ count
    long_shape first count mid low h =
        ap length (sym h) ∙ (length-map (leaves_at first count old) (λ (x : LeafValue). x.leaf) ∙ long_there first count low)

    -- where a step leads to leaves of those leaves
    inner_done : (path : List Step) (first count f c : ℕ) → f + c ≤ count → Done path (first + f) c → Performs (spot_of path (AtLeaves (first + f) c)) (with_leaves first count (with_leaves f c (written path new (leaves_at f c (leaves_at first count old))) (leaves_at first count old)) old)
    inner_done path first count f c inside done =
        done
        ∙ (ap (λ w. with_leaves (first + f) c (written path new w) old) (sym (nest_at first count f c old inside))
        ∙ nest_with first count f c (written path new (leaves_at f c (leaves_at first count old))) old inside)

    nested : (first count f c : ℕ) (next : List Leaf) → f + c ≤ count → shape_of (leaves_at f c (leaves_at first count old)) ≡ next → shape_of (leaves_at (first + f) c old) ≡ next
    nested first count f c next inside h = ap shape_of (sym (nest_at first count f c old inside)) ∙ h

    leaves_done : (path : List Step) (first count : ℕ) (mid : List Leaf) → first + count ≤ length old → shape_of (leaves_at first count old) ≡ mid → Leads path mid r → Done path first count
    unfolding after_put
    leaves_done [] first count mid low h leads =
        ap (λ n. with_leaves first n new old) (sym (length-map new (λ (x : LeafValue). x.leaf)) ∙ (ap length (is.leaves ∙ sym leads) ∙ long_shape first count mid low h))
    leaves_done (IntoLeaves f c ∷ path) first count mid low h leads =
        let inside : f + c ≤ length mid = leads.1.0 in
        let within : f + c ≤ count = omega (arith, inside, long_shape first count mid low h) in
        inner_done path first count f c within
        (leaves_done path (first + f) c leads.0 (omega (arith, low, within)) (nested first count f c leads.0 within (leaves_has f c (leaves_at first count old) ∙ (ap (leaves_at f c) h ∙ leads.1.1))) leads.2)
    leaves_done (IntoItem None size ∷ path) first count mid low h leads =
        nowhere_done path ∙ sym (itself first count old)
    leaves_done (IntoItem (Some position) size ∷ path) first count mid low h leads =
        let each : leaves_each size mid ≡ count / size = ap (λ n. n / size) (long_shape first count mid low h) in
        let own : leaves_each size (leaves_at first count old) ≡ count / size = ap (λ n. n / size) (long_there first count low) in
        let where_is = item_where size position mid leads.0 leads.1.0 leads.1.1 in
        let inside : position * (count / size) + count / size ≤ length mid = subst (λ n. position * n + n ≤ length mid) each where_is.0 in
        let within : position * (count / size) + count / size ≤ count = omega (arith, inside, long_shape first count mid low h) in
        inner_done path first count (position * (count / size)) (count / size) within
        (leaves_done path (first + position * (count / size)) (count / size) leads.0 (omega (arith, low, within)) (nested first count (position * (count / size)) (count / size) leads.0 within (leaves_has (position * (count / size)) (count / size) (leaves_at first count old) ∙ (ap (leaves_at (position * (count / size)) (count / size)) h ∙ (sym (ap (λ n. leaves_at (position * n) n mid) each) ∙ where_is.1)))) leads.2)
        ∙ ap (λ n. with_leaves first count (with_leaves (position * n) n (written path new (leaves_at (position * n) n (leaves_at first count old))) (leaves_at first count old)) old) (sym own)
    leaves_done (IntoPart start width ∷ path) first count mid low h leads =
        let single : mid ≡ leads.1.0 ∷ [] = leads.1.1 in
        let one_count : count ≡ 1 = sym (long_shape first count mid low h) ∙ ap length single in
        subst (Done (IntoPart start width ∷ path) first) (sym one_count) (one_done single (subst (λ n. shape_of (leaves_at first n old) ≡ mid) one_count h))
      where
        one_done : mid ≡ leads.1.0 ∷ [] → shape_of (leaves_at first 1 old) ≡ mid → Done (IntoPart start width ∷ path) first 1
        one_done single g =
            let has : shape_of (leaves_at first 1 old) ≡ leads.1.0 ∷ [] = g ∙ single in
            let there = one_back (leaves_at first 1 old) leads.1.0 has in
            let x_filled = only_filled (leaves_at first 1 old) (leaves_filled first 1 old filled) in
            let to : Leads (IntoPart start width ∷ path) ((only (leaves_at first 1 old)).leaf ∷ []) r = subst (λ l. Leads (IntoPart start width ∷ path) l r) (single ∙ ap (λ l. l ∷ []) (sym (only_leaf (leaves_at first 1 old) leads.1.0 has))) leads in
            part_done first (only (leaves_at first 1 old)) there x_filled path start width
            ∙ sym (ap (λ w. with_leaves first 1 w old) (ap (written (IntoPart start width ∷ path) new) there ∙ below (IntoPart start width ∷ path) (only (leaves_at first 1 old)) r new to x_filled is))

pub whole_there : {A : Type 0} (s : List A) → leaves_at 0 (length s) s ≡ s
whole_there s = ap (take (length s)) (nothing_before s) ∙ take_all (length s) s (omega arith)
  where
    nothing_before : {A : Type 0} (s : List A) → drop 0 s ≡ s
    nothing_before [] = refl
    nothing_before (a ∷ s) = refl

nothing_behind : (w : Value) (s : Value) → with_leaves 0 (length s) w s ≡ w
nothing_behind w s =
    ap (λ l. w ++ l) (drop_all (0 + length s) s (omega arith)) ∙ append-nil w

-- a write that was put and is performed is the write through its path
pub put_is_write : (v : ℕ) (old new : Value) (path : List Step) (s r : List Leaf) → IsValueOf s old → Leads path s r → IsValueOf r new → after_put (put_of v old path new) old ≡ written path new old
put_is_write v old new path s r of leads is =
    leaves_done v old new of.filled r is path 0 (length old) s (omega arith) (ap shape_of (whole_there old) ∙ of.leaves) leads
    ∙ (nothing_behind (written path new (leaves_at 0 (length old) old)) old ∙ ap (written path new) (whole_there old))
