-- Parts of values have the digits of their leaves, and so has a value after a write.
use Rattle.std.proofs.Common.{◌≡◌, ℕ, zero, suc, ◌+◌, List, [], ◌∷◌, ◌++◌, length, map, take, drop, replicate, refl, ap, sym, ◌∙◌, arith}
use Rattle.std.specs.Prelude.{◌*◌, All, Bool, true, if◌then◌else◌, Option, Some, None, get_or, ℤ, pos, negsuc}
use Rattle.std.proofs.lemmas.Bool.{and_parts, true≢false}
use Rattle.std.proofs.lemmas.List.{length-append, length-replicate, take-append-drop}
use Rattle.std.proofs.lemmas.List.Elements.{All-append, All-cons, All-drop, All-head, All-tail, All-take}
use Rattle.nt_value.proofs.Congruence.{length-binary}
use Rattle.nt_value.proofs.Filled.{concat_filled, default_filled, default_leaf_filled, in_filled, known_append, padded_long, zeros_known}
use Rattle.nt_value.proofs.Words.{all_known-binary}
use Rattle.nt_value.specs.Arithmetic.{padded}
use Rattle.nt_value.specs.Digits.{LeafValue, IsFilled, all_known, is_known}
use Rattle.nt_value.specs.Operators.{unsigned_leaf}
use Rattle.nt_value.specs.Values.{default_value, shape_of}
use Rattle.nt_value.specs.declared.digit.Digit.{Digit}
use Rattle.nt_value.specs.declared.digit.Digit.TheVariants.{Zero, One, X, Z}
use Rattle.nt_value.specs.declared.leaf.Leaf.{Leaf}
use Rattle.nt_design.specs.Parts.{Value, concatenated, digits_at, gathered, int_leaf, int_value, item_at, leaves_at, leaves_each, one, only, over_lowest, part_at, part_by, Step, IntoItem, IntoLeaves, IntoPart, time_value, with_digits, with_leaves, with_part, with_part_by, written}

-- each leaf of a value has its digits
abbrev pub Filled : Value → Type 0
Filled value = All IsFilled value

pub none_filled : Filled []
none_filled = λ k i low. absurd (omega (arith, low))

pub all_none : All Filled []
all_none = λ k i low. absurd (omega (arith, low))

pub all_at : {A : Type 0} (P : A → Type 0) (xs : List A) (i : ℕ) (d : A) → P d → All P xs → P (get_or xs i d)
all_at P [] i d base h = base
all_at P (x ∷ xs) zero d base h = All-head P x xs h
all_at P (x ∷ xs) (suc i) d base h = all_at P xs i d base (All-tail P x xs h)

-- ---- values of one leaf
pub one_all : (a : LeafValue) → IsFilled a → Filled (one a)
one_all a h = All-cons IsFilled a [] h none_filled

pub only_filled : (v : Value) → Filled v → IsFilled (only v)
only_filled [] h = default_leaf_filled (unsigned_leaf 1 true)
only_filled (a ∷ v) h = All-head IsFilled a v h

number_filled : (leaf : Leaf) (digits : List Digit) → length digits ≡ leaf.width → all_known digits ≡ true → Filled (one (record { leaf = leaf; digits = digits }))
number_filled leaf digits h k =
    one_all (record { leaf = leaf; digits = digits }) (record { long = h; two = λ e. k })

pub int_filled : (n : ℕ) → Filled (int_value n)
int_filled n = number_filled int_leaf _ (length-binary 32 n) (all_known-binary 32 n)

pub time_filled : (n : ℕ) → Filled (time_value n)
time_filled n = number_filled (unsigned_leaf 64 true) _ (length-binary 64 n) (all_known-binary 64 n)

-- ---- leaves
pub leaves_filled : (first count : ℕ) (v : Value) → Filled v → Filled (leaves_at first count v)
leaves_filled first count v h = All-take IsFilled count (drop first v) (All-drop IsFilled first v h)

pub with_leaves_filled : (first count : ℕ) (part v : Value) → Filled part → Filled v → Filled (with_leaves first count part v)
with_leaves_filled first count part v h k =
    All-append IsFilled (take first v) (part ++ drop (first + count) v) (All-take IsFilled first v k)
    (All-append IsFilled part (drop (first + count) v) h (All-drop IsFilled (first + count) v k))

pub item_filled : (size : ℕ) (position : Option ℕ) (v : Value) → Filled v → Filled (item_at size position v)
item_filled size None v h = default_filled (shape_of (take (leaves_each size v) v))
item_filled size (Some position) v h = leaves_filled (position * leaves_each size v) (leaves_each size v) v h

-- ---- several values
pub concatenated_filled : (vs : List Value) → All Filled vs → IsFilled (concatenated vs)
concatenated_filled [] h = record { long = refl; two = λ e. refl }
concatenated_filled (v ∷ vs) h =
    concat_filled (only v) (concatenated vs) (only_filled v (All-head Filled v vs h)) (concatenated_filled vs (All-tail Filled v vs h))

pub gathered_filled : (vs : List Value) → All Filled vs → Filled (gathered vs)
gathered_filled [] h = none_filled
gathered_filled (v ∷ vs) h =
    All-append IsFilled v (gathered vs) (All-head Filled v vs h) (gathered_filled vs (All-tail Filled v vs h))

pub defaults_filled : (shapes : List (List Leaf)) → All Filled (map default_value shapes)
defaults_filled [] = all_none
defaults_filled (s ∷ shapes) =
    All-cons Filled (default_value s) (map default_value shapes) (default_filled s) (defaults_filled shapes)

-- ---- digits
known_drop : (n : ℕ) (ds : List Digit) → all_known ds ≡ true → all_known (drop n ds) ≡ true
known_drop zero ds h = h
known_drop (suc n) [] h = refl
known_drop (suc n) (d ∷ ds) h = known_drop n ds (and_parts (is_known d) (all_known ds) h).1

known_padded : (n : ℕ) (ds : List Digit) → all_known ds ≡ true → all_known (padded n Zero ds) ≡ true
known_padded zero ds h = refl
known_padded (suc n) [] h = known_padded n [] refl
known_padded (suc n) (Zero ∷ ds) h = known_padded n ds h
known_padded (suc n) (One ∷ ds) h = known_padded n ds h
known_padded (suc n) (X ∷ ds) h = absurd (true≢false (sym h))
known_padded (suc n) (Z ∷ ds) h = absurd (true≢false (sym h))

known_at : (low : Option ℤ) (width : ℕ) (ds : List Digit) → all_known ds ≡ true → all_known (digits_at Zero low width ds) ≡ true
known_at None width ds h = zeros_known width
known_at (Some (pos low)) width ds h = known_padded width (drop low ds) (known_drop low ds h)
known_at (Some (negsuc below)) width ds h =
    known_padded width (replicate (suc below) Zero ++ ds) (known_append (replicate (suc below) Zero) ds (zeros_known (suc below)) h)

at_long : (fill : Digit) (low : Option ℤ) (width : ℕ) (ds : List Digit) → length (digits_at fill low width ds) ≡ width
at_long fill None width ds = length-replicate width fill
at_long fill (Some (pos low)) width ds = padded_long width fill (drop low ds)
at_long fill (Some (negsuc below)) width ds = padded_long width fill (replicate (suc below) fill ++ ds)

pub part_filled : (low : Option ℤ) (width : ℕ) (a : LeafValue) → IsFilled a → IsFilled (part_at low width a)
part_filled low width a h = record {
  long = at_long (if a.leaf.four then X else Zero) low width a.digits;
  two = λ e. ap (λ (four : Bool). all_known (digits_at (if four then X else Zero) low width a.digits)) e ∙ known_at low width a.digits (h.two e);
}

pub over_long : (ds new : List Digit) → length (over_lowest ds new) ≡ length ds
over_long [] new = refl
over_long (d ∷ ds) [] = refl
over_long (d ∷ ds) (n ∷ ns) = ap suc (over_long ds ns)

pub with_long : (low : Option ℤ) (new ds : List Digit) → length (with_digits low new ds) ≡ length ds
with_long None new ds = refl
with_long (Some (pos low)) new ds =
    length-append (take low ds) (over_lowest (drop low ds) new)
    ∙ (ap (λ n. length (take low ds) + n) (over_long (drop low ds) new)
    ∙ (sym (length-append (take low ds) (drop low ds)) ∙ ap length (take-append-drop low ds)))
with_long (Some (negsuc below)) new ds = over_long ds (drop (suc below) new)

pub with_part_filled : (low : Option ℤ) (part a : LeafValue) → IsFilled a → IsFilled (with_part low part a)
with_part_filled low part a h = in_filled a.leaf (with_digits low part.digits a.digits) (with_long low part.digits a.digits ∙ h.long)

-- ---- paths
pub part_by_filled : (step : Step) (v : Value) → Filled v → Filled (part_by step v)
part_by_filled (IntoLeaves first count) v h = leaves_filled first count v h
part_by_filled (IntoItem position size) v h = item_filled size position v h
part_by_filled (IntoPart low width) v h = one_all (part_at low width (only v)) (part_filled low width (only v) (only_filled v h))

pub with_part_by_filled : (step : Step) (part v : Value) → Filled part → Filled v → Filled (with_part_by step part v)
with_part_by_filled (IntoLeaves first count) part v h k = with_leaves_filled first count part v h k
with_part_by_filled (IntoItem None size) part v h k = k
with_part_by_filled (IntoItem (Some position) size) part v h k =
    with_leaves_filled (position * leaves_each size v) (leaves_each size v) part v h k
with_part_by_filled (IntoPart low width) part v h k =
    one_all (with_part low (only part) (only v)) (with_part_filled low (only part) (only v) (only_filled v k))

pub written_filled : (path : List Step) (new v : Value) → Filled new → Filled v → Filled (written path new v)
written_filled [] new v h k = h
written_filled (step ∷ path) new v h k =
    with_part_by_filled step (written path new (part_by step v)) v
    (written_filled path new (part_by step v) h (part_by_filled step v k)) k
