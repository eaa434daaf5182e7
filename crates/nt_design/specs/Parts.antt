-- Values of several leaves, and their parts: what a read of a part gives, and what a write of one leaves (IEEE 1800-2017,
-- clauses 7, 10 and 11).
use Rattle.std.specs.Prelude.{ℕ, suc, ◌+◌, ◌-◌, ◌*◌, ◌/◌, nat_lt, Bool, true, false, not, ◌&&◌, if◌then◌else◌, List, [], ◌∷◌, ◌++◌, Option, Some, None, get_or, length, take, drop, replicate, ℤ, pos, negsuc}
use Rattle.std.specs.List.{flat_map}
use Rattle.nt_value.specs.Arithmetic.{padded}
use Rattle.nt_value.specs.Digits.{LeafValue, all_known}
use Rattle.nt_value.specs.Logic.{truth_of, is_same_digits}
use Rattle.nt_value.specs.Operators.{in_leaf, unsigned_leaf, number, choice_of, concat_of}
use Rattle.nt_value.specs.Values.{binary, default_leaf, default_value, shape_of}
use Rattle.nt_value.specs.declared.digit.Digit.{Digit}
use Rattle.nt_value.specs.declared.digit.Digit.TheVariants.{Zero, X}
use Rattle.nt_value.specs.declared.leaf.Leaf.{Leaf}

-- ---- values of one leaf
-- a value: its leaves in order
abbrev pub Value : Type 0
Value = List LeafValue

-- what stands where there is no leaf: one digit, x
abbrev pub no_leaf : LeafValue
no_leaf = default_leaf (unsigned_leaf 1 true)

-- the leaf of a value that has one
abbrev pub only : Value → LeafValue
only value = get_or value 0 no_leaf

-- a value of one leaf
abbrev pub one : LeafValue → Value
one leaf = leaf ∷ []

-- a value as a test: true, false or unknown (12.4)
abbrev pub test_of : Value → Digit
test_of value = truth_of (only value).digits

-- the number of a value of one leaf, or none where a digit is x or z
abbrev pub number_in : Value → Option ℤ
number_in value = if all_known (only value).digits then Some (number (only value)) else None

-- a number as an `int` (6.11.1)
abbrev pub int_leaf : Leaf
int_leaf = record { width = 32; signed = true; four = false }

abbrev pub int_value : ℕ → Value
int_value n = one (record { leaf = int_leaf; digits = binary 32 n })

-- a moment as a `time` (6.11.1, 20.3.1)
abbrev pub time_leaf : Leaf
time_leaf = unsigned_leaf 64 true

abbrev pub time_value : ℕ → Value
time_value moment = one (record { leaf = time_leaf; digits = binary 64 moment })

-- two values of one leaf are the same, x and z too, as `case` compares them (12.5)
abbrev pub is_same_value : Value → Value → Bool
is_same_value a b = is_same_digits (only a).digits (only b).digits

-- ---- several values
-- two values joined leaf by leaf as the arms of a `?:` with an unknown test (11.4.11; that the leaves of a structure or
-- an array are joined one by one is this project's rule)
abbrev pub merged : Value → Value → Value
merged [] bs = []
merged (a ∷ as') [] = []
merged (a ∷ as') (b ∷ bs) = choice_of X a b ∷ merged as' bs

-- a concatenation of values of one leaf, the first above (11.4.12)
abbrev pub concatenated : List Value → LeafValue
concatenated [] = record { leaf = unsigned_leaf 0 false; digits = [] }
concatenated (v ∷ vs) = concat_of (only v) (concatenated vs)

-- the leaves of several values, one value after the other (10.9)
abbrev pub gathered : List Value → Value
gathered values = flat_map (λ value. value) values

-- ---- leaves
-- so many leaves from one on
abbrev pub leaves_at : {A : Type 0} → ℕ → ℕ → List A → List A
leaves_at first count leaves = take count (drop first leaves)

-- the same leaves replaced
abbrev pub with_leaves : ℕ → ℕ → Value → Value → Value
with_leaves first count part value = take first value ++ (part ++ drop (first + count) value)

-- ---- elements of arrays
-- where an element stands, counted from the leftmost as 0: none past the bounds, and none for an index with x or z
-- (7.4.6)
abbrev pub position_of : ℕ → ℕ → Bool → Option ℤ → Option ℕ
position_of low size up None = None
position_of low size up (Some (negsuc i)) = None
position_of low size up (Some (pos i)) =
    if not (nat_lt i low) && nat_lt i (low + size)
    then Some (if up then i - low else low + (size - 1) - i)
    else None

-- how many leaves an element has
abbrev pub leaves_each : {A : Type 0} → ℕ → List A → ℕ
leaves_each size leaves = length leaves / size

-- an element of an array, or the default where there is none (7.4.6, Table 7-1)
abbrev pub item_at : ℕ → Option ℕ → Value → Value
item_at size None value = default_value (shape_of (take (leaves_each size value) value))
item_at size (Some position) value = leaves_at (position * leaves_each size value) (leaves_each size value) value

-- an element replaced; a write of none does nothing (7.4.6)
abbrev pub with_item : ℕ → Option ℕ → Value → Value → Value
with_item size None part value = value
with_item size (Some position) part value =
    with_leaves (position * leaves_each size value) (leaves_each size value) part value

-- an element of a resolver's argument, or the default of its leaves where there is none (7.4.6, Table 7-1)
abbrev pub element_at : List Leaf → List Value → Option ℕ → Value
element_at shape many None = default_value shape
element_at shape many (Some position) = get_or many position (default_value shape)

-- ---- digits
-- so many digits from one on, and a fill for each that is outside
abbrev pub digits_at : Digit → Option ℤ → ℕ → List Digit → List Digit
digits_at fill None width ds = replicate width fill
digits_at fill (Some (pos low)) width ds = padded width fill (drop low ds)
digits_at fill (Some (negsuc below)) width ds = padded width fill (replicate (suc below) fill ++ ds)

-- a bit or part of a leaf, unsigned: x at each digit that is outside, or 0 in a leaf of two states (11.5.1)
abbrev pub part_at : Option ℤ → ℕ → LeafValue → LeafValue
part_at low width leaf =
    record {
      leaf = unsigned_leaf width leaf.leaf.four;
      digits = digits_at (if leaf.leaf.four then X else Zero) low width leaf.digits;
    }

-- the second digits in place of the first ones, from the lowest on, as far as the first ones go
abbrev pub over_lowest : List Digit → List Digit → List Digit
over_lowest [] new = []
over_lowest (d ∷ ds) [] = d ∷ ds
over_lowest (d ∷ ds) (n ∷ ns) = n ∷ over_lowest ds ns

-- digits replaced from one on: those outside are dropped, and all where no one knows from which on
abbrev pub with_digits : Option ℤ → List Digit → List Digit → List Digit
with_digits None new ds = ds
with_digits (Some (pos low)) new ds = take low ds ++ over_lowest (drop low ds) new
with_digits (Some (negsuc below)) new ds = over_lowest ds (drop (suc below) new)

-- a bit or part of a leaf replaced: a write changes the digits inside alone (11.5.1)
abbrev pub with_part : Option ℤ → LeafValue → LeafValue → LeafValue
with_part low part leaf = in_leaf leaf.leaf (with_digits low part.digits leaf.digits)

-- ---- paths
-- a step into a part of a value, its index or base evaluated
pub data Step : Type 0 where
  IntoLeaves : (first : ℕ) → (count : ℕ) → Step
  IntoItem : (position : Option ℕ) → (size : ℕ) → Step
  IntoPart : (low : Option ℤ) → (width : ℕ) → Step

-- the part of a value to which a step leads
abbrev pub part_by : Step → Value → Value
part_by (IntoLeaves first count) value = leaves_at first count value
part_by (IntoItem position size) value = item_at size position value
part_by (IntoPart low width) value = one (part_at low width (only value))

-- a value with the part to which a step leads replaced
abbrev pub with_part_by : Step → Value → Value → Value
with_part_by (IntoLeaves first count) part value = with_leaves first count part value
with_part_by (IntoItem position size) part value = with_item size position part value
with_part_by (IntoPart low width) part value = one (with_part low (only part) (only value))

-- a value with the part to which a path leads replaced (10.4)
abbrev pub written : List Step → Value → Value → Value
written [] new value = new
written (s ∷ path) new value = with_part_by s (written path new (part_by s value)) value
