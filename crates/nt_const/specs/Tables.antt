-- Leaves of operands and results, and values that need no other expression.
use Rattle.std.specs.Prelude.{◌≡◌, ℕ, zero, suc, ◌+◌, ◌-◌, ◌^◌, ◌<◌, ◌≤◌, nat_lt, nat_le, max, min, Bool, true, false, not, ◌&&◌, ◌||◌, if◌then◌else◌, List, [], ◌∷◌, ◌++◌, Option, Some, None, slice_get}
use Rattle.std.specs.Map.{lookup}
use Rattle.std.specs.Str.{bytes_eq}
use Rattle.nt_value.specs.Digits.{LeafValue, is_known, is_one, all_known, number_of}
use Rattle.nt_value.specs.Values.{default_leaf}
use Rattle.nt_value.specs.Operators.{unsigned_leaf, resize_of, part_of, put_part_of, concat_of}
use Rattle.nt_value.specs.declared.digit.Digit.{Digit}
use Rattle.nt_value.specs.declared.digit.Digit.TheVariants.{Zero}
use Rattle.nt_value.specs.declared.leaf.Leaf.{Leaf}
use Rattle.nt_value.specs.declared.literal.Literal.{Literal}
use Rattle.nt_value.specs.declared.operator.Unary.{Unary}
use Rattle.nt_value.specs.declared.operator.Unary.TheVariants as u
use Rattle.nt_value.specs.declared.operator.Binary.{Binary}
use Rattle.nt_value.specs.declared.operator.Binary.TheVariants as o
use Rattle.nt_ast.specs.Names.{path_name}
use Rattle.nt_ast.specs.declared.path.Path.{Path}
use Rattle.nt_const.specs.declared.seen.Seen.{Seen}
use Rattle.nt_const.specs.declared.seen.Seen.TheVariants as seen

-- the leaf in four states
abbrev pub full : Leaf → Leaf
full l = record { width = l.width; signed = l.signed; four = true }

-- the leaf with this sign
abbrev pub with_sign : Bool → Leaf → Leaf
with_sign s l = record { width = l.width; signed = s; four = l.four }

-- the leaf of two operands that take width and sign from each other: the larger width, and signed
-- where both are (IEEE 1800-2017, 11.6.1, 11.8.1)
abbrev pub joined : Leaf → Leaf → Leaf
joined a b = record { width = max a.width b.width; signed = a.signed && b.signed; four = a.four || b.four }

-- one digit of comparisons, logical operators and reductions (IEEE 1800-2017, 11.6.1, 11.8.1)
abbrev pub bit : Bool → Leaf
bit four = unsigned_leaf 1 four

-- the joined leaf of operators that give x for known operands too: a division by zero
-- (IEEE 1800-2017, 11.3.4, 11.4.3)
abbrev pub divided : Leaf → Leaf → Leaf
divided a b = full (joined a b)

-- the left operand's leaf, and x where the amount has one (IEEE 1800-2017, 11.4.10)
abbrev pub moved : Leaf → Leaf → Leaf
moved a b = record { width = a.width; signed = a.signed; four = a.four || b.four }

-- the leaf of an operator by itself, from that of its operand (IEEE 1800-2017, 11.6.1, Table 11-21)
abbrev pub unary_leaf : Unary → Leaf → Leaf
unary_leaf u.Plus l = l
unary_leaf u.Minus l = l
unary_leaf u.Not l = l
unary_leaf u.LogicalNot l = bit l.four
unary_leaf u.RedAnd l = bit l.four
unary_leaf u.RedNand l = bit l.four
unary_leaf u.RedOr l = bit l.four
unary_leaf u.RedNor l = bit l.four
unary_leaf u.RedXor l = bit l.four
unary_leaf u.RedXnor l = bit l.four

-- The leaf that the operand takes where the operator takes c. A context has the states of the expression's own leaf: four
-- where an x can arise in it.
abbrev pub unary_in : Unary → Leaf → Leaf → Leaf
unary_in u.Plus c l = c
unary_in u.Minus c l = c
unary_in u.Not c l = c
unary_in u.LogicalNot c l = l
unary_in u.RedAnd c l = l
unary_in u.RedNand c l = l
unary_in u.RedOr c l = l
unary_in u.RedNor c l = l
unary_in u.RedXor c l = l
unary_in u.RedXnor c l = l

-- the leaf of an operator by itself, from those of its operands (IEEE 1800-2017, 11.6.1, Table 11-21)
abbrev pub binary_leaf : Binary → Leaf → Leaf → Leaf
binary_leaf o.Add a b = joined a b
binary_leaf o.Sub a b = joined a b
binary_leaf o.Mul a b = joined a b
binary_leaf o.Div a b = divided a b
binary_leaf o.Rem a b = divided a b
binary_leaf o.And a b = joined a b
binary_leaf o.Or a b = joined a b
binary_leaf o.Xor a b = joined a b
binary_leaf o.Xnor a b = joined a b
binary_leaf o.Shl a b = moved a b
binary_leaf o.Shr a b = moved a b
binary_leaf o.Sshr a b = moved a b
binary_leaf o.Lt a b = bit (a.four || b.four)
binary_leaf o.Le a b = bit (a.four || b.four)
binary_leaf o.Gt a b = bit (a.four || b.four)
binary_leaf o.Ge a b = bit (a.four || b.four)
binary_leaf o.Eq a b = bit (a.four || b.four)
binary_leaf o.Ne a b = bit (a.four || b.four)
binary_leaf o.CaseEq a b = bit (a.four || b.four)
binary_leaf o.CaseNe a b = bit (a.four || b.four)
binary_leaf o.LogicalAnd a b = bit (a.four || b.four)
binary_leaf o.LogicalOr a b = bit (a.four || b.four)

-- the leaf that the left operand takes where the operator takes c: of a comparison one from the two
-- operands alone, of a logical operator its own
abbrev pub left_in : Binary → Leaf → Leaf → Leaf → Leaf
left_in o.Add c a b = c
left_in o.Sub c a b = c
left_in o.Mul c a b = c
left_in o.Div c a b = c
left_in o.Rem c a b = c
left_in o.And c a b = c
left_in o.Or c a b = c
left_in o.Xor c a b = c
left_in o.Xnor c a b = c
left_in o.Shl c a b = c
left_in o.Shr c a b = c
left_in o.Sshr c a b = c
left_in o.Lt c a b = joined a b
left_in o.Le c a b = joined a b
left_in o.Gt c a b = joined a b
left_in o.Ge c a b = joined a b
left_in o.Eq c a b = joined a b
left_in o.Ne c a b = joined a b
left_in o.CaseEq c a b = joined a b
left_in o.CaseNe c a b = joined a b
left_in o.LogicalAnd c a b = a
left_in o.LogicalOr c a b = a

-- and the right one: the amount of a shift has its own
abbrev pub right_in : Binary → Leaf → Leaf → Leaf → Leaf
right_in o.Add c a b = c
right_in o.Sub c a b = c
right_in o.Mul c a b = c
right_in o.Div c a b = c
right_in o.Rem c a b = c
right_in o.And c a b = c
right_in o.Or c a b = c
right_in o.Xor c a b = c
right_in o.Xnor c a b = c
right_in o.Shl c a b = b
right_in o.Shr c a b = b
right_in o.Sshr c a b = b
right_in o.Lt c a b = joined a b
right_in o.Le c a b = joined a b
right_in o.Gt c a b = joined a b
right_in o.Ge c a b = joined a b
right_in o.Eq c a b = joined a b
right_in o.Ne c a b = joined a b
right_in o.CaseEq c a b = joined a b
right_in o.CaseNe c a b = joined a b
right_in o.LogicalAnd c a b = b
right_in o.LogicalOr c a b = b

-- the leaf of `?:` by itself: an unknown test gives x (IEEE 1800-2017, 11.4.11)
abbrev pub choice_leaf : Leaf → Leaf → Leaf → Leaf
choice_leaf t a b = record { width = max a.width b.width; signed = a.signed && b.signed; four = t.four || (a.four || b.four) }

abbrev pub or_zero : Option Digit → Digit
or_zero (Some d) = d
or_zero None = Zero

-- the most significant digit
abbrev pub highest : LeafValue → Digit
highest v = or_zero (slice_get v.digits (v.leaf.width - 1))

-- digits in a leaf, extended by the most significant one whatever the leaf's sign is
abbrev pub by_highest : LeafValue → Leaf → LeafValue
by_highest a c = resize_of (resize_of a (with_sign true c)) c

-- whether a literal is extended by its most significant digit in each context: one that fills its
-- context, and an unsigned one without a size whose most significant digit is x or z
-- (IEEE 1800-2017, 5.7.1)
abbrev pub spreads : Literal → Bool
spreads v = v.fill || (not v.sized && (not v.bits.leaf.signed && not (is_known (highest v.bits))))

-- a literal in a context (IEEE 1800-2017, 5.7.1, 11.8.2)
abbrev pub literal_in : Literal → Leaf → LeafValue
literal_in v c = if spreads v then by_highest v.bits c else resize_of v.bits c

-- a width of 1 to 64
abbrev pub IsWidth : ℕ → Type 0
IsWidth n = (1 ≤ n) × (n ≤ 64)

-- below 0
abbrev pub is_negative : LeafValue → Bool
is_negative v = v.leaf.signed && is_one (highest v)

-- without x and z
abbrev pub IsKnown : LeafValue → Type 0
IsKnown v = all_known v.digits ≡ true

-- a bound or count: known, not below 0, and below 2^32, which is this project's limit
abbrev pub Counts : LeafValue → Type 0
Counts v = IsKnown v × (is_negative v ≡ false) × (number_of v.digits < 2 ^ 32)

abbrev pub count_of : LeafValue → ℕ
count_of v = number_of v.digits

-- the width that a known value asks for: below 0 it is none, as 0 is
abbrev pub width_of : LeafValue → ℕ
width_of v = if is_negative v then 0 else count_of v

-- all digits outside the operand: x, or 0 where it has two states (IEEE 1800-2017, 11.5.1)
abbrev pub outside : LeafValue → ℕ → LeafValue
outside v width = default_leaf (unsigned_leaf width v.leaf.four)

-- the digits from a place on, as many as width
abbrev pub taken : LeafValue → ℕ → ℕ → LeafValue
taken v low width =
    if nat_lt low v.leaf.width
    then put_part_of (outside v width) 0 (part_of v low (min width (v.leaf.width - low)))
    else outside v width

-- the digits from a place on that lies below the lowest digit
abbrev pub taken_below : LeafValue → ℕ → ℕ → LeafValue
taken_below v below width =
    if nat_lt below width
    then put_part_of (outside v width) below (part_of v 0 (min (width - below) v.leaf.width))
    else outside v width

-- how far a number is below 0
abbrev pub depth : LeafValue → ℕ
depth v = 2 ^ v.leaf.width - number_of v.digits

-- `[base +: width]`, and `[base -: width]` where up is false (IEEE 1800-2017, 11.5.1)
abbrev pub indexed_of : Bool → LeafValue → LeafValue → ℕ → LeafValue
indexed_of true v base width =
    if not (all_known base.digits) then outside v width else
    if is_negative base then taken_below v (depth base) width else taken v (count_of base) width
indexed_of false v base width =
    if not (all_known base.digits) then outside v width else
    if is_negative base then outside v width else
    if nat_le (width - 1) (count_of base) then taken v (count_of base - (width - 1)) width else taken_below v (width - 1 - count_of base) width

-- one more operand of a concatenation. Where all together have a width, none is left out
-- (IEEE 1800-2017, 11.4.12)
abbrev pub added : Option LeafValue → LeafValue → Option LeafValue
added None v = Some v
added (Some a) v = Some (if nat_le (a.leaf.width + v.leaf.width) 64 then concat_of a v else a)

abbrev pub joint_from : Option LeafValue → List LeafValue → Option LeafValue
joint_from start [] = start
joint_from start (v ∷ vs) = joint_from (added start v) vs

abbrev pub joint : List LeafValue → Option LeafValue
joint vs = joint_from None vs

-- the same so many times (IEEE 1800-2017, 11.4.12.1)
abbrev pub times : ℕ → LeafValue → Option LeafValue
times zero v = None
times (suc n) v = added (times n v) v

-- the leaf that an expression takes where its value goes to another (IEEE 1800-2017, 11.8.2, 10.7)
abbrev pub context : Option Leaf → Leaf → Leaf
context None l = l
context (Some to) l = record { width = max to.width l.width; signed = l.signed; four = l.four }

-- its leaf in the end
abbrev pub target : Option Leaf → Leaf → Leaf
target None l = l
target (Some to) l = to

-- names of constants with their values
abbrev pub Known : Type 0
Known = List (List ℕ × LeafValue)

-- the value of a name: that of the first entry with this name
abbrev pub named : Known → List ℕ → Option LeafValue
named ks name = lookup (bytes_eq name) ks

-- one name has this value, and all others what they had
abbrev pub inserted : List ℕ → LeafValue → (List ℕ → Option LeafValue) → List ℕ → Option LeafValue
inserted name value k other = if bytes_eq name other then Some value else k other

-- what is seen of a name that has this value or none
abbrev pub seen_as : Option LeafValue → Seen
seen_as (Some v) = seen.Value v
seen_as None = seen.Unknown

-- what is seen of names where these constants are all that is known
abbrev pub names_in : Known → Path → Seen
names_in ks path = seen_as (named ks (path_name path))
