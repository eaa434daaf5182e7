-- Small cases of the definitions, computed.
use Rattle.std.proofs.Common.{◌≡◌, ℕ, List, [], ◌∷◌, refl}
use Rattle.std.specs.Prelude.{true, false, Some, None, pos, negsuc}
use Rattle.nt_value.specs.Digits.{LeafValue}
use Rattle.nt_value.specs.declared.digit.Digit.{Digit}
use Rattle.nt_value.specs.declared.digit.Digit.TheVariants.{Zero, One, X, Z}
use Rattle.nt_value.specs.Operators.{unsigned_leaf}
use Rattle.nt_design.specs.Parts.{Value, one, part_at, with_part, written, position_of, item_at, number_in, int_value, concatenated, merged, IntoItem, IntoLeaves, IntoPart}
use Rattle.nt_design.specs.Puts.{put_of}
use Rattle.nt_design.specs.Statements.{nothing, loop, loop_of, always, repeat_of, indices_of, count_of, each_of}
use Rattle.nt_design.specs.declared.act.Flow.TheVariants.{Next}

-- digits of four states, the least significant first
abbrev logic : ℕ → List Digit → LeafValue
logic width ds = record { leaf = unsigned_leaf width true; digits = ds }

abbrev bits : ℕ → List Digit → LeafValue
bits width ds = record { leaf = unsigned_leaf width false; digits = ds }

-- 4'b0110, whose digits 1 and 2 are 1
abbrev six : LeafValue
six = logic 4 (Zero ∷ One ∷ One ∷ Zero ∷ [])

inside : part_at (Some (pos 1)) 2 six ≡ logic 2 (One ∷ One ∷ [])
inside = refl

above : part_at (Some (pos 2)) 3 six ≡ logic 3 (One ∷ Zero ∷ X ∷ [])
above = refl

below : part_at (Some (negsuc 0)) 2 six ≡ logic 2 (X ∷ Zero ∷ [])
below = refl

unknown : part_at None 2 (bits 4 (One ∷ One ∷ One ∷ One ∷ [])) ≡ bits 2 (Zero ∷ Zero ∷ [])
unknown = refl

write_above : with_part (Some (pos 3)) (logic 2 (One ∷ One ∷ [])) six ≡ logic 4 (Zero ∷ One ∷ One ∷ One ∷ [])
write_above = refl

write_below : with_part (Some (negsuc 0)) (logic 2 (Zero ∷ One ∷ [])) six ≡ logic 4 (One ∷ One ∷ One ∷ Zero ∷ [])
write_below = refl

write_two_states : with_part (Some (pos 0)) (logic 1 (X ∷ [])) (bits 2 (One ∷ One ∷ [])) ≡ bits 2 (Zero ∷ One ∷ [])
write_two_states = refl

-- [3:0] has 3 as its leftmost index, and [2:5] has 2
leftmost_down : position_of 0 4 false (Some (pos 3)) ≡ Some 0
leftmost_down = refl

rightmost_down : position_of 0 4 false (Some (pos 0)) ≡ Some 3
rightmost_down = refl

leftmost_up : position_of 2 4 true (Some (pos 2)) ≡ Some 0
leftmost_up = refl

past_up : position_of 2 4 true (Some (pos 6)) ≡ None
past_up = refl

before_up : position_of 2 4 true (Some (pos 1)) ≡ None
before_up = refl

-- an array of two structures of two leaves
abbrev d : Digit → LeafValue
d x = logic 1 (x ∷ [])

abbrev pairs : Value
pairs = d Zero ∷ d One ∷ d Z ∷ d Zero ∷ []

item : item_at 2 (Some 1) pairs ≡ d Z ∷ d Zero ∷ []
item = refl

no_item : item_at 2 None pairs ≡ d X ∷ d X ∷ []
no_item = refl

deep : written (IntoItem (Some 1) 2 ∷ IntoLeaves 1 1 ∷ IntoPart (Some (pos 0)) 1 ∷ []) (one (d One)) pairs ≡ d Zero ∷ d One ∷ d Z ∷ d One ∷ []
deep = refl

no_write : written (IntoItem None 2 ∷ IntoLeaves 1 1 ∷ []) (one (d One)) pairs ≡ pairs
no_write = refl

-- `{2'b10, 1'bx}`
joined_digits : concatenated (one (logic 2 (Zero ∷ One ∷ [])) ∷ one (d X) ∷ []) ≡ logic 3 (X ∷ Zero ∷ One ∷ [])
joined_digits = refl

merge : merged (d One ∷ d Zero ∷ []) (d One ∷ d One ∷ []) ≡ d One ∷ d X ∷ []
merge = refl

-- loops and their turns
without_end : loop always nothing nothing [] 5 ≡ None
unfolding loop loop_of
without_end = refl

as_many : repeat_of 5 nothing [] 5 ≡ Some (([], Next), 0)
unfolding repeat_of
as_many = refl

one_more : repeat_of 6 nothing [] 5 ≡ None
unfolding repeat_of
one_more = refl

down : indices_of 0 (Some (3, 1)) ≡ 3 ∷ 2 ∷ 1 ∷ []
down = refl

up : indices_of 0 (Some (1, 3)) ≡ 1 ∷ 2 ∷ 3 ∷ []
up = refl

all : indices_of 2 None ≡ 0 ∷ 1 ∷ []
all = refl

last_index : each_of (0 ∷ 1 ∷ []) 0 nothing (int_value 7 ∷ []) 5 ≡ Some ((int_value 1 ∷ [], Next), 3)
unfolding each_of
last_index = refl

negative : count_of (number_in (one (record { leaf = record { width = 2; signed = true; four = true }; digits = Zero ∷ One ∷ [] }))) ≡ 0
negative = refl

-- ---- a part of a part
-- [3:2] of a leaf, and of it the digits from -1 to 1: digits 2 and 3 become the last two
part_of_part : put_of 5 (six ∷ []) (IntoPart (Some (pos 2)) 2 ∷ IntoPart (Some (negsuc 0)) 3 ∷ []) (one (logic 3 (X ∷ One ∷ Z ∷ []))) ≡ record { var = 5; first = 0; low = 2; width = 2; value = one (logic 2 (One ∷ Z ∷ [])) }
part_of_part = refl

-- [5:3], of which digits 4 and 5 are outside, and of it its digit 1: nothing is written
part_outside : put_of 5 (six ∷ []) (IntoPart (Some (pos 3)) 3 ∷ IntoPart (Some (pos 1)) 1 ∷ []) (one (logic 1 (One ∷ []))) ≡ record { var = 5; first = 0; low = 0; width = 0; value = [] }
part_outside = refl

written_part : written (IntoPart (Some (pos 2)) 2 ∷ IntoPart (Some (negsuc 0)) 3 ∷ []) (one (logic 3 (X ∷ One ∷ Z ∷ []))) (six ∷ []) ≡ one (logic 4 (Zero ∷ One ∷ One ∷ Z ∷ []))
written_part = refl

-- ---- parts that are partly or wholly outside
wholly_below : part_at (Some (negsuc 3)) 2 (logic 2 (One ∷ Zero ∷ [])) ≡ logic 2 (X ∷ X ∷ [])
wholly_below = refl

round_it : part_at (Some (negsuc 0)) 4 (logic 2 (One ∷ Zero ∷ [])) ≡ logic 4 (X ∷ One ∷ Zero ∷ X ∷ [])
round_it = refl

write_round_it : with_part (Some (negsuc 0)) (logic 4 (Z ∷ X ∷ One ∷ Z ∷ [])) (logic 2 (Zero ∷ Zero ∷ [])) ≡ logic 2 (X ∷ One ∷ [])
write_round_it = refl

write_unknown : with_part None (logic 1 (One ∷ [])) (logic 2 (Zero ∷ Zero ∷ [])) ≡ logic 2 (Zero ∷ Zero ∷ [])
write_unknown = refl
