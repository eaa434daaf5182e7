-- Leaves of contexts, with the states of an expression's own leaf, and the trees of selects (IEEE 1800-2017, clause 11).
use Rattle.std.specs.Prelude.{ℕ, zero, suc, nat_eq, ◌+◌, ◌-◌, ◌%◌, ◌^◌, ◌==◌, ◌++◌, replicate, nat_lt, nat_le, Bool, true, false, not, ◌&&◌, ◌||◌, if◌then◌else◌, List, [], ◌∷◌, map, length, min, Option, Some, None, Result, Ok, Err}
use Rattle.std.specs.Cmp.Lexicographic.{pointwise}
use Rattle.nt_value.specs.Digits.{LeafValue}
use Rattle.nt_value.specs.Operators.{unsigned_leaf}
use Rattle.nt_value.specs.Values.{binary}
use Rattle.nt_value.specs.declared.leaf.Leaf.{Leaf}
use Rattle.nt_value.specs.declared.operator.Binary.{Binary}
use Rattle.nt_value.specs.declared.operator.Binary.TheVariants as o
use Rattle.nt_value.specs.declared.place.Place.{Place}
use Rattle.nt_diag.specs.declared.rule.Rule.{Rule}
use Rattle.nt_diag.specs.declared.rule.Rule.TheVariants as rule
use Rattle.nt_ast.specs.declared.expr.Key.{Key}
use Rattle.nt_ast.specs.declared.expr.Key.TheVariants as key
use Rattle.nt_ast.specs.declared.expr.Expr.{Expr}
use Rattle.nt_const.specs.Tables.{context, left_in, right_in}
use Rattle.nt_design.specs.Shapes.{is_same_leaf, is_width}
use Rattle.nt_design.specs.Parts.{int_leaf, time_leaf}
use Rattle.nt_design.specs.declared.object.Object.TheVariants as object
use Rattle.nt_design.specs.declared.tree.Tree.{Tree}
use Rattle.nt_design.specs.declared.tree.Tree.TheVariants as t
use Rattle.nt_kinds.specs.declared.kind.Kind.{Kind}
use Rattle.nt_kinds.specs.declared.kind.Kind.TheOpen.{Kind-F}
use Rattle.nt_kinds.specs.declared.kind.Kind.TheViews.{out-Kind}
use Rattle.nt_typing.specs.declared.scope.Entity.{Entity}
use Rattle.nt_typing.specs.declared.scope.Entity.TheVariants as e
use Rattle.nt_typing.specs.declared.scope.Inside.{Inside}
use Rattle.nt_typing.specs.declared.scope.Inside.TheVariants as inside
use Rattle.nt_typing.specs.declared.scope.Callable.{Callable}
use Rattle.nt_typing.specs.declared.thing.Thing.{Thing}
use Rattle.nt_typing.specs.declared.thing.Thing.TheVariants.{Value as value, Many as many}
use Rattle.nt_kinds.specs.Kinds.{span, leaves}
use Rattle.nt_typing.specs.Kinds.{leaf_of, plain, Found, found_from}

-- ---- operators
-- the operators that look at their left operand first, and perhaps at no other (11.4.7)
abbrev pub decides : Binary → Bool
decides o.LogicalAnd = true
decides o.LogicalOr = true
decides _ = false

-- the leaf in so many states
abbrev pub in_states : Bool → Leaf → Leaf
in_states four l = record { width = l.width; signed = l.signed; four = four }

-- since the left operand alone may decide, both have equally many states
abbrev pub in_equal_states : Binary → Leaf → Leaf → Leaf → Leaf
in_equal_states op a b l = if decides op then in_states (a.four || b.four) l else l

-- the leaves that the operands of leaves a and b take where the operator takes c: those of constant expressions (11.6.1, 11.8.2)
abbrev pub left_context : Binary → Leaf → Leaf → Leaf → Leaf
left_context op c a b = in_equal_states op a b (left_in op c a b)

abbrev pub right_context : Binary → Leaf → Leaf → Leaf → Leaf
right_context op c a b = in_equal_states op a b (right_in op c a b)

-- where a value goes to another leaf: the larger width, its own sign and states (11.8.2, 10.7)
abbrev pub wider : Leaf → Leaf → Leaf
wider to l = context (Some to) l

-- a tree of one leaf where another is wanted: bare where it is the same
abbrev pub fitted : Leaf → Leaf → Tree → Tree
fitted from to a = if is_same_leaf from to then a else t.Resize a to

abbrev pub constant_tree : LeafValue → Tree
constant_tree v = t.Const (v ∷ [])

-- ---- what stands by itself
abbrev pub thing_leaf : Thing → Option Leaf
thing_leaf (value kind a) = leaf_of kind
thing_leaf (many kind) = None

-- a name that is read
abbrev pub thing_of : Option Entity → Result Thing Rule
thing_of None = Err rule.T4
thing_of (Some (e.Net net kind user)) = Ok (value kind (t.Read (object.Net net)))
thing_of (Some e.Interconnect) = Err rule.T12
thing_of (Some (e.Var var kind)) = Ok (value kind (t.Read (object.Var var)))
thing_of (Some (e.Local local kind)) = Ok (value kind (t.Local local))
thing_of (Some (e.Array element)) = Ok (many element)
thing_of (Some (e.Constant v)) = Ok (value (plain v.leaf) (constant_tree v))
thing_of (Some (e.Function callable)) = Err rule.T8

-- ---- members and elements
abbrev pub found_member : Option Found → Tree → Result Thing Rule
found_member None a = Err rule.T4
found_member (Some f) a = Ok (value f.kind (t.Leaves a f.first (length (leaves f.kind))))

abbrev pub member_in : Kind-F Kind → Tree → List ℕ → Result Thing Rule
member_in (Kind-F.One leaf left right) a name = Err rule.T8
member_in (Kind-F.Struct declared members) a name = found_member (found_from 0 members name) a
member_in (Kind-F.Array left right element) a name = Err rule.T8

abbrev pub member_of : Thing → List ℕ → Result Thing Rule
member_of (value kind a) name = member_in (out-Kind kind) a name
member_of (many kind) name = Err rule.T8

-- a member that a structure lacks is told at its name, all else at the expression
abbrev pub is_unknown : Rule → Bool
is_unknown rule.T4 = true
is_unknown _ = false

abbrev pub member_place : Rule → Place → Place → Place
member_place r at name_at = if is_unknown r then name_at else at

-- ---- digits
-- a number of 64 digits, signed, in which all places are exact
abbrev pub wide : Bool → Leaf
wide four = record { width = 64; signed = true; four = four }

-- an index in it: first extended by its own sign, then read as signed
abbrev pub widened : Leaf → Tree → Tree
widened m i =
    if m.signed then fitted m (wide m.four) i
    else fitted (unsigned_leaf 64 m.four) (wide m.four) (fitted m (unsigned_leaf 64 m.four) i)

abbrev pub number_tree : Bool → ℕ → Tree
number_tree four n = constant_tree (record { leaf = wide four; digits = binary 64 n })

-- a number minus another, modulo 2 ^ 64
abbrev pub less : ℕ → ℕ → ℕ
less a b = (a + (2 ^ 64 - b)) % 2 ^ 64

-- an unsigned index of 64 digits may be 2 ^ 63 or more, where it would be read as below 0: it is far outside. Only the
-- upper digits of `[i +: width]` could come back to the operand
abbrev pub guarded : Bool → Leaf → Tree → Tree → Tree
guarded wraps m i low =
    if wraps && (m.width == 64 && not m.signed)
    then t.Choose (t.Part i (number_tree m.four 63) 1) (number_tree m.four (2 ^ 62)) low
    else low

-- `index - down`: bare where nothing is taken away
abbrev pub minus : Bool → Leaf → Tree → ℕ → Tree
minus wraps m i zero = i
minus wraps m i (suc down) = guarded wraps m i (t.Binary o.Sub (widened m i) (number_tree m.four (suc down)))

-- `up - index`
abbrev pub from_top : Bool → Leaf → Tree → ℕ → Tree
from_top wraps m i up = guarded wraps m i (t.Binary o.Sub (number_tree m.four up) (widened m i))

-- where the digits `[i +: width]` or `[i -: width]` of a declared range begin (11.5.1)
abbrev pub indexed_low : ℕ → ℕ → Bool → ℕ → Leaf → Tree → Tree
indexed_low left right up width m i =
    if nat_le right left
    then (if up then minus (nat_lt 1 width) m i right else minus false m i (right + (width - 1)))
    else (if up then from_top (nat_lt 1 width) m i (less (suc right) width) else from_top false m i right)

-- where the digits `[a:b]` of a declared range begin, and how many they are
abbrev pub part_low : ℕ → ℕ → ℕ → ℕ
part_low left right b = if nat_le right left then less b right else less right b

abbrev pub part_width : ℕ → ℕ → ℕ → ℕ → ℕ
part_width left right a b = if nat_le right left then suc a - b else suc b - a

abbrev pub digits_thing : Leaf → Tree → Tree → ℕ → Result Thing Rule
digits_thing leaf a low width =
    if is_width width then Ok (value (plain (unsigned_leaf width leaf.four)) (t.Part a low width)) else Err rule.T2

-- ---- selects
abbrev pub item_in : Kind-F Kind → Tree → Leaf → Tree → Result Thing Rule
item_in (Kind-F.One leaf left right) a m i = digits_thing leaf a (indexed_low left right true 1 m i) 1
item_in (Kind-F.Struct declared members) a m i = Err rule.T8
item_in (Kind-F.Array left right element) a m i = Ok (value element (t.Item a i (min left right) (span left right) (nat_le left right)))

abbrev pub item_of : Thing → Leaf → Tree → Result Thing Rule
item_of (value kind a) m i = item_in (out-Kind kind) a m i
item_of (many element) m i = Ok (value element (t.Element i))

abbrev pub part_in : Kind-F Kind → Tree → ℕ → ℕ → Result Thing Rule
part_in (Kind-F.One leaf left right) a l r = digits_thing leaf a (number_tree false (part_low left right r)) (part_width left right l r)
part_in (Kind-F.Struct declared members) a l r = Err rule.T8
part_in (Kind-F.Array left right element) a l r = Err rule.T8

abbrev pub part_of : Thing → ℕ → ℕ → Result Thing Rule
part_of (value kind a) l r = part_in (out-Kind kind) a l r
part_of (many element) l r = Err rule.T8

abbrev pub indexed_in : Kind-F Kind → Tree → Bool → Leaf → Tree → ℕ → Result Thing Rule
indexed_in (Kind-F.One leaf left right) a up m i width = digits_thing leaf a (indexed_low left right up width m i) width
indexed_in (Kind-F.Struct declared members) a up m i width = Err rule.T8
indexed_in (Kind-F.Array left right element) a up m i width = Err rule.T8

abbrev pub indexed_of : Thing → Bool → Leaf → Tree → ℕ → Result Thing Rule
indexed_of (value kind a) up m i width = indexed_in (out-Kind kind) a up m i width
indexed_of (many element) up m i width = Err rule.T8

-- ---- others
abbrev pub size_of : Thing → Result Thing Rule
size_of (value kind a) = Err rule.T8
size_of (many element) = Ok (value (plain int_leaf) t.Size)

abbrev pub time_in : Inside → Result Thing Rule
time_in inside.Procedure = Ok (value (plain time_leaf) t.Time)
time_in (inside.Function result) = Err rule.T16
time_in inside.Other = Err rule.T16

abbrev pub copies : ℕ → List Tree → List Tree
copies zero ts = []
copies (suc n) ts = ts ++ copies n ts

abbrev pub concat_thing : ℕ → Bool → List Tree → Result Thing Rule
concat_thing width four ts = if is_width width then Ok (value (plain (unsigned_leaf width four)) (t.Concat ts)) else Err rule.T2

-- ---- calls
-- a function that may be called: the number of operands first, then that it is its own (13.4)
abbrev pub callable_of : Callable → ℕ → Result Callable Rule
callable_of f n =
    if f.many || not (n == length f.args) then Err rule.T8 else
    if f.item.automatic && f.own then Ok f else Err rule.T16

abbrev pub called : Option Entity → ℕ → Result Callable Rule
called None n = Err rule.T4
called (Some (e.Net net kind user)) n = Err rule.T8
called (Some e.Interconnect) n = Err rule.T12
called (Some (e.Var var kind)) n = Err rule.T8
called (Some (e.Local local kind)) n = Err rule.T8
called (Some (e.Array element)) n = Err rule.T8
called (Some (e.Constant v)) n = Err rule.T8
called (Some (e.Function f)) n = callable_of f n

-- what a call is worth where a value is wanted
abbrev pub answer_of : Option Kind → ℕ → List Tree → Result Thing Rule
answer_of None number ts = Err rule.T8
answer_of (Some kind) number ts = Ok (value kind (t.Call number ts))

-- ---- patterns
-- the member of this name, or an element without one (10.9)
abbrev pub slots_of : Kind-F Kind → Option (List (Option (List ℕ) × Kind))
slots_of (Kind-F.One leaf left right) = None
slots_of (Kind-F.Struct declared members) = Some (map (λ m. (Some m.0, m.1)) members)
slots_of (Kind-F.Array left right element) = Some (replicate (span left right) (None, element))

abbrev pub all_unkeyed : List (Option Key × Expr) → Bool
all_unkeyed [] = true
all_unkeyed ((None, x) ∷ items) = all_unkeyed items
all_unkeyed ((Some k, x) ∷ items) = false

abbrev pub is_name : Option (List ℕ) → List ℕ → Bool
is_name None name = false
is_name (Some n) name = pointwise nat_eq n name

-- the items for a slot
abbrev pub items_for : Option (List ℕ) → List (Option Key × Expr) → List Expr
items_for slot [] = []
items_for slot ((None, x) ∷ items) = items_for slot items
items_for slot ((Some key.Other, x) ∷ items) = items_for slot items
items_for slot ((Some (key.Member name), x) ∷ items) = if is_name slot name then x ∷ items_for slot items else items_for slot items

-- the items for each slot that isn't named
abbrev pub other_items : List (Option Key × Expr) → List Expr
other_items [] = []
other_items ((None, x) ∷ items) = other_items items
other_items ((Some key.Other, x) ∷ items) = x ∷ other_items items
other_items ((Some (key.Member name), x) ∷ items) = other_items items

abbrev pub has_slot : List (Option (List ℕ) × Kind) → List ℕ → Bool
has_slot [] name = false
has_slot (s ∷ slots) name = is_name s.0 name || has_slot slots name

-- each key names a slot, or is `default`
abbrev pub all_keyed : List (Option (List ℕ) × Kind) → List (Option Key × Expr) → Bool
all_keyed slots [] = true
all_keyed slots ((None, x) ∷ items) = false
all_keyed slots ((Some key.Other, x) ∷ items) = all_keyed slots items
all_keyed slots ((Some (key.Member name), x) ∷ items) = has_slot slots name && all_keyed slots items

-- one item for a slot, or the one for all that aren't named
abbrev pub one_item : List Expr → List Expr → Option Expr
one_item [] [] = None
one_item [] (x ∷ []) = Some x
one_item [] (x ∷ y ∷ xs) = None
one_item (x ∷ []) others = Some x
one_item (x ∷ y ∷ xs) others = None

abbrev pub with_plan : Kind → Option Expr → Option (List (Expr × Kind)) → Option (List (Expr × Kind))
with_plan kind None plan = None
with_plan kind (Some x) None = None
with_plan kind (Some x) (Some plan) = Some ((x, kind) ∷ plan)

abbrev pub in_order : List (Option (List ℕ) × Kind) → List (Option Key × Expr) → Option (List (Expr × Kind))
in_order [] [] = Some []
in_order [] (i ∷ items) = None
in_order (s ∷ slots) [] = None
in_order (s ∷ slots) (i ∷ items) = with_plan s.1 (Some i.1) (in_order slots items)

abbrev pub by_name : List (Option (List ℕ) × Kind) → List (Option Key × Expr) → Option (List (Expr × Kind))
by_name [] items = Some []
by_name (s ∷ slots) items = with_plan s.1 (one_item (items_for s.0 items) (other_items items)) (by_name slots items)

-- what goes to each member or element, and its type: none where one has no item or two (10.9)
abbrev pub plan_for : Option (List (Option (List ℕ) × Kind)) → List (Option Key × Expr) → Option (List (Expr × Kind))
plan_for None items = None
plan_for (Some slots) items =
    if all_unkeyed items then in_order slots items
    else if all_keyed slots items && nat_le (length (other_items items)) 1 then by_name slots items else None

abbrev pub planned : Kind → List (Option Key × Expr) → Option (List (Expr × Kind))
planned kind items = plan_for (slots_of (out-Kind kind)) items

-- operands and the types that they go to
abbrev pub given : List Expr → List Kind → List (Expr × Kind)
given [] kinds = []
given (x ∷ xs) [] = []
given (x ∷ xs) (kind ∷ kinds) = (x, kind) ∷ given xs kinds
