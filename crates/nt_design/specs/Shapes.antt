-- The leaves of an expression's value (IEEE 1800-2017, clauses 7 and 11): whether each of its parts has those that its
-- place asks for.
use Rattle.std.specs.Prelude.{ℕ, ◌+◌, ◌==◌, nat_lt, nat_le, Bool, true, false, not, ◌&&◌, ◌||◌, if◌then◌else◌, List, [], ◌∷◌, ◌++◌, replicate, take, length, Option, Some, None, get_or, slice_get}
use Rattle.std.specs.Bool.{beq}
use Rattle.std.specs.List.{flat_map}
use Rattle.nt_value.specs.Digits.{are_filled}
use Rattle.nt_value.specs.Operators.{unsigned_leaf, is_sized_together}
use Rattle.nt_value.specs.Values.{shape_of}
use Rattle.nt_value.specs.declared.leaf.Leaf.{Leaf}
use Rattle.nt_value.specs.declared.operator.Binary.{Binary}
use Rattle.nt_value.specs.declared.operator.Binary.TheVariants.{Add, Sub, Mul, Div, Rem, And, Or, Xor, Xnor, Shl, Shr, Sshr, LogicalAnd, LogicalOr}
use Rattle.nt_value.specs.declared.operator.Unary.{Unary}
use Rattle.nt_value.specs.declared.operator.Unary.TheVariants.{Plus, Minus, Not}
use Rattle.nt_design.specs.Parts.{leaves_at, leaves_each, int_leaf, time_leaf}
use Rattle.nt_design.specs.declared.object.Object.{Object}
use Rattle.nt_design.specs.declared.object.Object.TheVariants.{Net, Var}
use Rattle.nt_design.specs.declared.target.Pick.{Pick}
use Rattle.nt_design.specs.declared.target.Pick.TheVariants.{Leaves, Item, Part}
use Rattle.nt_design.specs.declared.target.Target.{Target}
use Rattle.nt_design.specs.declared.target.Target.TheVariants.{Var as VarTarget, Slot, Local}
use Rattle.nt_design.specs.declared.tree.Tree.{Tree}
use Rattle.nt_design.specs.declared.tree.Tree.TheOpen.{Tree-F}
use Rattle.nt_design.specs.declared.tree.Tree.TheFolds.{fold-Tree}

-- ---- leaves
-- two leaves are equal
abbrev pub is_same_leaf : Leaf → Leaf → Bool
is_same_leaf a b = a.width == b.width && (beq a.signed b.signed && beq a.four b.four)

-- so are all of two types
abbrev pub is_same_shape : List Leaf → List Leaf → Bool
is_same_shape [] [] = true
is_same_shape [] (b ∷ bs) = false
is_same_shape (a ∷ as') [] = false
is_same_shape (a ∷ as') (b ∷ bs) = is_same_leaf a b && is_same_shape as' bs

-- a width of 1 to 64, this project's limit
abbrev pub is_width : ℕ → Bool
is_width width = nat_lt 0 width && nat_le width 64

-- ---- shapes that there may be
-- a shape, or none where a part is none that its place asks for
abbrev pub Shaped : Type 0
Shaped = Option (List Leaf)

-- one leaf
abbrev pub one_leaf : Leaf → Shaped
one_leaf leaf = Some (leaf ∷ [])

-- only where something holds
abbrev pub where_so : {A : Type 0} → Bool → A → Option A
where_so true x = Some x
where_so false x = None

-- goes on with a shape
abbrev pub on_shape : {A B : Type 0} → Option A → (A → Option B) → Option B
on_shape None go = None
on_shape (Some shape) go = go shape

-- goes on with the leaf of a shape that has one
abbrev pub on_leaf : {B : Type 0} → Shaped → (Leaf → Option B) → Option B
on_leaf None go = None
on_leaf (Some []) go = None
on_leaf (Some (a ∷ [])) go = go a
on_leaf (Some (a ∷ b ∷ shape)) go = None

-- there is this shape
abbrev pub is_shape : Shaped → List Leaf → Bool
is_shape None shape = false
is_shape (Some s) shape = is_same_shape s shape

-- there is one leaf
abbrev pub is_leaf : Shaped → Bool
is_leaf None = false
is_leaf (Some []) = false
is_leaf (Some (a ∷ [])) = true
is_leaf (Some (a ∷ b ∷ shape)) = false

-- two shapes are there and the same
abbrev pub is_both : Shaped → Shaped → Bool
is_both None b = false
is_both (Some shape) b = is_shape b shape

-- there are these shapes, one each
abbrev pub are_shapes : List Shaped → List (List Leaf) → Bool
are_shapes [] [] = true
are_shapes [] (s ∷ ss) = false
are_shapes (o ∷ os) [] = false
are_shapes (o ∷ os) (s ∷ ss) = is_shape o s && are_shapes os ss

-- ---- what names stand for
-- a function that may be called: the shapes of its arguments and of its result (13.4)
pub record Signature : Type 0 where
  pub args : List (List Leaf)
  pub result : List Leaf

-- the shapes of nets, variables and locals and of a resolver's elements, and the functions: none where a function may not
-- be called
pub record Scope : Type 0 where
  pub nets : List (List Leaf)
  pub vars : List (List Leaf)
  pub locals : List (List Leaf)
  pub many : Option (List Leaf)
  pub functions : List (Option Signature)

-- the shape of a net or a variable
abbrev pub object_shape : Scope → Object → Shaped
object_shape scope (Net n) = slice_get scope.nets n
object_shape scope (Var v) = slice_get scope.vars v

-- the function of this number, where it may be called
abbrev pub signature_at : Scope → ℕ → Option Signature
signature_at scope f = get_or scope.functions f None

-- ---- parts
-- some leaves of a shape that has them
abbrev pub leaves_shape : ℕ → ℕ → List Leaf → Shaped
leaves_shape first count shape = where_so (nat_le (first + count) (length shape)) (leaves_at first count shape)

-- the first so many leaves, which all others repeat
abbrev pub element_shape : ℕ → List Leaf → List Leaf
element_shape size shape = take (leaves_each size shape) shape

-- an element of an array: its leaves are so many equal elements
abbrev pub item_shape : ℕ → List Leaf → Shaped
item_shape size shape =
    where_so
    (nat_lt 0 size && is_same_shape shape (flat_map (λ s. s) (replicate size (element_shape size shape))))
    (element_shape size shape)

-- a bit or part of a leaf is unsigned (11.8.1)
abbrev pub part_shape : ℕ → Leaf → Shaped
part_shape width leaf = where_so (is_width width) (unsigned_leaf width leaf.four ∷ [])

-- ---- operators
-- what an operator of one operand answers (11.4)
abbrev pub unary_answer : Unary → Leaf → Leaf
unary_answer Plus a = a
unary_answer Minus a = a
unary_answer Not a = a
unary_answer _ a = unsigned_leaf 1 a.four

-- which operands an operator has: those of `&&` and `||` have both two or both four states, since the left one alone may
-- decide, and others that aren't sized together are free
abbrev pub are_operand_leaves : Binary → Leaf → Leaf → Bool
are_operand_leaves LogicalAnd a b = beq a.four b.four
are_operand_leaves LogicalOr a b = beq a.four b.four
are_operand_leaves op a b = not (is_sized_together op) || is_same_leaf a b

-- what an operator of two operands answers (11.4)
abbrev pub binary_answer : Binary → Leaf → Leaf → Leaf
binary_answer Add a b = a
binary_answer Sub a b = a
binary_answer Mul a b = a
binary_answer Div a b = a
binary_answer Rem a b = a
binary_answer And a b = a
binary_answer Or a b = a
binary_answer Xor a b = a
binary_answer Xnor a b = a
binary_answer Shl a b = a
binary_answer Shr a b = a
binary_answer Sshr a b = a
binary_answer _ a b = unsigned_leaf 1 (a.four || b.four)

-- ---- lists of parts
-- the leaf of a concatenation before its width is looked at: unsigned, and of four states where a part is (11.4.12)
abbrev pub concat_leaf : List Shaped → Option Leaf
concat_leaf [] = Some (unsigned_leaf 0 false)
concat_leaf (part ∷ parts) =
    on_leaf part (λ a. on_shape (concat_leaf parts) (λ b. Some (unsigned_leaf (a.width + b.width) (a.four || b.four))))

-- a concatenation
abbrev pub concat_shape : List Shaped → Shaped
concat_shape parts = on_shape (concat_leaf parts) (λ leaf. where_so (is_width leaf.width) (leaf ∷ []))

-- the leaves of all parts
abbrev pub all_leaves : List Shaped → Shaped
all_leaves [] = Some []
all_leaves (part ∷ parts) = on_shape part (λ s. on_shape (all_leaves parts) (λ t. Some (s ++ t)))

-- a structure or an array of at most 64 leaves, this project's limit
abbrev pub gather_shape : List Shaped → Shaped
gather_shape parts = on_shape (all_leaves parts) (λ shape. where_so (nat_le (length shape) 64) shape)

-- a call: the arguments have the shapes of the function's (13.4)
abbrev pub call_shape : Option Signature → List Shaped → Shaped
call_shape None args = None
call_shape (Some f) args = where_so (are_shapes args f.args) f.result

-- ---- trees
-- the shape of an expression, from those of its parts
abbrev pub shape_step : Scope → Tree-F Shaped → Shaped
shape_step scope (Tree-F.Const value) = where_so (are_filled value) (shape_of value)
shape_step scope (Tree-F.Read object) = object_shape scope object
shape_step scope (Tree-F.Local i) = slice_get scope.locals i
shape_step scope (Tree-F.Leaves a first count) = on_shape a (leaves_shape first count)
shape_step scope (Tree-F.Item a index low size up) = on_shape a (λ s. on_leaf index (λ i. item_shape size s))
shape_step scope (Tree-F.Element index) = on_leaf index (λ i. scope.many)
shape_step scope (Tree-F.Part a low width) = on_leaf a (λ leaf. on_leaf low (λ i. part_shape width leaf))
shape_step scope (Tree-F.Unary op a) = on_leaf a (λ leaf. one_leaf (unary_answer op leaf))
shape_step scope (Tree-F.Binary op a b) =
    on_leaf a (λ l. on_leaf b (λ r. where_so (are_operand_leaves op l r) (binary_answer op l r ∷ [])))
shape_step scope (Tree-F.Choose test a b) =
    on_leaf test (λ t. on_shape a (λ s. on_shape b (λ r. where_so (is_same_shape s r) s)))
shape_step scope (Tree-F.Concat parts) = concat_shape parts
shape_step scope (Tree-F.Gather parts) = gather_shape parts
shape_step scope (Tree-F.Resize a to) = on_leaf a (λ leaf. where_so (is_width to.width) (to ∷ []))
shape_step scope (Tree-F.Call f args) = call_shape (signature_at scope f) args
shape_step scope Tree-F.Size = on_shape scope.many (λ s. one_leaf int_leaf)
shape_step scope Tree-F.Time = one_leaf time_leaf

-- the shape of an expression whose parts have those that their places ask for
abbrev pub tree_shape : Scope → Tree → Shaped
tree_shape scope = fold-Tree Shaped (shape_step scope)

-- ---- targets
-- the part of a shape to which a step of a path leads
abbrev pub pick_shape : Scope → Pick → List Leaf → Shaped
pick_shape scope (Leaves first count) shape = leaves_shape first count shape
pick_shape scope (Item index low size up) shape = on_leaf (tree_shape scope index) (λ i. item_shape size shape)
pick_shape scope (Part low width) shape = on_leaf (tree_shape scope low) (λ i. on_leaf (Some shape) (part_shape width))

-- the part to which a path leads
abbrev pub path_shape : Scope → List Pick → List Leaf → Shaped
path_shape scope [] shape = Some shape
path_shape scope (p ∷ path) shape = on_shape (pick_shape scope p shape) (path_shape scope path)

-- a slot, or the digits of one that a driver of a part drives
abbrev pub slot_shape : ℕ → ℕ → List Leaf → Shaped
slot_shape low width shape =
    if low == 0 && width == 0 then Some shape else on_leaf (Some shape) (part_shape width)

-- the shape of what an assignment writes
abbrev pub target_shape : Scope → Target → Shaped
target_shape scope (VarTarget v path) = on_shape (slice_get scope.vars v) (path_shape scope path)
target_shape scope (Slot net slot low width) = on_shape (slice_get scope.nets net) (slot_shape low width)
target_shape scope (Local i path) = on_shape (slice_get scope.locals i) (path_shape scope path)
