-- The functions of the design of which cases call some: a chain of 17, of which each but the last calls the next, one without
-- an end, one that adds up the numbers below its argument, and a resolver that adds its drivers' leaves.
use Rattle.std.specs.Prelude.{ℕ, zero, suc, true, false, List, [], ◌∷◌, Some, None}
use Rattle.nt_value.specs.declared.leaf.Leaf.{Leaf}
use Rattle.nt_value.specs.declared.operator.Binary.TheVariants.{Add, Lt}
use Rattle.nt_value.specs.declared.place.Place.{Place}
use Rattle.nt_design.specs.Parts.{int_leaf, int_value}
use Rattle.nt_design.specs.declared.act.Act.{Act}
use Rattle.nt_design.specs.declared.act.Act.TheVariants as act
use Rattle.nt_design.specs.declared.function.Function.{Function}
use Rattle.nt_design.specs.declared.target.Pick.TheVariants as pick
use Rattle.nt_design.specs.declared.target.Target.TheVariants as target
use Rattle.nt_design.specs.declared.tree.Tree.{Tree}
use Rattle.nt_design.specs.declared.tree.Tree.TheVariants as tree

-- an `int`, and a pair of two
abbrev pub int : List Leaf
int = int_leaf ∷ []

abbrev pub pair : List Leaf
pair = int_leaf ∷ int_leaf ∷ []

abbrev pub number : ℕ → Tree
number n = tree.Const (int_value n)

abbrev pub sum_of : Tree → Tree → Tree
sum_of a b = tree.Binary Add a b

-- a local takes a value
abbrev pub set : ℕ → Tree → Place → Act
set i right at = act.Assign (target.Local i []) right at

-- one leaf of a local grows by that of an element
abbrev pub grown : ℕ → Tree
grown leaf = sum_of (tree.Leaves (tree.Local 0) leaf 1) (tree.Leaves (tree.Element (tree.Local 1)) leaf 1)

abbrev pub grow : ℕ → Place → Act
grow leaf at = act.Assign (target.Local 0 (pick.Leaves leaf 1 ∷ [])) (grown leaf) at

-- function int link(int n); return the_next(n); endfunction
abbrev pub link_body : ℕ → Place → Act
link_body next at = act.Return (Some (tree.Call next (tree.Local 0 ∷ []))) at

-- function int last(int n); return n; endfunction
abbrev pub last_body : Place → Act
last_body at = act.Return (Some (tree.Local 0)) at

-- function void endless(); while (1) ; endfunction
abbrev pub endless_body : Place → Act
endless_body at = act.While (number 1) (act.Null at) at

abbrev pub below : Tree
below = tree.Binary Lt (tree.Local 2) (tree.Local 0)

abbrev pub next_index : Place → Act
next_index at = set 2 (sum_of (tree.Local 2) (number 1)) at

abbrev pub grown_sum : Place → Act
grown_sum at = set 1 (sum_of (tree.Local 1) (tree.Local 2)) at

-- function int sum(int n); for (int i = 0; i < n; i = i + 1) sum = sum + i; endfunction
abbrev pub sum_body : Place → Act
sum_body at = act.For true (target.Local 2 []) (number 0) below (next_index at) (grown_sum at) at

-- function pair add(input pair drivers[]); foreach (drivers[i]) {add.a, add.b} += drivers[i]; endfunction
abbrev pub pair_body : Place → Act
pair_body at = act.Foreach None 1 (act.Block (grow 0 at ∷ grow 1 at ∷ []) at) at

-- a function of one statement
abbrev pub function : List ℕ → Place → List (List Leaf) → List (List Leaf) → List Leaf → Act → Function
function name at args locals result body =
    record { name = name; args = args; many = false; locals = locals; result = result; body = body ∷ []; at = at }

abbrev pub link : List ℕ → Place → ℕ → Function
link name at next = function name at (int ∷ []) [] int (link_body next at)

abbrev pub last : List ℕ → Place → Function
last name at = function name at (int ∷ []) [] int (last_body at)

abbrev pub endless : List ℕ → Place → Function
endless name at = function name at [] [] [] (endless_body at)

abbrev pub sum : List ℕ → Place → Function
sum name at = function name at (int ∷ []) (int ∷ []) int (sum_body at)

abbrev pub adder : List ℕ → Place → Function
adder name at =
    record { name = name; args = pair ∷ []; many = true; locals = int ∷ []; result = pair; body = pair_body at ∷ []; at = at }

-- so many functions from a number on, each calling the next, and the others
abbrev pub links : List ℕ → Place → ℕ → ℕ → List Function
links name at first zero = last name at ∷ endless name at ∷ sum name at ∷ adder name at ∷ []
links name at first (suc count) = link name at (suc first) ∷ links name at (suc first) count

-- where they stand
abbrev pub place : Place
place = record { file = 0; offset = 0; line = 1; column = 1 }
