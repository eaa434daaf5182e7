-- Where the place of a node lies, and from where to where several stand.
use Rattle.std.proofs.Common.{ℕ, ◌≤◌, ◌<◌, List, arith}
use Rattle.nt_ast.specs.declared.expr.Expr.{Expr}
use Rattle.nt_ast.specs.Places.{Node, place_of, Within, Placed, literal_in, read_in, member_in, item_in, part_in, indexed_in, unary_in, binary_in, choose_in, concat_in, repeat_in, pattern_in, call_in, size_in, time_in, sign_in, AllPlaced, no_parts, more_parts}

pub place_in : {file i j : ℕ} {x : Node} → Placed file i j x → Within file i j (place_of x)
place_in (literal_in w) = w
place_in (read_in w p) = w
place_in (member_in w x p) = w
place_in (item_in w x y) = w
place_in (part_in w x y z) = w
place_in (indexed_in w x y z) = w
place_in (unary_in w x) = w
place_in (binary_in w x y) = w
place_in (choose_in w x y z) = w
place_in (concat_in w xs) = w
place_in (repeat_in w x xs) = w
place_in (pattern_in w xs) = w
place_in (call_in w p xs) = w
place_in (size_in w x) = w
place_in (time_in w) = w
place_in (sign_in w x) = w

pub spans : {file i j : ℕ} {x : Node} → Placed file i j x → i < j
spans p = let w = place_in p in let a = w.from in let b = w.below in omega arith

pub all_span : {file i j : ℕ} {xs : List Expr} → AllPlaced file i j xs → i ≤ j
all_span (no_parts le) = le
all_span (more_parts p s) = let a = spans p in let b = all_span s in omega arith
