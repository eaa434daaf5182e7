-- The name at the root of a left side, by the side's first node.
use Rattle.std.proofs.Common.{◌≡◌, ℕ, Bool, List, map, ap}
use Rattle.std.specs.Prelude.{Option, Some, None}
use denote.Hole.Carrier.{roll}
use Rattle.nt_value.specs.declared.place.Place.{Place}
use Rattle.nt_value.specs.declared.literal.Literal.{Literal}
use Rattle.nt_value.specs.declared.operator.Unary.{Unary}
use Rattle.nt_value.specs.declared.operator.Binary.{Binary}
use Rattle.nt_ast.specs.declared.path.Path.{Path}
use Rattle.nt_ast.specs.declared.expr.Key.{Key}
use Rattle.nt_ast.specs.declared.expr.Expr.{Expr}
use Rattle.nt_ast.specs.declared.expr.Expr.TheVariants as e
use Rattle.nt_ast.specs.declared.expr.Expr.TheOpen.{Expr-F}
use Rattle.nt_ast.specs.declared.expr.Expr.TheViews.{roll-Expr}
use Rattle.nt_ast.specs.declared.expr.Expr.TheFolds.{fold-roll-Expr}
use Rattle.nt_uses.specs.Uses.{root_step, root_of}

pub root_literal : (at : Place) (v : Literal) → root_of (e.Literal at v) ≡ None
unfolding root_of roll-Expr roll
root_literal at v = fold-roll-Expr (Option Path) root_step (Expr-F.Literal at v)

pub root_read : (at : Place) (path : Path) → root_of (e.Read at path) ≡ Some path
unfolding root_of roll-Expr roll
root_read at path = fold-roll-Expr (Option Path) root_step (Expr-F.Read at path)

pub root_member : (at : Place) (x : Expr) (p : Place) (name : List ℕ) → root_of (e.Member at x p name) ≡ root_of x
unfolding root_of roll-Expr roll
root_member at x p name = fold-roll-Expr (Option Path) root_step (Expr-F.Member at x p name)

pub root_item : (at : Place) (x y : Expr) → root_of (e.Item at x y) ≡ root_of x
unfolding root_of roll-Expr roll
root_item at x y = fold-roll-Expr (Option Path) root_step (Expr-F.Item at x y)

pub root_part : (at : Place) (x y z : Expr) → root_of (e.Part at x y z) ≡ root_of x
unfolding root_of roll-Expr roll
root_part at x y z = fold-roll-Expr (Option Path) root_step (Expr-F.Part at x y z)

pub root_indexed : (at : Place) (x y z : Expr) (up : Bool) → root_of (e.Indexed at x y z up) ≡ root_of x
unfolding root_of roll-Expr roll
root_indexed at x y z up = fold-roll-Expr (Option Path) root_step (Expr-F.Indexed at x y z up)

pub root_unary : (at : Place) (op : Unary) (x : Expr) → root_of (e.Unary at op x) ≡ None
unfolding root_of roll-Expr roll
root_unary at op x = fold-roll-Expr (Option Path) root_step (Expr-F.Unary at op x)

pub root_binary : (at : Place) (op : Binary) (x y : Expr) → root_of (e.Binary at op x y) ≡ None
unfolding root_of roll-Expr roll
root_binary at op x y = fold-roll-Expr (Option Path) root_step (Expr-F.Binary at op x y)

pub root_choose : (at : Place) (x y z : Expr) → root_of (e.Choose at x y z) ≡ None
unfolding root_of roll-Expr roll
root_choose at x y z = fold-roll-Expr (Option Path) root_step (Expr-F.Choose at x y z)

pub root_concat : (at : Place) (xs : List Expr) → root_of (e.Concat at xs) ≡ None
unfolding root_of roll-Expr roll
root_concat at xs = fold-roll-Expr (Option Path) root_step (Expr-F.Concat at xs)

pub root_repeated : (at : Place) (x : Expr) (xs : List Expr) → root_of (e.Repeat at x xs) ≡ None
unfolding root_of roll-Expr roll
root_repeated at x xs = fold-roll-Expr (Option Path) root_step (Expr-F.Repeat at x xs)

pub root_pattern : (at : Place) (xs : List (Option Key × Expr)) → root_of (e.Pattern at xs) ≡ None
unfolding root_of roll-Expr roll
root_pattern at xs = fold-roll-Expr (Option Path) root_step (Expr-F.Pattern at xs)

pub root_call : (at : Place) (path : Path) (xs : List Expr) → root_of (e.Call at path xs) ≡ None
unfolding root_of roll-Expr roll
root_call at path xs = fold-roll-Expr (Option Path) root_step (Expr-F.Call at path xs)

pub root_size : (at : Place) (x : Expr) → root_of (e.Size at x) ≡ None
unfolding root_of roll-Expr roll
root_size at x = fold-roll-Expr (Option Path) root_step (Expr-F.Size at x)

pub root_time : (at : Place) → root_of (e.Time at) ≡ None
unfolding root_of roll-Expr roll
root_time at = fold-roll-Expr (Option Path) root_step (Expr-F.Time at)

pub root_sign : (at : Place) (s : Bool) (x : Expr) → root_of (e.Sign at s x) ≡ None
unfolding root_of roll-Expr roll
root_sign at s x = fold-roll-Expr (Option Path) root_step (Expr-F.Sign at s x)

pub ruleset equations = (root_literal, root_read, root_member, root_item, root_part, root_indexed, root_unary, root_binary, root_choose, root_concat, root_repeated, root_pattern, root_call, root_size, root_time, root_sign)
