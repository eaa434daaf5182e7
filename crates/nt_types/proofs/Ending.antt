-- Where an expression ends, by its first node.
use Rattle.std.proofs.Common.{◌≡◌, ℕ, Bool, List, map}
use Rattle.std.specs.Prelude.{Option}
use denote.Hole.Carrier.{roll}
use Rattle.nt_value.specs.declared.place.Place.{Place}
use Rattle.nt_value.specs.declared.literal.Literal.{Literal}
use Rattle.nt_value.specs.declared.operator.Unary.{Unary}
use Rattle.nt_value.specs.declared.operator.Binary.{Binary}
use Rattle.nt_ast.specs.declared.path.Path.{Path}
use Rattle.nt_ast.specs.declared.expr.Key.{Key}
use Rattle.nt_ast.specs.declared.expr.Expr.{Expr}
use Rattle.nt_ast.specs.declared.expr.Expr.TheVariants as e
use Rattle.nt_ast.specs.declared.expr.Expr.TheOpen.{Expr-F}
use Rattle.nt_ast.specs.declared.expr.Expr.TheViews.{roll-Expr}
use Rattle.nt_ast.specs.declared.expr.Expr.TheFolds.{fold-roll-Expr}
use Rattle.nt_types.specs.Ends.{later, latest, latest_item, end_step, end_of}

pub end_literal : (at : Place) (v : Literal) → end_of (e.Literal at v) ≡ at
unfolding end_of roll-Expr roll
end_literal at v = fold-roll-Expr Place end_step (Expr-F.Literal at v)

pub end_read : (at : Place) (path : Path) → end_of (e.Read at path) ≡ later at path.at
unfolding end_of roll-Expr roll
end_read at path = fold-roll-Expr Place end_step (Expr-F.Read at path)

pub end_member : (at : Place) (x : Expr) (p : Place) (name : List ℕ) → end_of (e.Member at x p name) ≡ later (later at (end_of x)) p
unfolding end_of roll-Expr roll
end_member at x p name = fold-roll-Expr Place end_step (Expr-F.Member at x p name)

pub end_item : (at : Place) (x y : Expr) → end_of (e.Item at x y) ≡ later (later at (end_of x)) (end_of y)
unfolding end_of roll-Expr roll
end_item at x y = fold-roll-Expr Place end_step (Expr-F.Item at x y)

pub end_part : (at : Place) (x y z : Expr) → end_of (e.Part at x y z) ≡ later (later (later at (end_of x)) (end_of y)) (end_of z)
unfolding end_of roll-Expr roll
end_part at x y z = fold-roll-Expr Place end_step (Expr-F.Part at x y z)

pub end_indexed : (at : Place) (x y z : Expr) (up : Bool) → end_of (e.Indexed at x y z up) ≡ later (later (later at (end_of x)) (end_of y)) (end_of z)
unfolding end_of roll-Expr roll
end_indexed at x y z up = fold-roll-Expr Place end_step (Expr-F.Indexed at x y z up)

pub end_unary : (at : Place) (op : Unary) (x : Expr) → end_of (e.Unary at op x) ≡ later at (end_of x)
unfolding end_of roll-Expr roll
end_unary at op x = fold-roll-Expr Place end_step (Expr-F.Unary at op x)

pub end_binary : (at : Place) (op : Binary) (x y : Expr) → end_of (e.Binary at op x y) ≡ later (later at (end_of x)) (end_of y)
unfolding end_of roll-Expr roll
end_binary at op x y = fold-roll-Expr Place end_step (Expr-F.Binary at op x y)

pub end_choose : (at : Place) (x y z : Expr) → end_of (e.Choose at x y z) ≡ later (later (later at (end_of x)) (end_of y)) (end_of z)
unfolding end_of roll-Expr roll
end_choose at x y z = fold-roll-Expr Place end_step (Expr-F.Choose at x y z)

pub end_concat : (at : Place) (xs : List Expr) → end_of (e.Concat at xs) ≡ latest at (map end_of xs)
unfolding end_of roll-Expr roll
end_concat at xs = fold-roll-Expr Place end_step (Expr-F.Concat at xs)

pub end_repeated : (at : Place) (x : Expr) (xs : List Expr) → end_of (e.Repeat at x xs) ≡ latest (later at (end_of x)) (map end_of xs)
unfolding end_of roll-Expr roll
end_repeated at x xs = fold-roll-Expr Place end_step (Expr-F.Repeat at x xs)

pub end_pattern : (at : Place) (xs : List (Option Key × Expr)) → end_of (e.Pattern at xs) ≡ latest_item at (map (λ (p : Option Key × Expr). (p.0, end_of p.1)) xs)
unfolding end_of roll-Expr roll
end_pattern at xs = fold-roll-Expr Place end_step (Expr-F.Pattern at xs)

pub end_call : (at : Place) (path : Path) (xs : List Expr) → end_of (e.Call at path xs) ≡ latest (later at path.at) (map end_of xs)
unfolding end_of roll-Expr roll
end_call at path xs = fold-roll-Expr Place end_step (Expr-F.Call at path xs)

pub end_size : (at : Place) (x : Expr) → end_of (e.Size at x) ≡ later at (end_of x)
unfolding end_of roll-Expr roll
end_size at x = fold-roll-Expr Place end_step (Expr-F.Size at x)

pub end_time : (at : Place) → end_of (e.Time at) ≡ at
unfolding end_of roll-Expr roll
end_time at = fold-roll-Expr Place end_step (Expr-F.Time at)

pub end_sign : (at : Place) (s : Bool) (x : Expr) → end_of (e.Sign at s x) ≡ later at (end_of x)
unfolding end_of roll-Expr roll
end_sign at s x = fold-roll-Expr Place end_step (Expr-F.Sign at s x)

pub ruleset equations = (end_literal, end_read, end_member, end_item, end_part, end_indexed, end_unary, end_binary, end_choose, end_concat, end_repeated, end_pattern, end_call, end_size, end_time, end_sign)
