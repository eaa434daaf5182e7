-- What is used in an expression, by its first node.
use Rattle.std.proofs.Common.{◌≡◌, ℕ, Bool, List, map, ap}
use Rattle.std.specs.Prelude.{Option}
use denote.Hole.Carrier.{roll}
use Rattle.nt_value.specs.declared.place.Place.{Place}
use Rattle.nt_value.specs.declared.literal.Literal.{Literal}
use Rattle.nt_value.specs.declared.operator.Unary.{Unary}
use Rattle.nt_value.specs.declared.operator.Binary.{Binary}
use Rattle.nt_ast.specs.declared.path.Path.{Path}
use Rattle.nt_ast.specs.declared.expr.Key.{Key}
use Rattle.nt_ast.specs.declared.expr.Expr.{Expr}
use Rattle.nt_ast.specs.declared.expr.Expr.TheVariants as e
use Rattle.nt_ast.specs.declared.expr.Expr.TheOpen.{Expr-F}
use Rattle.nt_ast.specs.declared.expr.Expr.TheViews.{roll-Expr}
use Rattle.nt_ast.specs.declared.expr.Expr.TheFolds.{fold-roll-Expr}
use Rattle.nt_uses.specs.declared.used.Used.{Used}
use Rattle.nt_uses.specs.Uses.{Around, Adds, named, system, all_of, all_items, uses_step, expr_uses}

pub uses_literal : (at : Place) (v : Literal) (a : Around) (b : List Used) → expr_uses (e.Literal at v) a b ≡ b
unfolding expr_uses roll-Expr roll
uses_literal at v a b = ap (λ (f : Adds). f a b) (fold-roll-Expr Adds uses_step (Expr-F.Literal at v))

pub uses_read : (at : Place) (path : Path) (a : Around) (b : List Used) → expr_uses (e.Read at path) a b ≡ named path a b
unfolding expr_uses roll-Expr roll
uses_read at path a b = ap (λ (f : Adds). f a b) (fold-roll-Expr Adds uses_step (Expr-F.Read at path))

pub uses_member : (at : Place) (x : Expr) (p : Place) (name : List ℕ) (a : Around) (b : List Used) → expr_uses (e.Member at x p name) a b ≡ expr_uses x a b
unfolding expr_uses roll-Expr roll
uses_member at x p name a b = ap (λ (f : Adds). f a b) (fold-roll-Expr Adds uses_step (Expr-F.Member at x p name))

pub uses_item : (at : Place) (x y : Expr) (a : Around) (b : List Used) → expr_uses (e.Item at x y) a b ≡ expr_uses y a (expr_uses x a b)
unfolding expr_uses roll-Expr roll
uses_item at x y a b = ap (λ (f : Adds). f a b) (fold-roll-Expr Adds uses_step (Expr-F.Item at x y))

pub uses_part : (at : Place) (x y z : Expr) (a : Around) (b : List Used) → expr_uses (e.Part at x y z) a b ≡ expr_uses z a (expr_uses y a (expr_uses x a b))
unfolding expr_uses roll-Expr roll
uses_part at x y z a b = ap (λ (f : Adds). f a b) (fold-roll-Expr Adds uses_step (Expr-F.Part at x y z))

pub uses_indexed : (at : Place) (x y z : Expr) (up : Bool) (a : Around) (b : List Used) → expr_uses (e.Indexed at x y z up) a b ≡ expr_uses z a (expr_uses y a (expr_uses x a b))
unfolding expr_uses roll-Expr roll
uses_indexed at x y z up a b = ap (λ (f : Adds). f a b) (fold-roll-Expr Adds uses_step (Expr-F.Indexed at x y z up))

pub uses_unary : (at : Place) (op : Unary) (x : Expr) (a : Around) (b : List Used) → expr_uses (e.Unary at op x) a b ≡ expr_uses x a b
unfolding expr_uses roll-Expr roll
uses_unary at op x a b = ap (λ (f : Adds). f a b) (fold-roll-Expr Adds uses_step (Expr-F.Unary at op x))

pub uses_binary : (at : Place) (op : Binary) (x y : Expr) (a : Around) (b : List Used) → expr_uses (e.Binary at op x y) a b ≡ expr_uses y a (expr_uses x a b)
unfolding expr_uses roll-Expr roll
uses_binary at op x y a b = ap (λ (f : Adds). f a b) (fold-roll-Expr Adds uses_step (Expr-F.Binary at op x y))

pub uses_choose : (at : Place) (x y z : Expr) (a : Around) (b : List Used) → expr_uses (e.Choose at x y z) a b ≡ expr_uses z a (expr_uses y a (expr_uses x a b))
unfolding expr_uses roll-Expr roll
uses_choose at x y z a b = ap (λ (f : Adds). f a b) (fold-roll-Expr Adds uses_step (Expr-F.Choose at x y z))

pub uses_concat : (at : Place) (xs : List Expr) (a : Around) (b : List Used) → expr_uses (e.Concat at xs) a b ≡ all_of (map expr_uses xs) a b
unfolding expr_uses roll-Expr roll
uses_concat at xs a b = ap (λ (f : Adds). f a b) (fold-roll-Expr Adds uses_step (Expr-F.Concat at xs))

pub uses_repeated : (at : Place) (x : Expr) (xs : List Expr) (a : Around) (b : List Used) → expr_uses (e.Repeat at x xs) a b ≡ all_of (map expr_uses xs) a (expr_uses x a b)
unfolding expr_uses roll-Expr roll
uses_repeated at x xs a b = ap (λ (f : Adds). f a b) (fold-roll-Expr Adds uses_step (Expr-F.Repeat at x xs))

pub uses_pattern : (at : Place) (xs : List (Option Key × Expr)) (a : Around) (b : List Used) → expr_uses (e.Pattern at xs) a b ≡ all_items (map (λ (p : Option Key × Expr). (p.0, expr_uses p.1)) xs) a b
unfolding expr_uses roll-Expr roll
uses_pattern at xs a b = ap (λ (f : Adds). f a b) (fold-roll-Expr Adds uses_step (Expr-F.Pattern at xs))

pub uses_call : (at : Place) (path : Path) (xs : List Expr) (a : Around) (b : List Used) → expr_uses (e.Call at path xs) a b ≡ all_of (map expr_uses xs) a (named path a b)
unfolding expr_uses roll-Expr roll
uses_call at path xs a b = ap (λ (f : Adds). f a b) (fold-roll-Expr Adds uses_step (Expr-F.Call at path xs))

pub uses_size : (at : Place) (x : Expr) (a : Around) (b : List Used) → expr_uses (e.Size at x) a b ≡ expr_uses x a b
unfolding expr_uses roll-Expr roll
uses_size at x a b = ap (λ (f : Adds). f a b) (fold-roll-Expr Adds uses_step (Expr-F.Size at x))

pub uses_time : (at : Place) (a : Around) (b : List Used) → expr_uses (e.Time at) a b ≡ system a b
unfolding expr_uses roll-Expr roll
uses_time at a b = ap (λ (f : Adds). f a b) (fold-roll-Expr Adds uses_step (Expr-F.Time at))

pub uses_sign : (at : Place) (s : Bool) (x : Expr) (a : Around) (b : List Used) → expr_uses (e.Sign at s x) a b ≡ expr_uses x a b
unfolding expr_uses roll-Expr roll
uses_sign at s x a b = ap (λ (f : Adds). f a b) (fold-roll-Expr Adds uses_step (Expr-F.Sign at s x))

pub ruleset equations = (uses_literal, uses_read, uses_member, uses_item, uses_part, uses_indexed, uses_unary, uses_binary, uses_choose, uses_concat, uses_repeated, uses_pattern, uses_call, uses_size, uses_time, uses_sign)
