-- Where an expression ends: the last place in it.
use Rattle.std.specs.Prelude.{if◌then◌else◌, List, [], ◌∷◌, Option}
use Rattle.nt_value.specs.declared.place.Place.{Place}
use Rattle.nt_ast.specs.declared.expr.Key.{Key}
use Rattle.nt_ast.specs.declared.expr.Expr.{Expr}
use Rattle.nt_ast.specs.declared.expr.Expr.TheOpen.{Expr-F}
use Rattle.nt_ast.specs.declared.expr.Expr.TheFolds.{fold-Expr}
use Rattle.nt_scopes.specs.Means.{is_before}

-- the later one of two places
abbrev pub later : Place → Place → Place
later a b = if is_before a b then b else a

-- the latest of several, and of the items of a pattern
abbrev pub latest : Place → List Place → Place
latest at [] = at
latest at (p ∷ ps) = latest (later at p) ps

abbrev pub latest_item : Place → List (Option Key × Place) → Place
latest_item at [] = at
latest_item at (p ∷ ps) = latest_item (later at p.1) ps

abbrev pub end_step : Expr-F Place → Place
end_step (Expr-F.Literal at v) = at
end_step (Expr-F.Read at path) = later at path.at
end_step (Expr-F.Member at x p name) = later (later at x) p
end_step (Expr-F.Item at x y) = later (later at x) y
end_step (Expr-F.Part at x y z) = later (later (later at x) y) z
end_step (Expr-F.Indexed at x y z up) = later (later (later at x) y) z
end_step (Expr-F.Unary at op x) = later at x
end_step (Expr-F.Binary at op x y) = later (later at x) y
end_step (Expr-F.Choose at x y z) = later (later (later at x) y) z
end_step (Expr-F.Concat at xs) = latest at xs
end_step (Expr-F.Repeat at x xs) = latest (later at x) xs
end_step (Expr-F.Pattern at items) = latest_item at items
end_step (Expr-F.Call at path xs) = latest (later at path.at) xs
end_step (Expr-F.Size at x) = later at x
end_step (Expr-F.Time at) = at
end_step (Expr-F.Sign at s x) = later at x

unfoldable pub end_of : Expr → Place
end_of = fold-Expr Place end_step
