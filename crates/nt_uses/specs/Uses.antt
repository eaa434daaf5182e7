-- What is used in an expression (IEEE 1800-2017, 13.4): names, by what they mean inside the function (23.9), and system calls (clause 20). The uses are a
-- list in the order in which they are gathered: what stands in an expression, behind what was used before it.
use Rattle.std.specs.Prelude.{ℕ, List, [], ◌∷◌, ◌++◌, Option, Some, None}
use Rattle.nt_value.specs.declared.place.Place.{Place}
use Rattle.nt_ast.specs.declared.path.Path.{Path}
use Rattle.nt_ast.specs.declared.expr.Key.{Key}
use Rattle.nt_ast.specs.declared.expr.Expr.{Expr}
use Rattle.nt_ast.specs.declared.expr.Expr.TheOpen.{Expr-F}
use Rattle.nt_ast.specs.declared.expr.Expr.TheFolds.{fold-Expr}
use Rattle.nt_scopes.specs.declared.scope.Entry.{Entry}
use Rattle.nt_types.specs.Units.{UnitScopes}
use Rattle.nt_bodies.specs.Bodies.{inside_at}
use Rattle.nt_uses.specs.declared.used.Used.{Used}
use Rattle.nt_uses.specs.declared.used.Used.TheVariants as used

-- where names stand: the scopes of units, what the function declares itself, and the variables of the loops round them
pub record Around : Type 0 where
  pub scopes : UnitScopes
  pub own : List (List ℕ × Entry)
  pub loops : List (List ℕ)

abbrev pub here : UnitScopes → List (List ℕ × Entry) → List (List ℕ) → Around
here s own loops = record { scopes = s; own = own; loops = loops }

-- what is used, behind what was used before
abbrev pub Adds : Type 0
Adds = Around → List Used → List Used

-- a name that is read or called; one that is written
abbrev pub named : Path → Adds
named path a before = before ++ used.Name (inside_at a.scopes a.own a.loops path) ∷ []

abbrev pub written : Path → Adds
written path a before = before ++ used.Written (inside_at a.scopes a.own a.loops path) ∷ []

-- a call of the system
abbrev pub system : Adds
system a before = before ++ used.System ∷ []

-- one after the other
abbrev pub all_of : List Adds → Adds
all_of [] a before = before
all_of (x ∷ xs) a before = all_of xs a (x a before)

abbrev pub all_items : List (Option Key × Adds) → Adds
all_items [] a before = before
all_items (x ∷ xs) a before = all_items xs a (x.1 a before)

-- `$signed` and `$unsigned` are no calls of the system: they are operators in the form of one (11.7)
abbrev pub uses_step : Expr-F Adds → Adds
uses_step (Expr-F.Literal at v) = λ a b. b
uses_step (Expr-F.Read at path) = λ a b. named path a b
uses_step (Expr-F.Member at x p name) = λ a b. x a b
uses_step (Expr-F.Item at x y) = λ a b. y a (x a b)
uses_step (Expr-F.Part at x y z) = λ a b. z a (y a (x a b))
uses_step (Expr-F.Indexed at x y z up) = λ a b. z a (y a (x a b))
uses_step (Expr-F.Unary at op x) = λ a b. x a b
uses_step (Expr-F.Binary at op x y) = λ a b. y a (x a b)
uses_step (Expr-F.Choose at x y z) = λ a b. z a (y a (x a b))
uses_step (Expr-F.Concat at xs) = λ a b. all_of xs a b
uses_step (Expr-F.Repeat at x xs) = λ a b. all_of xs a (x a b)
uses_step (Expr-F.Pattern at items) = λ a b. all_items items a b
uses_step (Expr-F.Call at path xs) = λ a b. all_of xs a (named path a b)
uses_step (Expr-F.Size at x) = λ a b. x a b
uses_step (Expr-F.Time at) = λ a b. system a b
uses_step (Expr-F.Sign at s x) = λ a b. x a b

unfoldable pub expr_uses : Expr → Adds
expr_uses = fold-Expr Adds uses_step

abbrev pub if_there : Option Expr → Adds
if_there None a before = before
if_there (Some x) a before = expr_uses x a before

-- ---- left sides (10.4.1): the name of which a member, an element or a part is written
abbrev pub root_step : Expr-F (Option Path) → Option Path
root_step (Expr-F.Literal at v) = None
root_step (Expr-F.Read at path) = Some path
root_step (Expr-F.Member at x p name) = x
root_step (Expr-F.Item at x y) = x
root_step (Expr-F.Part at x y z) = x
root_step (Expr-F.Indexed at x y z up) = x
root_step (Expr-F.Unary at op x) = None
root_step (Expr-F.Binary at op x y) = None
root_step (Expr-F.Choose at x y z) = None
root_step (Expr-F.Concat at xs) = None
root_step (Expr-F.Repeat at x xs) = None
root_step (Expr-F.Pattern at items) = None
root_step (Expr-F.Call at path xs) = None
root_step (Expr-F.Size at x) = None
root_step (Expr-F.Time at) = None
root_step (Expr-F.Sign at s x) = None

unfoldable pub root_of : Expr → Option Path
root_of = fold-Expr (Option Path) root_step

abbrev pub written_if : Option Path → Adds
written_if None a before = before
written_if (Some path) a before = written path a before

-- an assignment, a blocking or a nonblocking one: what is written, and the names on both sides
abbrev pub assigned : Expr → Expr → Adds
assigned left right a before = expr_uses right a (expr_uses left a (written_if (root_of left) a before))
