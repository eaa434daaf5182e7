-- Rules of statements that answer something or the number of a rule (IEEE 1800-2017, 9.4.1, 12.7.3, 21.2.1).
use Rattle.std.specs.Prelude.{◌≡◌, ℕ, suc, ◌==◌, Bool, true, false, ◌||◌, if◌then◌else◌, List, [], ◌∷◌, Option, Some, None, Result, Ok, Err}
use Rattle.nt_value.specs.Digits.{LeafValue}
use Rattle.nt_value.specs.declared.kind.Edge.{Edge}
use Rattle.nt_value.specs.declared.place.Place.{Place}
use Rattle.nt_diag.specs.declared.rule.Rule.{Rule}
use Rattle.nt_diag.specs.declared.rule.Rule.TheVariants as rule
use Rattle.nt_ast.specs.Places.{Node}
use Rattle.nt_ast.specs.declared.expr.Expr.{Expr}
use Rattle.nt_ast.specs.declared.expr.Expr.TheOpen.{Expr-F}
use Rattle.nt_ast.specs.declared.path.Path.{Path}
use Rattle.nt_design.specs.Parts.{number_in}
use Rattle.nt_design.specs.Rules.{is_delay_number}
use Rattle.nt_kinds.specs.declared.kind.Kind.{Kind}
use Rattle.nt_kinds.specs.declared.kind.Kind.TheOpen.{Kind-F}
use Rattle.nt_kinds.specs.declared.kind.Kind.TheViews.{out-Kind}
use Rattle.nt_typing.specs.Names.{meaning_of}
use Rattle.nt_typing.specs.Tables.{thing_of}
use Rattle.nt_typing.specs.declared.scope.Scope.{Scope}
use Rattle.nt_typing.specs.declared.thing.Thing.{Thing}
use Rattle.nt_typing.specs.declared.thing.Thing.TheVariants.{Value as value, Many as many}

-- a name alone, at its place
abbrev pub alone : Place → List ℕ → Path
alone at name = record { at = at; scope = None; name = name }

abbrev pub name_node : Place → List ℕ → Node
name_node at name = Expr-F.Read at (alone at name)

-- ---- `foreach`
-- over what it counts: an array with its bounds, the left one first, or a resolver's argument (12.7.3)
abbrev pub Bounds : Type 0
Bounds = Option (ℕ × ℕ)

abbrev pub bounds_in : Kind-F Kind → Result Bounds Rule
bounds_in (Kind-F.One leaf left right) = Err rule.T8
bounds_in (Kind-F.Struct declared members) = Err rule.T8
bounds_in (Kind-F.Array left right element) = Ok (Some (left, right))

abbrev pub bounds_of : Result Thing Rule → Result Bounds Rule
bounds_of (Err r) = Err r
bounds_of (Ok (value kind a)) = bounds_in (out-Kind kind)
bounds_of (Ok (many element)) = Ok None

abbrev pub bounds_at : Scope → Place → List ℕ → Result Bounds Rule
bounds_at s at array = bounds_of (thing_of (meaning_of s (alone at array)))

-- ---- delays
-- from 0 to 2^48, without x or z (9.4.1; the limit is this project's own)
abbrev pub IsDelay : LeafValue → Type 0
IsDelay v = is_delay_number (number_in (v ∷ [])) ≡ true

-- ---- event controls
-- `@*` lists no event expression (9.4.2.2)
abbrev pub events_of : Bool → List (Edge × Expr) → List (Edge × Expr)
events_of true on = []
events_of false on = on

-- ---- `$display`
-- what comes next in a text: anything, what follows `%`, or what follows `%0`
pub data Coming : Type 0 where
  Anything : Coming
  Format : Coming
  Letter : Coming

abbrev pub one_more : Option ℕ → Option ℕ
one_more None = None
one_more (Some n) = Some (suc n)

-- how many values the formats of a text take, or none where one is no format: `%0d`, `%b` and `%h` take one, `%%` none. 37 is `%`,
-- 48 is 0, 98 is b, 100 is d and 104 is h
abbrev pub taken_from : Coming → List ℕ → Option ℕ
taken_from Anything [] = Some 0
taken_from Format [] = None
taken_from Letter [] = None
taken_from Anything (c ∷ cs) = if c == 37 then taken_from Format cs else taken_from Anything cs
taken_from Format (c ∷ cs) =
    if c == 37
    then taken_from Anything cs
    else (if c == 48 then taken_from Letter cs else (if c == 98 || c == 104 then one_more (taken_from Anything cs) else None))
taken_from Letter (c ∷ cs) = if c == 100 then one_more (taken_from Anything cs) else None

unfoldable pub formats_of : List ℕ → Option ℕ
formats_of text = taken_from Anything text

-- as many values as its formats take
abbrev pub is_taken : Option ℕ → ℕ → Bool
is_taken None n = false
is_taken (Some m) n = m == n
