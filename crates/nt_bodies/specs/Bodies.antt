-- What a path means inside a function (IEEE 1800-2017, 12.7, 13.4, 23.9): the variable of a loop, what the function declares itself, or what is seen
-- where the function stands.
use Rattle.std.specs.Prelude.{◌≡◌, ℕ, suc, if◌then◌else◌, List, [], ◌∷◌, Option, Some, None}
use Rattle.std.specs.Str.{bytes_eq}
use Rattle.nt_ast.specs.declared.path.Path.{Path}
use Rattle.nt_items.specs.declared.item.FunctionItem.{FunctionItem}
use Rattle.nt_scopes.specs.declared.scope.Entry.{Entry}
use Rattle.nt_scopes.specs.declared.scope.Look.{Look}
use Rattle.nt_scopes.specs.Choices.{IsFound}
use Rattle.nt_scopes.specs.Means.{added, Declares}
use Rattle.nt_own_names.specs.declared.named.Named.{Named}
use Rattle.nt_own_names.specs.Twice.{function_names}
use Rattle.nt_types.specs.Units.{UnitScopes, MeansAt}
use Rattle.nt_types.specs.Looks.{look_at, held_in}
use Rattle.nt_bodies.specs.declared.body.Inside.{Inside}
use Rattle.nt_bodies.specs.declared.body.Inside.TheVariants as inside

-- each name with its first declaration, by their numbers from n on; each counts after its place
abbrev pub own_from : List (List ℕ × Entry) → ℕ → List Named → List (List ℕ × Entry)
own_from names n [] = names
own_from names n (d ∷ ds) = own_from (added names d.name (record { from = Some d.at; number = n })) (suc n) ds

-- what a function declares itself: its name has the number 0, then come its arguments and its locals (13.4)
abbrev pub own_names : FunctionItem → List (List ℕ × Entry)
own_names f = own_from [] 0 (function_names f)

-- the innermost of the loops whose variable has this name, by its number from the outermost on (12.7.1, 12.7.3)
abbrev pub innermost_from : List (List ℕ) → List ℕ → ℕ → Option ℕ → Option ℕ
innermost_from [] name n found = found
innermost_from (x ∷ xs) name n found = innermost_from xs name (suc n) (if bytes_eq name x then Some n else found)

abbrev pub innermost : List (List ℕ) → List ℕ → Option ℕ
innermost loops name = innermost_from loops name 0 None

-- what a path means inside a function that declares these names, inside loops with these variables (23.9)
pub data MeansInside (s : UnitScopes) (own : List (List ℕ × Entry)) (loops : List (List ℕ)) (path : Path) : Inside → Type 0 where
  of_loop : (k : ℕ) → path.scope ≡ None → innermost loops path.name ≡ Some k → MeansInside s own loops path (inside.Loop k)
  of_function : (t : ℕ) → path.scope ≡ None → innermost loops path.name ≡ None → Declares own path.at path.name t → MeansInside s own loops path (inside.Own t)
  outside : (l : Look) → path.scope ≡ None → innermost loops path.name ≡ None → IsFound (Declares own path.at path.name) None → MeansAt s path l → MeansInside s own loops path (inside.Outside l)
  of_package : (l : Look) (scope : List ℕ) → path.scope ≡ Some scope → MeansAt s path l → MeansInside s own loops path (inside.Outside l)

-- ---- the same as a function
abbrev pub own_or : UnitScopes → Path → Option ℕ → Inside
own_or s path None = inside.Outside (look_at s path)
own_or s path (Some t) = inside.Own t

abbrev pub loop_or : UnitScopes → List (List ℕ × Entry) → Path → Option ℕ → Inside
loop_or s own path None = own_or s path (held_in own path.at path.name)
loop_or s own path (Some k) = inside.Loop k

abbrev pub inside_by : UnitScopes → List (List ℕ × Entry) → List (List ℕ) → Path → Option (List ℕ) → Inside
inside_by s own loops path None = loop_or s own path (innermost loops path.name)
inside_by s own loops path (Some scope) = inside.Outside (look_at s path)

abbrev pub inside_at : UnitScopes → List (List ℕ × Entry) → List (List ℕ) → Path → Inside
inside_at s own loops path = inside_by s own loops path path.scope
