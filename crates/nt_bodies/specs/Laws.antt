-- Law: a path has one meaning inside a function.
use Rattle.std.specs.Prelude.{◌≡◌, ℕ, List}
use Rattle.nt_ast.specs.declared.path.Path.{Path}
use Rattle.nt_scopes.specs.declared.scope.Entry.{Entry}
use Rattle.nt_types.specs.Units.{UnitScopes}
use Rattle.nt_bodies.specs.declared.body.Inside.{Inside}
use Rattle.nt_bodies.specs.Bodies.{MeansInside, inside_at}

pub record OneInside : Type 0 where
  pub one : (s : UnitScopes) (own : List (List ℕ × Entry)) (loops : List (List ℕ)) (path : Path) (a b : Inside) → MeansInside s own loops path a → MeansInside s own loops path b → a ≡ b
  -- the function gives what it means
  pub is : (s : UnitScopes) (own : List (List ℕ × Entry)) (loops : List (List ℕ)) (path : Path) → MeansInside s own loops path (inside_at s own loops path)
