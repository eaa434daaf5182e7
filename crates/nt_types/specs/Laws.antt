-- Law: a path has one meaning at its place.
use Rattle.std.specs.Prelude.{◌≡◌}
use Rattle.nt_ast.specs.declared.path.Path.{Path}
use Rattle.nt_scopes.specs.declared.scope.Look.{Look}
use Rattle.nt_types.specs.Units.{UnitScopes, MeansAt}

abbrev pub OnePath : Type 0
OnePath = (s : UnitScopes) (path : Path) (a b : Look) → MeansAt s path a → MeansAt s path b → a ≡ b
