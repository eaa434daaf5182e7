-- Laws: a name has one meaning at a place.
use Rattle.std.specs.Prelude.{ℕ, ◌≡◌, List}
use Rattle.nt_value.specs.declared.place.Place.{Place}
use Rattle.nt_scopes.specs.declared.scope.Look.{Look}
use Rattle.nt_scopes.specs.Means.{Names, Means, MeansOf}

pub record OneMeaning : Type 0 where
  pub one : (scopes : List Names) (at : Place) (name : List ℕ) (chain : List Names) (a b : Look) → Means scopes at name chain a → Means scopes at name chain b → a ≡ b
  pub one_of : (scopes : List Names) (at : Place) (name : List ℕ) (k : ℕ) (a b : Look) → MeansOf scopes at name k a → MeansOf scopes at name k b → a ≡ b
