-- Which declaration a name means at a place (IEEE 1800-2017, 23.9, 26.3). A declaration is told by a number.
use Rattle.std.specs.Prelude.{ℕ, ◌≡◌, ◌==◌, ◌&&◌, ◌||◌, nat_lt, Bool, true, false, if◌then◌else◌, is_some, List, [], ◌∷◌, ◌++◌, length, slice_get, Option, Some, None}
use Rattle.std.specs.Map.{lookup}
use Rattle.std.specs.Str.{bytes_eq}
use Rattle.nt_value.specs.declared.place.Place.{Place}
use Rattle.nt_scopes.specs.declared.scope.Entry.{Entry}
use Rattle.nt_scopes.specs.declared.scope.Import.{Import}
use Rattle.nt_scopes.specs.declared.scope.Look.{Look}
use Rattle.nt_scopes.specs.declared.scope.Look.TheVariants as look
use Rattle.nt_scopes.specs.Choices.{Among, IsFound, Choice}

-- the names that a scope declares, each with its first declaration, and what is imported into it
pub record Names : Type 0 where
  pub names : List (List ℕ × Entry)
  pub imports : List Import

-- one declaration more: it counts for nothing where the scope has the name
abbrev pub added : List (List ℕ × Entry) → List ℕ → Entry → List (List ℕ × Entry)
added names name entry = if is_some (lookup (bytes_eq name) names) then names else names ++ (name, entry) ∷ []

-- earlier by file, and then by offset
abbrev pub is_before : Place → Place → Bool
is_before a b = nat_lt a.file b.file || ((a.file == b.file) && nat_lt a.offset b.offset)

-- a declaration counts after the place from which it does; one without such a place counts everywhere
abbrev pub counts : Option Place → Place → Bool
counts None at = true
counts (Some from) at = is_before from at

-- what a scope declares under a name, where it counts at the place
pub data Declares (names : List (List ℕ × Entry)) (at : Place) (name : List ℕ) : ℕ → Type 0 where
  declares : (e : Entry) → lookup (bytes_eq name) names ≡ Some e → counts e.from at ≡ true → Declares names at name e.number

-- whether an import is one by this name, or a wildcard import
abbrev pub is_import_of : Bool → List ℕ → Option (List ℕ) → Bool
is_import_of true name None = true
is_import_of true name (Some n) = false
is_import_of false name None = false
is_import_of false name (Some n) = bytes_eq name n

-- what an import gives: what the package declares, where the import stands before the place (26.3)
pub data Gives (scopes : List Names) (at : Place) (name : List ℕ) (wildcard : Bool) (i : Import) (t : ℕ) : Type 0 where
  imported : (p : Names) → is_import_of wildcard name i.name ≡ true → is_before i.at at ≡ true → slice_get scopes i.package ≡ Some p
      → Declares p.names at name t → Gives scopes at name wildcard i t

-- what the imports of a scope give, by name or by wildcard
abbrev pub ImportedIn : List Names → Names → Place → List ℕ → Bool → ℕ → Type 0
ImportedIn scopes s at name wildcard t = Among (Gives scopes at name wildcard) (length s.imports) s.imports t

-- what a name means in one scope: its own declarations come before imports by name, and these before wildcard imports
pub data MeansIn (scopes : List Names) (at : Place) (name : List ℕ) (s : Names) : Look → Type 0 where
  own : (t : ℕ) → Declares s.names at name t → MeansIn scopes at name s (look.One t)
  by_name : (l : Look) → IsFound (Declares s.names at name) None → Choice (ImportedIn scopes s at name false) l → (l ≡ look.Unknown → ⊥) → MeansIn scopes at name s l
  by_wildcard : (l : Look) → IsFound (Declares s.names at name) None → Choice (ImportedIn scopes s at name false) look.Unknown → Choice (ImportedIn scopes s at name true) l → MeansIn scopes at name s l

-- what a name means at a place, in scopes from the innermost one on: one declaration, nothing, or what two imports give
pub data Means (scopes : List Names) (at : Place) (name : List ℕ) : List Names → Look → Type 0 where
  here : {s : Names} {outer : List Names} (l : Look) → MeansIn scopes at name s l → (l ≡ look.Unknown → ⊥) → Means scopes at name (s ∷ outer) l
  further : {s : Names} {outer : List Names} {l : Look} → MeansIn scopes at name s look.Unknown → Means scopes at name outer l → Means scopes at name (s ∷ outer) l
  nowhere : Means scopes at name [] look.Unknown

-- what `p::x` means: what the package declares (26.3)
pub data MeansOf (scopes : List Names) (at : Place) (name : List ℕ) (k : ℕ) : Look → Type 0 where
  of_package : (p : Names) (t : ℕ) → slice_get scopes k ≡ Some p → Declares p.names at name t → MeansOf scopes at name k (look.One t)
  not_there : ((p : Names) (t : ℕ) → slice_get scopes k ≡ Some p → Declares p.names at name t → ⊥) → MeansOf scopes at name k look.Unknown
