-- What names mean (IEEE 1800-2017, 23.9, 26.3).
use Rattle.std.specs.Prelude.{ℕ, nat_eq, if◌then◌else◌, List, [], ◌∷◌, Option, Some, None}
use Rattle.std.specs.Cmp.Lexicographic.{pointwise}
use Rattle.nt_ast.specs.Names.{path_name}
use Rattle.nt_ast.specs.declared.path.Path.{Path}
use Rattle.nt_const.specs.Rules.{Names}
use Rattle.nt_const.specs.declared.seen.Seen.{Seen}
use Rattle.nt_const.specs.declared.seen.Seen.TheVariants as seen
use Rattle.nt_typing.specs.declared.scope.Entity.{Entity}
use Rattle.nt_typing.specs.declared.scope.Entity.TheVariants as e
use Rattle.nt_typing.specs.declared.scope.Scope.{Scope}

abbrev pub or_last : {A : Type 0} → Option A → Option A → Option A
or_last (Some x) o = Some x
or_last None o = o

-- the last entry of a name
abbrev pub last_of : {A : Type 0} → List (List ℕ × A) → List ℕ → Option A
last_of [] name = None
last_of (n ∷ ns) name = or_last (last_of ns name) (if pointwise nat_eq n.0 name then Some n.1 else None)

-- what a name means in a scope; that of a package stands under package::name
abbrev pub meaning_of : Scope → Path → Option Entity
meaning_of scope path = last_of scope.names (path_name path)

-- what the rules of constant expressions see of a name
abbrev pub seen_of : Option Entity → Seen
seen_of None = seen.Unknown
seen_of (Some (e.Net net kind user)) = seen.Other
seen_of (Some e.Interconnect) = seen.Other
seen_of (Some (e.Var var kind)) = seen.Other
seen_of (Some (e.Local local kind)) = seen.Other
seen_of (Some (e.Array element)) = seen.Other
seen_of (Some (e.Constant value)) = seen.Value value
seen_of (Some (e.Function callable)) = seen.Other

abbrev pub constants : Scope → Names
constants scope path = seen_of (meaning_of scope path)
