-- What a path means, as a function: it is what `MeansAt` says. What constants and types are seen under it.
use Rattle.std.specs.Prelude.{ℕ, ◌&&◌, Bool, true, false, if◌then◌else◌, List, [], ◌∷◌, slice_get, Option, Some, None}
use Rattle.std.specs.Map.{lookup}
use Rattle.std.specs.Str.{bytes_eq}
use Rattle.nt_value.specs.declared.place.Place.{Place}
use Rattle.nt_ast.specs.declared.path.Path.{Path}
use Rattle.nt_const.specs.declared.seen.Seen.{Seen}
use Rattle.nt_const.specs.declared.seen.Seen.TheVariants as seen
use Rattle.nt_const.specs.Tables.{Known, names_in}
use Rattle.nt_scopes.specs.declared.scope.Entry.{Entry}
use Rattle.nt_scopes.specs.declared.scope.Import.{Import}
use Rattle.nt_scopes.specs.declared.scope.Look.{Look}
use Rattle.nt_scopes.specs.declared.scope.Look.TheVariants as look
use Rattle.nt_scopes.specs.Choices.{both}
use Rattle.nt_scopes.specs.Means.{Names, is_before, counts, is_import_of}
use Rattle.nt_types.specs.declared.parts.What.{What}
use Rattle.nt_types.specs.declared.parts.What.TheVariants as what
use Rattle.nt_types.specs.Units.{UnitScopes, chain_at}

-- what a scope declares under a name, where it counts
abbrev pub held_by : Option Entry → Place → Option ℕ
held_by None at = None
held_by (Some e) at = if counts e.from at then Some e.number else None

abbrev pub held_in : List (List ℕ × Entry) → Place → List ℕ → Option ℕ
held_in names at name = held_by (lookup (bytes_eq name) names) at

abbrev pub one_look : Option ℕ → Look
one_look None = look.Unknown
one_look (Some t) = look.One t

-- what an import gives, and what several give together
abbrev pub package_look : Option Names → Place → List ℕ → Look
package_look None at name = look.Unknown
package_look (Some p) at name = one_look (held_in p.names at name)

abbrev pub import_look : List Names → Place → List ℕ → Bool → Import → Look
import_look scopes at name wildcard i =
    if is_import_of wildcard name i.name && is_before i.at at then package_look (slice_get scopes i.package) at name else look.Unknown

abbrev pub imports_look : List Names → Place → List ℕ → Bool → List Import → Look
imports_look scopes at name wildcard [] = look.Unknown
imports_look scopes at name wildcard (i ∷ is) = both (import_look scopes at name wildcard i) (imports_look scopes at name wildcard is)

-- the first of two that is something
abbrev pub or_look : Look → Look → Look
or_look look.Unknown b = b
or_look (look.One t) b = look.One t
or_look look.Ambiguous b = look.Ambiguous

abbrev pub look_in : List Names → Place → List ℕ → Names → Look
look_in scopes at name s = or_look (one_look (held_in s.names at name)) (or_look (imports_look scopes at name false s.imports) (imports_look scopes at name true s.imports))

abbrev pub look_through : List Names → Place → List ℕ → List Names → Look
look_through scopes at name [] = look.Unknown
look_through scopes at name (s ∷ outer) = or_look (look_in scopes at name s) (look_through scopes at name outer)

-- a name of a package that is there
abbrev pub look_package : List Names → Place → List ℕ → Option Entry → Look
look_package scopes at name None = look.Unknown
look_package scopes at name (Some e) = if counts e.from at then package_look (slice_get scopes e.number) at name else look.Unknown

abbrev pub look_path : UnitScopes → Place → List ℕ → Option (List ℕ) → Look
look_path s at name None = look_through s.scopes at name (chain_at s at)
look_path s at name (Some scope) = look_package s.scopes at name (lookup (bytes_eq scope) s.packages)

abbrev pub look_at : UnitScopes → Path → Look
look_at s path = look_path s path.at path.name path.scope

-- what a constant expression sees of it: the value that is known of a constant
abbrev pub seen_what : Known → Option What → Seen
seen_what known None = seen.Unknown
seen_what known (Some (what.Constant path)) = names_in known path
seen_what known (Some (what.Type of dims)) = seen.Other
seen_what known (Some (what.Function at)) = seen.Other
seen_what known (Some (what.Nettype at)) = seen.Other
seen_what known (Some what.Other) = seen.Other

abbrev pub seen_look : UnitScopes → Known → Look → Seen
seen_look s known look.Unknown = seen.Unknown
seen_look s known (look.One t) = seen_what known (slice_get s.whats t)
seen_look s known look.Ambiguous = seen.Ambiguous

abbrev pub seen_at : UnitScopes → Known → Path → Seen
seen_at s known path = seen_look s known (look_at s path)
