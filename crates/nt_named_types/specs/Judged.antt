-- The types that scopes declare, in their order (IEEE 1800-2017, 6.18): each by those that stand before it.
use Rattle.std.specs.Prelude.{◌≡◌, List, [], ◌∷◌, ◌++◌, slice_get, Option, Some, None}
use Rattle.nt_value.specs.declared.place.Place.{Place}
use Rattle.nt_diag.specs.declared.refusal.Refusal.{Refusal}
use Rattle.nt_ast.specs.declared.path.Path.{Path}
use Rattle.nt_ast.specs.declared.types.TypeTree.{TypeTree}
use Rattle.nt_const.specs.Tables.{Known}
use Rattle.nt_kinds.specs.declared.kind.Kind.{Kind}
use Rattle.nt_scopes.specs.declared.scope.Look.{Look}
use Rattle.nt_scopes.specs.declared.scope.Look.TheVariants as look
use Rattle.nt_type_trees.specs.declared.seen.TypeSeen.{TypeSeen}
use Rattle.nt_type_trees.specs.declared.seen.TypeSeen.TheVariants as seen
use Rattle.nt_type_trees.specs.Types.{Dim, IsDeclared}
use Rattle.nt_type_trees.specs.Tells.{RefusesDeclared}
use Rattle.nt_types.specs.declared.parts.What.{What}
use Rattle.nt_types.specs.declared.parts.What.TheVariants as what
use Rattle.nt_types.specs.Units.{UnitScopes}
use Rattle.nt_types.specs.Looks.{look_at, seen_at}

-- what is seen of a declaration: a type only where it is judged; what stands later, as a module or a function may, is no type
abbrev pub entry_of : Option TypeSeen → TypeSeen
entry_of None = seen.Other
entry_of (Some x) = x

abbrev pub type_look : List TypeSeen → Look → TypeSeen
type_look table look.Unknown = seen.Unknown
type_look table (look.One t) = entry_of (slice_get table t)
type_look table look.Ambiguous = seen.Ambiguous

-- what a path means where a type is asked for
abbrev pub types_at : UnitScopes → List TypeSeen → Path → TypeSeen
types_at s table path = type_look table (look_at s path)

-- what is seen of a declaration by those before it: its type, or the least fault in it (6.18)
pub data IsJudged (s : UnitScopes) (known : Known) (table : List TypeSeen) : What → TypeSeen → Type 0 where
  a_type : {of : TypeTree} {dims : List Dim} {x : Kind} → IsDeclared (seen_at s known) (types_at s table) of dims x → IsJudged s known table (what.Type of dims) (seen.Known x)
  a_fault : {of : TypeTree} {dims : List Dim} {r : Refusal} → RefusesDeclared (seen_at s known) (types_at s table) of dims r → IsJudged s known table (what.Type of dims) (seen.Faulty r)
  a_constant : (path : Path) → IsJudged s known table (what.Constant path) seen.Other
  a_function : (at : Place) → IsJudged s known table (what.Function at) seen.Other
  a_nettype : (at : Place) → IsJudged s known table (what.Nettype at) seen.Other
  an_other : IsJudged s known table what.Other seen.Other

-- one declaration more
pub record IsAdded (s : UnitScopes) (known : Known) (w : What) (old new : List TypeSeen) : Type 0 where
  pub entry : TypeSeen
  pub judged : IsJudged s known old w entry
  pub is : new ≡ old ++ entry ∷ []

-- what is seen of declarations, one after the other
pub data AreJudged (s : UnitScopes) (known : Known) : List What → List TypeSeen → Type 0 where
  none : AreJudged s known [] []
  more : {ws : List What} {table : List TypeSeen} {w : What} {x : TypeSeen} → AreJudged s known ws table → IsJudged s known table w x → AreJudged s known (ws ++ w ∷ []) (table ++ x ∷ [])
