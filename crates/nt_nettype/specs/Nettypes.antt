-- The nettype of a declaration (IEEE 1800-2017, 6.6.7, 6.22.6), and its faults.
use Rattle.std.specs.Prelude.{◌≡◌, ℕ, ◌+◌, Bool, true, false, if◌then◌else◌, List, [], ◌∷◌, slice_get, Option, Some, None, Result, Ok, Err}
use Rattle.nt_value.specs.declared.place.Place.{Place}
use Rattle.nt_diag.specs.declared.rule.Rule.TheVariants as rule
use Rattle.nt_diag.specs.declared.refusal.Refusal.{Refusal}
use Rattle.nt_diag.specs.declared.refusal.Fault.{Fault as Failure}
use Rattle.nt_diag.specs.declared.refusal.Fault.TheVariants as failure
use Rattle.nt_diag.specs.Order.{NoLater, IsLeast}
use Rattle.nt_ast.specs.declared.path.Path.{Path}
use Rattle.nt_ast.specs.declared.types.TypeTree.{TypeTree}
use Rattle.nt_ast.specs.declared.types.TypeTree.TheOpen.{TypeTree-F}
use Rattle.nt_ast.specs.declared.types.TypeTree.TheViews.{out-TypeTree}
use Rattle.nt_const.specs.Tables.{Known}
use Rattle.nt_items.specs.declared.item.NettypeItem.{NettypeItem}
use Rattle.nt_kinds.specs.declared.kind.Kind.{Kind}
use Rattle.nt_scopes.specs.declared.scope.Look.{Look}
use Rattle.nt_scopes.specs.declared.scope.Look.TheVariants as look
use Rattle.nt_scopes.specs.Means.{is_before}
use Rattle.nt_type_trees.specs.declared.seen.TypeSeen.{TypeSeen}
use Rattle.nt_type_trees.specs.Types.{TypeNode, type_place, IsKind}
use Rattle.nt_type_trees.specs.Faults.{TypeFault}
use Rattle.nt_type_trees.specs.Tells.{InOrder}
use Rattle.nt_types.specs.declared.parts.What.{What}
use Rattle.nt_types.specs.declared.parts.What.TheVariants as what
use Rattle.nt_types.specs.Units.{UnitScopes}
use Rattle.nt_types.specs.Looks.{look_at, seen_at}
use Rattle.nt_named_types.specs.Judged.{types_at}
use Rattle.nt_typing.specs.declared.scope.Callable.{Callable}
use Rattle.nt_nettype.specs.declared.nettype.Nettype.{Nettype}
use Rattle.nt_nettype.specs.declared.nettype.NettypeSeen.{NettypeSeen}
use Rattle.nt_nettype.specs.declared.nettype.NettypeSeen.TheVariants as seen
use Rattle.nt_nettype.specs.declared.nettype.Before.{Before}
use Rattle.nt_nettype.specs.Resolvers.{refusal, same_place, IsResolver, ResolverFault}

-- what is known where nettypes are looked at: the scopes of units, constants, what is seen of types, of functions, and of the nettypes that stand before
pub record World : Type 0 where
  pub scopes : UnitScopes
  pub known : Known
  pub types : List TypeSeen
  pub functions : List Callable
  pub before : List Before

abbrev pub world : UnitScopes → Known → List TypeSeen → List Callable → List Before → World
world s known types functions before = record { scopes = s; known = known; types = types; functions = functions; before = before }

-- ---- numbers: how many nettypes of all files stand before a place
abbrev pub is_nettype_before : Place → What → Bool
is_nettype_before at (what.Type of dims) = false
is_nettype_before at (what.Constant path) = false
is_nettype_before at (what.Function own) = false
is_nettype_before at (what.Nettype own) = is_before own at
is_nettype_before at what.Other = false

abbrev pub number_at : List What → Place → ℕ
number_at [] at = 0
number_at (w ∷ ws) at = (if is_nettype_before at w then 1 else 0) + number_at ws at

-- ---- a nettype that stands before, under its name
abbrev pub nettype_at : List Before → Place → Option NettypeSeen
nettype_at [] at = None
nettype_at (b ∷ bs) at = if same_place b.at at then Some b.seen else nettype_at bs at

abbrev pub nettype_what : List Before → Option What → Option NettypeSeen
nettype_what bs None = None
nettype_what bs (Some (what.Type of dims)) = None
nettype_what bs (Some (what.Constant path)) = None
nettype_what bs (Some (what.Function at)) = None
nettype_what bs (Some (what.Nettype at)) = nettype_at bs at
nettype_what bs (Some what.Other) = None

abbrev pub nettype_look : List What → List Before → Look → Option NettypeSeen
nettype_look whats bs look.Unknown = None
nettype_look whats bs (look.One t) = nettype_what bs (slice_get whats t)
nettype_look whats bs look.Ambiguous = None

abbrev pub nettype_named : World → Path → Option NettypeSeen
nettype_named w path = nettype_look w.scopes.whats w.before (look_at w.scopes path)

-- the nettype that a declaration renames: its data type is the name of one
abbrev pub renamed : World → TypeNode → Option NettypeSeen
renamed w (TypeTree-F.Integral at word signed range) = None
renamed w (TypeTree-F.Struct at members) = None
renamed w (TypeTree-F.Named at path) = nettype_named w path
renamed w (TypeTree-F.Void at) = None

-- ---- the types of trees, as they are seen there
abbrev pub IsKindIn : World → TypeNode → Kind → Type 0
IsKindIn w t kind = IsKind (seen_at w.scopes w.known) (types_at w.scopes w.types) t kind

abbrev pub TypeFaultIn : World → TypeNode → Refusal → Type 0
TypeFaultIn w t r = TypeFault (seen_at w.scopes w.known) (types_at w.scopes w.types) t r

-- what is written after `with`
pub data Resolves (s : UnitScopes) (fs : List Callable) (kind : Kind) : Option Path → Option ℕ → Type 0 where
  unresolved : Resolves s fs kind None None
  resolved : (path : Path) (n : ℕ) → IsResolver s fs path kind n → Resolves s fs kind (Some path) (Some n)

-- the nettype of a declaration: one of its own, or another name of one that stands before
pub data IsNettype (w : World) (item : NettypeItem) : Nettype → Type 0 where
  of_type : (kind : Kind) (resolver : Option ℕ) → renamed w (out-TypeTree item.base) ≡ None → IsKindIn w (out-TypeTree item.base) kind → Resolves w.scopes w.functions kind item.resolver resolver
      → IsNettype w item (record { number = number_at w.scopes.whats item.at; kind = kind; resolver = resolver })
  another_name : (n : Nettype) → renamed w (out-TypeTree item.base) ≡ Some (seen.Known n) → item.resolver ≡ None → IsNettype w item n

-- a fault of the data type is one of the nettype. The resolver's rest on a type without one. What is wrong with a nettype that is renamed is told where it
-- stands
pub data NettypeFault (w : World) (item : NettypeItem) : Refusal → Type 0 where
  in_type : (r : Refusal) → renamed w (out-TypeTree item.base) ≡ None → TypeFaultIn w (out-TypeTree item.base) r → NettypeFault w item r
  in_resolver : (kind : Kind) (path : Path) (r : Refusal) → renamed w (out-TypeTree item.base) ≡ None → IsKindIn w (out-TypeTree item.base) kind → item.resolver ≡ Some path
      → ResolverFault w.scopes w.functions path kind r → NettypeFault w item r
  in_renamed : (r : Refusal) → renamed w (out-TypeTree item.base) ≡ Some (seen.Faulty r) → NettypeFault w item r
  -- N7: `with` after a nettype
  resolver_again : (n : Nettype) (path : Path) → renamed w (out-TypeTree item.base) ≡ Some (seen.Known n) → item.resolver ≡ Some path
      → NettypeFault w item (refusal rule.N7 (type_place (out-TypeTree item.base)))

-- a fault, the least where the data type stands in the order of the source
pub record RefusesNettype (w : World) (item : NettypeItem) (r : Refusal) : Type 0 where
  pub is : NettypeFault w item r
  pub least : InOrder (out-TypeTree item.base) → (q : Refusal) → NettypeFault w item q → NoLater r q

-- what the call answers
abbrev pub NettypeTells : World → NettypeItem → Result Nettype Failure → Type 0
NettypeTells w item (Ok n) = IsNettype w item n
NettypeTells w item (Err (failure.Refused r)) = RefusesNettype w item r
NettypeTells w item (Err (failure.OutOfMemory e)) = Unit {0}

-- ---- what the parts of the call answer (for the proof alone)
abbrev pub ChosenTells : UnitScopes → List Callable → Option Path → Kind → Result (Option ℕ) Failure → Type 0
ChosenTells s fs path kind (Ok o) = Resolves s fs kind path o
ChosenTells s fs path kind (Err (failure.Refused r)) = (p : Path) × (path ≡ Some p) × IsLeast (ResolverFault s fs p kind) r
ChosenTells s fs path kind (Err (failure.OutOfMemory e)) = Unit {0}

pub data RenamedFault (item : NettypeItem) : NettypeSeen → Refusal → Type 0 where
  faulty : (r : Refusal) → RenamedFault item (seen.Faulty r) r
  again : (n : Nettype) (path : Path) → item.resolver ≡ Some path → RenamedFault item (seen.Known n) (refusal rule.N7 (type_place (out-TypeTree item.base)))

abbrev pub RenamedTells : NettypeItem → NettypeSeen → Result Nettype Failure → Type 0
RenamedTells item x (Ok n) = (x ≡ seen.Known n) × (item.resolver ≡ None)
RenamedTells item x (Err (failure.Refused r)) = RenamedFault item x r
RenamedTells item x (Err (failure.OutOfMemory e)) = Unit {0}
