-- The function that resolves a net (IEEE 1800-2017, 6.6.7), and its faults. They stand at the name after `with`.
use Rattle.std.specs.Prelude.{◌≡◌, ℕ, ◌≤◌, ◌==◌, ◌&&◌, Bool, true, false, if◌then◌else◌, List, [], ◌∷◌, All, length, slice_get, Option, Some, None, Result, Ok, Err}
use Rattle.nt_value.specs.declared.place.Place.{Place}
use Rattle.nt_diag.specs.declared.rule.Rule.{Rule}
use Rattle.nt_diag.specs.declared.rule.Rule.TheVariants as rule
use Rattle.nt_diag.specs.declared.refusal.Refusal.{Refusal}
use Rattle.nt_diag.specs.declared.refusal.Fault.{Fault as Failure}
use Rattle.nt_diag.specs.declared.refusal.Fault.TheVariants as failure
use Rattle.nt_diag.specs.Order.{IsLeast}
use Rattle.nt_ast.specs.declared.path.Path.{Path}
use Rattle.nt_kinds.specs.declared.kind.Kind.{Kind}
use Rattle.nt_kinds.specs.declared.kind.Kind.TheViews.{out-Kind}
use Rattle.nt_kinds.specs.Kinds.{leaves, Equivalent}
use Rattle.nt_scopes.specs.declared.scope.Look.{Look}
use Rattle.nt_scopes.specs.declared.scope.Look.TheVariants as look
use Rattle.nt_types.specs.declared.parts.What.{What}
use Rattle.nt_types.specs.declared.parts.What.TheVariants as what
use Rattle.nt_types.specs.Units.{UnitScopes}
use Rattle.nt_types.specs.Looks.{look_at}
use Rattle.nt_typing.specs.declared.scope.Callable.{Callable}
use Rattle.nt_uses.specs.Functions.{writes_argument}

abbrev pub refusal : Rule → Place → Refusal
refusal r p = record { rule = r; place = p }

-- one place of the source
abbrev pub same_place : Place → Place → Bool
same_place a b = a.file == b.file && a.offset == b.offset

-- the function that is declared at a place
abbrev pub function_at : List Callable → Place → Option Callable
function_at [] at = None
function_at (f ∷ fs) at = if same_place f.item.at at then Some f else function_at fs at

abbrev pub function_what : List Callable → Option What → Option Callable
function_what fs None = None
function_what fs (Some (what.Type of dims)) = None
function_what fs (Some (what.Constant path)) = None
function_what fs (Some (what.Function at)) = function_at fs at
function_what fs (Some (what.Nettype at)) = None
function_what fs (Some what.Other) = None

abbrev pub function_look : List What → List Callable → Look → Option Callable
function_look whats fs look.Unknown = None
function_look whats fs (look.One t) = function_what fs (slice_get whats t)
function_look whats fs look.Ambiguous = None

-- the function that a path means
abbrev pub function_named : UnitScopes → List Callable → Path → Option Callable
function_named s fs path = function_look s.whats fs (look_at s path)

-- a function that gives a value of this type
pub data Returns (f : Callable) (kind : Kind) : Type 0 where
  returns : (x : Kind) → f.result ≡ Some x → Equivalent (out-Kind x) (out-Kind kind) → Returns f kind

-- a function whose one argument is a dynamic array of this type (7.5)
pub data Takes (f : Callable) (kind : Kind) : Type 0 where
  takes : (x : Kind) → f.many ≡ true → f.args ≡ x ∷ [] → Equivalent (out-Kind x) (out-Kind kind) → Takes f kind

-- the rules that a function breaks as a resolver of a type
pub data Breaks (s : UnitScopes) (kind : Kind) (f : Callable) : Rule → Type 0 where
  other_result : (Returns f kind → ⊥) → Breaks s kind f rule.N2
  other_arguments : (Takes f kind → ⊥) → Breaks s kind f rule.N3
  not_automatic : f.item.automatic ≡ false → Breaks s kind f rule.N4
  not_own : f.own ≡ false → Breaks s kind f rule.N5
  writes : writes_argument s f.item ≡ true → Breaks s kind f rule.N6

-- the number of the function that a path names, where it resolves nets of a type
pub record IsResolver (s : UnitScopes) (fs : List Callable) (path : Path) (kind : Kind) (n : ℕ) : Type 0 where
  pub function : Callable
  pub named : function_named s fs path ≡ Some function
  pub returns : Returns function kind
  pub takes : Takes function kind
  pub automatic : function.item.automatic ≡ true
  pub own : function.own ≡ true
  pub keeps : writes_argument s function.item ≡ false
  pub is : n ≡ function.number

pub data ResolverFault (s : UnitScopes) (fs : List Callable) (path : Path) (kind : Kind) : Refusal → Type 0 where
  unknown : look_at s path ≡ look.Unknown → ResolverFault s fs path kind (refusal rule.T4 path.at)
  two_imports : look_at s path ≡ look.Ambiguous → ResolverFault s fs path kind (refusal rule.T9 path.at)
  no_function : (t : ℕ) → look_at s path ≡ look.One t → function_named s fs path ≡ None → ResolverFault s fs path kind (refusal rule.N1 path.at)
  breaks : (f : Callable) (r : Rule) → function_named s fs path ≡ Some f → Breaks s kind f r → ResolverFault s fs path kind (refusal r path.at)

-- functions whose types have at most 64 leaves
pub record IsWithin (f : Callable) : Type 0 where
  pub args : All (λ k. length (leaves k) ≤ 64) f.args
  pub result : (k : Kind) → f.result ≡ Some k → length (leaves k) ≤ 64

-- what the call answers
abbrev pub ResolverTells : UnitScopes → List Callable → Path → Kind → Result ℕ Failure → Type 0
ResolverTells s fs path kind (Ok n) = IsResolver s fs path kind n
ResolverTells s fs path kind (Err (failure.Refused r)) = IsLeast (ResolverFault s fs path kind) r
ResolverTells s fs path kind (Err (failure.OutOfMemory e)) = Unit {0}
