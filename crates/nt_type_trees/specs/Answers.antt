-- What the walk over a type tree answers, part by part (for the proof alone).
use Rattle.std.specs.Prelude.{◌≡◌, ℕ, ◌-◌, ◌==◌, nat_le, Bool, if◌then◌else◌, List, [], ◌∷◌, ◌++◌, Option, Some, Result, Ok, Err, slice_get}
use Rattle.nt_value.specs.declared.place.Place.{Place}
use Rattle.nt_diag.specs.declared.refusal.Refusal.{Refusal}
use Rattle.nt_diag.specs.declared.rule.Rule.TheVariants as rule
use Rattle.nt_diag.specs.Order.{NoLater, is_no_later}
use Rattle.nt_ast.specs.declared.path.Declared.{Declared}
use Rattle.nt_ast.specs.declared.expr.Expr.{Expr}
use Rattle.nt_ast.specs.declared.expr.Expr.TheViews.{out-Expr}
use Rattle.nt_ast.specs.declared.types.TypeTree.{TypeTree}
use Rattle.nt_ast.specs.declared.types.TypeTree.TheViews.{out-TypeTree}
use Rattle.nt_ast.specs.Places.{Placed}
use Rattle.nt_ast.specs.declared.types.IntWord.{IntWord}
use Rattle.nt_const.specs.Rules.{Names}
use Rattle.nt_const.specs.Tells.{refusal}
use Rattle.nt_kinds.specs.declared.kind.Kind.{Kind}
use Rattle.nt_kinds.specs.declared.kind.Kind.TheVariants as kind
use Rattle.nt_kinds.specs.Kinds.{span, IsSmall}
use Rattle.nt_type_trees.specs.Types.{TypeNode, Dim, Types, IsBound, IsDim, AreDims, arrays, ranged_kind, IsKind, IsDeclared, AreMembers}
use Rattle.nt_type_trees.specs.Faults.{BoundFault, DimFault, DimsFault, TypeFault, DeclaredFault, MembersFault}
use Rattle.nt_type_trees.specs.Tells.{InOrder, DimsInOrder}

-- a value where there is no fault, or a fault, the least where all stands in the order of the source
pub data Told {A : Type 0} (Ordered : Type 0) (Gives : A → Type 0) (Faulty : Refusal → Type 0) : Result A Refusal → Type 0 where
  gives : (a : A) → Gives a → ((r : Refusal) → Faulty r → ⊥) → Told Ordered Gives Faulty (Ok a)
  refuses : (r : Refusal) → Faulty r → (Ordered → (s : Refusal) → Faulty s → NoLater r s) → Told Ordered Gives Faulty (Err r)

-- the one of two faults that stands no later
abbrev pub first_of : Refusal → Refusal → Refusal
first_of r s = if is_no_later r s then r else s

-- both, or the first fault
abbrev pub both_of : {A B : Type 0} → Result A Refusal → Result B Refusal → Result (A × B) Refusal
both_of (Ok a) (Ok b) = Ok (a, b)
both_of (Ok a) (Err s) = Err s
both_of (Err r) (Ok b) = Err r
both_of (Err r) (Err s) = Err (first_of r s)

pub record ExprInOrder (x : Expr) : Type 0 where
  pub file : ℕ
  pub first : ℕ
  pub end : ℕ
  pub placed : Placed file first end (out-Expr x)

pub record DimInOrder (d : Dim) : Type 0 where
  pub left : ExprInOrder d.0
  pub right : (y : Expr) → d.1 ≡ Some y → ExprInOrder y

pub record MemberInOrder (m : TypeTree × Declared) : Type 0 where
  pub of : InOrder (out-TypeTree m.0)
  pub dims : DimsInOrder (m.1).dims

abbrev pub MembersInOrder : List (TypeTree × Declared) → Type 0
MembersInOrder ms = (i : ℕ) (m : TypeTree × Declared) → slice_get ms i ≡ Some m → MemberInOrder m

abbrev pub TellsBound : Names → Expr → Result ℕ Refusal → Type 0
TellsBound k x r = Told (ExprInOrder x) (IsBound k x) (BoundFault k x) r

abbrev pub TellsDim : Names → Dim → Result (ℕ × ℕ) Refusal → Type 0
TellsDim k d r = Told (DimInOrder d) (IsDim k d) (DimFault k d) r

abbrev pub TellsDims : Names → List Dim → Result (List (ℕ × ℕ)) Refusal → Type 0
TellsDims k ds r = Told (DimsInOrder ds) (AreDims k ds) (DimsFault k ds) r

abbrev pub TellsKind : Names → Types → TypeNode → Result Kind Refusal → Type 0
TellsKind k ts t r = Told (InOrder t) (IsKind k ts t) (TypeFault k ts t) r

abbrev pub TellsDeclared : Names → Types → TypeTree → List Dim → Result Kind Refusal → Type 0
TellsDeclared k ts t ds r = Told (InOrder (out-TypeTree t) × DimsInOrder ds) (IsDeclared k ts t ds) (DeclaredFault k ts t ds) r

abbrev pub TellsMembers : Names → Types → List (TypeTree × Declared) → Result (List (List ℕ × Kind)) Refusal → Type 0
TellsMembers k ts ms r = Told (MembersInOrder ms) (AreMembers k ts ms) (MembersFault k ts ms) r

-- ---- what the parts of the walk answer
abbrev pub sized : Place → Result ℕ Refusal → Result (ℕ × ℕ) Refusal
sized at (Ok n) = if n == 0 then Err (refusal rule.T3 at) else Ok (0, n - 1)
sized at (Err r) = Err r

-- some, and one more
abbrev pub extended_by : {A : Type 0} → Result (List A × A) Refusal → Result (List A) Refusal
extended_by (Ok p) = Ok (p.0 ++ p.1 ∷ [])
extended_by (Err r) = Err r

abbrev pub extended : {A : Type 0} → Result (List A) Refusal → Result A Refusal → Result (List A) Refusal
extended all one = extended_by (both_of all one)

abbrev pub with_name : List ℕ → Result Kind Refusal → Result (List ℕ × Kind) Refusal
with_name name (Ok x) = Ok (name, x)
with_name name (Err r) = Err r

abbrev pub ranged_of : Place → IntWord → Option Bool → Result (ℕ × ℕ) Refusal → Result Kind Refusal
ranged_of at word signed (Ok p) = if nat_le (span p.0 p.1) 64 then Ok (ranged_kind word signed p.0 p.1) else Err (refusal rule.T2 at)
ranged_of at word signed (Err r) = Err r

-- a type within the limits, or T7
pub data Limited (at : Place) (x : Kind) : Result Kind Refusal → Type 0 where
  small : IsSmall x → Limited at x (Ok x)
  large : (IsSmall x → ⊥) → Limited at x (Err (refusal rule.T7 at))

pub data Structure (at : Place) : Result (List (List ℕ × Kind)) Refusal → Result Kind Refusal → Type 0 where
  of_members : {xs : List (List ℕ × Kind)} {r : Result Kind Refusal} → Limited at (kind.Struct at xs) r → Structure at (Ok xs) r
  of_none : (r : Refusal) → Structure at (Err r) (Err r)

pub data Arrays (at : Place) : Result (Kind × List (ℕ × ℕ)) Refusal → Result Kind Refusal → Type 0 where
  of_both : {x : Kind} {spans : List (ℕ × ℕ)} {r : Result Kind Refusal} → Limited at (arrays spans x) r → Arrays at (Ok (x, spans)) r
  of_fault : (r : Refusal) → Arrays at (Err r) (Err r)
