-- The items of a pattern on their way to its tree (IEEE 1800-2017, 10.9).
use Rattle.std.specs.Prelude.{◌≡◌, ℕ, List, [], ◌∷◌, ◌++◌, Option, Some, None, Result, Ok, Err}
use Rattle.std.specs.Prelude.{option_map}
use Rattle.nt_diag.specs.declared.refusal.Fault.{Fault as Failure}
use Rattle.nt_diag.specs.declared.refusal.Fault.TheVariants as fault
use Rattle.nt_diag.specs.declared.refusal.Refusal.{Refusal}
use Rattle.nt_diag.specs.Order.{earlier}
use Rattle.nt_design.specs.declared.tree.Tree.{Tree}
use Rattle.nt_kinds.specs.declared.kind.Kind.{Kind}
use Rattle.nt_drafts.specs.declared.drafts.Draft.{Draft}
use Rattle.nt_drafts.specs.declared.drafts.Draft.TheViews.{out-Draft}
use Rattle.nt_things.specs.Usable.{IsUsable}
use Rattle.nt_forms.specs.Walks.{UsableDraft}
use Rattle.nt_bind.specs.declared.gather.Gathered.{Gathered}

-- the type of a draft, where there is one, is one that a typed tree can tell of
abbrev pub OnUsableDraft : Result Draft Failure → Type 0
OnUsableDraft (Ok d) = UsableDraft (out-Draft d)
OnUsableDraft (Err f) = Unit {0}

-- one item more, or its fault
abbrev pub Joins : Gathered → Result Tree Failure → Gathered → Type 0
Joins all (Ok a) next = next ≡ record { trees = all.trees ++ a ∷ []; least = all.least }
Joins all (Err (fault.Refused r)) next = next ≡ record { trees = all.trees; least = earlier all.least (Some r) }
Joins all (Err (fault.OutOfMemory e)) next = ⊥

-- the trees, or the least fault
abbrev pub ended_by : List Tree → Option Refusal → Result (List Tree) Failure
ended_by ts None = Ok ts
ended_by ts (Some r) = Err (fault.Refused r)

abbrev pub ended : Gathered → Result (List Tree) Failure
ended all = ended_by all.trees all.least

-- the type of a member or element
abbrev pub IsKindOf : {A : Type 0} → (A → Kind) → Option (List ℕ) × Kind → Option A → Type 0
IsKindOf now slot o = option_map now o ≡ Some slot.1

-- a type, where there is one, is one that a typed tree can tell of
abbrev pub OnUsableKind : {A : Type 0} → (A → Kind) → Option A → Type 0
OnUsableKind now None = Unit {0}
OnUsableKind now (Some k) = IsUsable (now k)
