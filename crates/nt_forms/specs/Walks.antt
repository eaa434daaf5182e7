-- What the walk from an expression to its draft answers, part by part.
use Rattle.std.specs.Prelude.{◌≡◌, ℕ, ◌+◌, ◌++◌, ◌||◌, min, List, [], ◌∷◌, length, Some, Result, Ok, Err}
use Rattle.nt_value.specs.Digits.{LeafValue}
use Rattle.nt_value.specs.declared.leaf.Leaf.{Leaf}
use Rattle.nt_value.specs.declared.place.Place.{Place}
use Rattle.nt_diag.specs.declared.refusal.Fault.{Fault as Failure}
use Rattle.nt_diag.specs.declared.refusal.Fault.TheVariants as fault
use Rattle.nt_ast.specs.Places.{Node}
use Rattle.nt_ast.specs.declared.path.Path.{Path}
use Rattle.nt_ast.specs.declared.expr.Expr.{Expr}
use Rattle.nt_ast.specs.declared.expr.Expr.TheOpen.{Expr-F}
use Rattle.nt_const.specs.Tables.{Counts, IsKnown, count_of, width_of}
use Rattle.nt_design.specs.declared.tree.Tree.{Tree}
use Rattle.nt_kinds.specs.declared.kind.Kind.{Kind}
use Rattle.nt_typing.specs.declared.scope.Callable.{Callable}
use Rattle.nt_typing.specs.declared.scope.Scope.{Scope}
use Rattle.nt_typing.specs.declared.thing.Thing.{Thing}
use Rattle.nt_typing.specs.Names.{meaning_of}
use Rattle.nt_typing.specs.Constants.{Constant}
use Rattle.nt_const.specs.Tells.{refusal}
use Rattle.nt_typing.specs.Tables.{called, member_place}
use Rattle.nt_drafts.specs.declared.unfit.Unfit.{Unfit}
use Rattle.nt_drafts.specs.declared.unfit.Unfit.TheVariants.{Breaks, OutOfMemory}
use Rattle.nt_typing.specs.Typing.{Stands, Itself, Several as Parts, Goes, AllGo}
use Rattle.nt_typing.specs.Faults.{Need, leaf, base, known, count, all_leaf, all_go}
use Rattle.nt_typing.specs.Places.{Refuses, RefusesOne, RefusesOperand, RefusesTo, RefusesSome}
use Rattle.nt_drafts.specs.Drafts.{DraftOf, draft_leaf}
use Rattle.nt_drafts.specs.declared.drafts.Draft.{Draft}
use Rattle.nt_drafts.specs.declared.drafts.Draft.TheOpen.{Draft-F}
use Rattle.nt_drafts.specs.declared.drafts.Draft.TheViews.{out-Draft}
use Rattle.nt_things.specs.Usable.{IsUsable}
use Rattle.nt_forms.specs.declared.operands.Leafed.{Leafed}
use Rattle.nt_forms.specs.declared.operands.Selfed.{Selfed}
use Rattle.nt_forms.specs.declared.operands.Several.{Several}

-- a broken rule as a fault at a place
abbrev pub fault_at : Unfit → Place → Failure
fault_at (Breaks r) at = fault.Refused (refusal r at)
fault_at (OutOfMemory e) at = fault.OutOfMemory e

-- that of a member: what a structure lacks is told at the member's name
abbrev pub member_fault : Unfit → Place → Place → Failure
member_fault (Breaks r) at name_at = fault.Refused (refusal r (member_place r at name_at))
member_fault (OutOfMemory e) at name_at = fault.OutOfMemory e

-- a draft of the expression, or its least fault
abbrev pub Drafts : Scope → Node → Result Draft Failure → Type 0
Drafts s x (Ok d) = DraftOf s x (out-Draft d)
Drafts s x (Err (fault.Refused r)) = Refuses s x r
Drafts s x (Err (fault.OutOfMemory e)) = Unit {0}

-- an operand isn't what is asked of it
abbrev pub Lacks : Need → Scope → Node → Failure → Type 0
Lacks n s x (fault.Refused r) = RefusesOperand s n x r
Lacks n s x (fault.OutOfMemory e) = Unit {0}

-- what can be selected from
abbrev pub Bases : Scope → Node → Result Thing Failure → Type 0
Bases s x (Ok h) = Stands s x h
Bases s x (Err f) = Lacks base s x f

-- an integral operand, before its context is known and by itself
abbrev pub IsLeafed : Scope → Node → Leafed → Type 0
IsLeafed s x one = DraftOf s x (out-Draft one.draft) × (draft_leaf (out-Draft one.draft) ≡ Some one.size)

abbrev pub Leafs : Scope → Node → Result Leafed Failure → Type 0
Leafs s x (Ok one) = IsLeafed s x one
Leafs s x (Err f) = Lacks leaf s x f

abbrev pub Selves : Scope → Node → Result Selfed Failure → Type 0
Selves s x (Ok one) = Itself s x one.size one.tree
Selves s x (Err f) = Lacks leaf s x f

-- a bound or count
pub record Counted (s : Scope) (x : Node) (n : ℕ) : Type 0 where
  pub value : LeafValue
  pub constant : Constant s x value
  pub counts : Counts value
  pub is : n ≡ count_of value

abbrev pub CountsTo : Scope → Node → Result ℕ Failure → Type 0
CountsTo s x (Ok n) = Counted s x n
CountsTo s x (Err f) = Lacks count s x f

-- a width, which may be below 1
pub record Measured (s : Scope) (x : Node) (n : ℕ) : Type 0 where
  pub value : LeafValue
  pub constant : Constant s x value
  pub is_known : IsKnown value
  pub is : n ≡ width_of value

abbrev pub MeasuresTo : Scope → Node → Result ℕ Failure → Type 0
MeasuresTo s x (Ok n) = Measured s x n
MeasuresTo s x (Err f) = Lacks known s x f

-- several operands: of the sum of the widths all over 64 are one
pub record Summed (s : Scope) (xs : List Expr) (all : Several) : Type 0 where
  pub width : ℕ
  pub several : Parts s xs width all.four all.parts
  pub capped : all.width ≡ min width 65

abbrev pub Severals : Scope → List Expr → Result Several Failure → Type 0
Severals s xs (Ok all) = Summed s xs all
Severals s xs (Err (fault.Refused r)) = RefusesOne s (all_leaf xs) r
Severals s xs (Err (fault.OutOfMemory e)) = Unit {0}

-- several and one more
abbrev pub grown : Several → Leaf → Tree → Several
grown all l a = record { width = min (l.width + all.width) 65; four = all.four || l.four; parts = all.parts ++ a ∷ [] }

-- the tree of what is assigned to a type
abbrev pub Sends : Scope → Node → Kind → Result Tree Failure → Type 0
Sends s x k (Ok a) = Goes s x k a
Sends s x k (Err (fault.Refused r)) = RefusesTo s x k r
Sends s x k (Err (fault.OutOfMemory e)) = Unit {0}

-- the trees of operands in their order, and of the items of a pattern in any order
abbrev pub AllSent : Scope → List (Expr × Kind) → Result (List Tree) Failure → Type 0
AllSent s plan (Ok ts) = AllGo s plan ts
AllSent s plan (Err (fault.Refused r)) = RefusesOne s (all_go plan) r
AllSent s plan (Err (fault.OutOfMemory e)) = Unit {0}

abbrev pub SomeSent : Scope → List (Expr × Kind) → Result (List Tree) Failure → Type 0
SomeSent s plan (Ok ts) = AllGo s plan ts
SomeSent s plan (Err (fault.Refused r)) = RefusesSome s (all_go plan) r
SomeSent s plan (Err (fault.OutOfMemory e)) = Unit {0}

-- a function that may be called
abbrev pub Calls : {A : Type 0} → (A → Callable) → Scope → Place → Path → List Expr → Result A Failure → Type 0
Calls now s at path xs (Ok f) = called (meaning_of s path) (length xs) ≡ Ok (now f)
Calls now s at path xs (Err (fault.Refused r)) = Refuses s (Expr-F.Call at path xs) r
Calls now s at path xs (Err (fault.OutOfMemory e)) = Unit {0}

-- the type of a draft is one that a typed tree can tell of
abbrev pub UsableDraft : Draft-F Draft → Type 0
UsableDraft (Draft-F.Closed l k a) = IsUsable k
UsableDraft (Draft-F.Whole k a) = IsUsable k
UsableDraft (Draft-F.Many k) = IsUsable k
UsableDraft _ = Unit {0}
