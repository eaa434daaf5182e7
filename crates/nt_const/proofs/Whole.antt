-- An expression that must be constant, from its draft.
use Rattle.std.proofs.Common.{◌≡◌, Option, Result, Err, refl, sym, subst}
use Rattle.nt_value.specs.Digits.{LeafValue}
use Rattle.nt_value.specs.Operators.{resize_of}
use Rattle.nt_value.specs.declared.leaf.Leaf.{Leaf}
use Rattle.nt_diag.specs.declared.refusal.Fault.{Fault as Failure}
use Rattle.nt_diag.specs.declared.refusal.Fault.TheVariants as fault
use Rattle.nt_const.specs.declared.draft.Draft.{Draft}
use Rattle.nt_const.specs.Tables.{context, target}
use Rattle.nt_const.specs.Drafts.{draft_leaf, draft_value}
use Rattle.nt_ast.specs.Places.{Node}
use Rattle.nt_const.specs.Rules.{Names, Hides}
use Rattle.nt_const.specs.Tells.{Means}
use Rattle.nt_const.specs.Walks.{Drafted, Drafts}
use Rattle.nt_const.specs.Answers.{Sizes, Evaluates}
use Rattle.nt_const.proofs.Faults.{refuse_inside}

sizes_lift : (k : Names) (x : Node) (f : Failure) → (Hides k x → ⊥) → Drafts k x (Err f) → Sizes k x (Err f)
sizes_lift k x (fault.Refused r) n h = refuse_inside x r n h
sizes_lift k x (fault.OutOfMemory e) n h = tt

pub sizes_err : (k : Names) (x : Node) (o : Result Leaf Failure) (f : Failure) → o ≡ Err f → (Hides k x → ⊥) → Drafts k x (Err f) → Sizes k x o
sizes_err k x o f e n h = subst (λ o. Sizes k x o) (sym e) (sizes_lift k x f n h)

evaluates_lift : (k : Names) (x : Node) (to : Option Leaf) (f : Failure) → (Hides k x → ⊥) → Drafts k x (Err f) → Evaluates k x to (Err f)
evaluates_lift k x to (fault.Refused r) n h = refuse_inside x r n h
evaluates_lift k x to (fault.OutOfMemory e) n h = tt

pub evaluates_err : (k : Names) (x : Node) (to : Option Leaf) (o : Result LeafValue Failure) (f : Failure) → o ≡ Err f → (Hides k x → ⊥) → Drafts k x (Err f) → Evaluates k x to o
evaluates_err k x to o f e n h = subst (λ o. Evaluates k x to o) (sym e) (evaluates_lift k x to f n h)

pub means : (k : Names) (x : Node) (to : Option Leaf) (a : Draft) → Drafted k x a → Means k x to (resize_of (draft_value a (context to (draft_leaf a))) (target to (draft_leaf a)))
means k x to a h = record { leaf = draft_leaf a; value = draft_value a (context to (draft_leaf a)); alone = h.leaf; value_within = h.value (context to (draft_leaf a)); is = refl }
