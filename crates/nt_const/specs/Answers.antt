-- What the calls on constant expressions answer.
use Rattle.std.specs.Prelude.{Option, Some, None, Result, Ok, Err}
use Rattle.nt_value.specs.Digits.{LeafValue, IsLeaf}
use Rattle.nt_value.specs.declared.leaf.Leaf.{Leaf}
use Rattle.nt_value.specs.declared.place.Place.{Place}
use Rattle.nt_diag.specs.declared.rule.Rule.{Rule}
use Rattle.nt_diag.specs.declared.refusal.Fault.{Fault as Failure}
use Rattle.nt_diag.specs.declared.refusal.Fault.TheVariants as fault
use Rattle.nt_ast.specs.Places.{Node}
use Rattle.nt_const.specs.Rules.{Names, Alone, Faulty}
use Rattle.nt_const.specs.Tells.{Means, RefusesWhole}

-- a leaf that a value may go to, or none
abbrev pub IsTarget : Option Leaf → Type 0
IsTarget None = Unit {0}
IsTarget (Some l) = IsLeaf l

abbrev pub Sizes : Names → Node → Result Leaf Failure → Type 0
Sizes k x (Ok l) = Alone k x l
Sizes k x (Err (fault.Refused r)) = RefusesWhole k x r
Sizes k x (Err (fault.OutOfMemory e)) = Unit {0}

abbrev pub Evaluates : Names → Node → Option Leaf → Result LeafValue Failure → Type 0
Evaluates k x to (Ok v) = Means k x to v
Evaluates k x to (Err (fault.Refused r)) = RefusesWhole k x r
Evaluates k x to (Err (fault.OutOfMemory e)) = Unit {0}

-- what has an answer has no fault
abbrev pub Faultless : {A : Type 0} → Names → Node → Result A Failure → Type 0
Faultless k x (Ok a) = (r : Rule) (p : Place) → Faulty k x r p → ⊥
Faultless k x (Err f) = Unit {0}
