-- Parts that each may have a fault, together: the least fault is told.
use Rattle.std.specs.Prelude.{Bool, true, false, if◌then◌else◌, List, Result, Ok, Err}
use Rattle.nt_value.specs.declared.place.Place.{Place}
use Rattle.nt_diag.specs.declared.refusal.Fault.{Fault as Failure}
use Rattle.nt_diag.specs.declared.refusal.Fault.TheVariants as fault
use Rattle.nt_diag.specs.declared.refusal.Refusal.{Refusal}
use Rattle.nt_diag.specs.declared.rule.Rule.{Rule}
use Rattle.nt_diag.specs.Order.{is_no_later}
use Rattle.nt_const.specs.Tells.{refusal}
use Rattle.nt_typed_stmts.specs.Faults.{Ask}
use Rattle.nt_typed_stmts.specs.Places.{RefusesAsks}

-- the one of two faults that stands no later
abbrev pub one_of : Refusal → Refusal → Refusal
one_of a b = if is_no_later a b then a else b

abbrev pub fault_of : Failure → Failure → Failure
fault_of (fault.Refused a) (fault.Refused b) = fault.Refused (one_of a b)
fault_of (fault.Refused a) (fault.OutOfMemory e) = fault.OutOfMemory e
fault_of (fault.OutOfMemory e) b = fault.OutOfMemory e

abbrev pub both_of : {A B : Type 0} → Result A Failure → Result B Failure → Result (A × B) Failure
both_of (Ok a) (Ok b) = Ok (a, b)
both_of (Ok a) (Err g) = Err g
both_of (Err f) (Ok b) = Err f
both_of (Err f) (Err g) = Err (fault_of f g)

-- a rule that is broken at a place besides
abbrev pub ruled : {A : Type 0} → Bool → Rule → Place → Result A Failure → Result A Failure
ruled false r at a = a
ruled true r at (Ok a) = Err (fault.Refused (refusal r at))
ruled true r at (Err f) = Err (fault_of (fault.Refused (refusal r at)) f)

-- what parts are that some asks tell of, or the least of what they lack
abbrev pub Answers : {A : Type 0} → (A → Type 0) → List Ask → Result A Failure → Type 0
Answers Good as' (Ok a) = Good a
Answers Good as' (Err (fault.Refused r)) = RefusesAsks as' r
Answers Good as' (Err (fault.OutOfMemory e)) = Unit {0}
