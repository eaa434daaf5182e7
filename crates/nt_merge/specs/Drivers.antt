-- The drivers of joined nets: a continuous assignment to a segment drives its class (IEEE 1800-2017, 10.3, 23.3.3). A list gives each
-- segment the least one of its class, and another one each assignment the segment that it drives.
use Rattle.std.specs.Prelude.{◌≡◌, ℕ, ◌<◌, ◌≤◌, ◌==◌, Bool, false, List, length, get_or, map, Vec, Result, Ok, Err, ⊤}
use Rattle.std.specs.List.{filter, range_with_len}
use Rattle.std.specs.declared.alloc.Global.{Global}
use Rattle.nt_merge.specs.declared.drivers.DriverFault.{DriverFault}
use Rattle.nt_merge.specs.declared.drivers.DriverFault.TheVariants as fault

-- the class that an assignment drives, by its least segment
abbrev pub class_of : List ℕ → List ℕ → ℕ → ℕ
class_of least driven at = get_or least (get_or driven at 0) 0

-- the drivers of a class among the first n assignments, in order
abbrev pub drivers_within : List ℕ → List ℕ → ℕ → ℕ → List ℕ
drivers_within least driven n class = filter (λ at. class_of least driven at == class) (range_with_len 0 n)

-- the classes among the first n segments, by their least segments
abbrev pub leaders_within : List ℕ → ℕ → List ℕ
leaders_within least n = filter (λ segment. get_or least segment 0 == segment) (range_with_len 0 n)

-- each class's drivers in order, the classes by their least segments
abbrev pub drivers_by_class : List ℕ → List ℕ → List (List ℕ)
drivers_by_class least driven = map (drivers_within least driven (length driven)) (leaders_within least (length least))

-- how many drivers the class of an assignment has before it
abbrev pub earlier_drivers : List ℕ → List ℕ → ℕ → ℕ
earlier_drivers least driven at = length (drivers_within least driven at (class_of least driven at))

-- an assignment is the second driver of a net that is not resolved (6.6.7), or driver 1,025 of a net, this project's own limit
pub data IsFault (least driven : List ℕ) (resolved : List Bool) : ℕ → DriverFault → Type 0 where
  second : (at : ℕ) → at < length driven → get_or resolved (get_or driven at 0) false ≡ false → earlier_drivers least driven at ≡ 1 → IsFault least driven resolved at (fault.Second at)
  too_many : (at : ℕ) → at < length driven → earlier_drivers least driven at ≡ 1024 → IsFault least driven resolved at (fault.TooMany at)

-- the fault of the least assignment that has one
pub record FirstFault (least driven : List ℕ) (resolved : List Bool) (f : DriverFault) : Type 0 where
  pub at : ℕ
  pub is : IsFault least driven resolved at f
  pub none_before : (other : ℕ) (g : DriverFault) → other < at → IsFault least driven resolved other g → ⊥

abbrev pub NoFault : List ℕ → List ℕ → List Bool → Type 0
NoFault least driven resolved = (at : ℕ) (f : DriverFault) → IsFault least driven resolved at f → ⊥

-- the first fault; want of memory may be told at any time
abbrev pub FaultOf : List ℕ → List ℕ → List Bool → DriverFault → Type 0
FaultOf least driven resolved (fault.Second at) = FirstFault least driven resolved (fault.Second at)
FaultOf least driven resolved (fault.TooMany at) = FirstFault least driven resolved (fault.TooMany at)
FaultOf least driven resolved (fault.OutOfMemory e) = ⊤

-- the drivers of each class where no assignment has a fault
abbrev pub DriversOf : List ℕ → List ℕ → List Bool → Result (Vec (Vec ℕ Global) Global) DriverFault → Type 0
DriversOf least driven resolved (Ok lists) = (map (λ l. l.items) lists.items ≡ drivers_by_class least driven) × NoFault least driven resolved
DriversOf least driven resolved (Err f) = FaultOf least driven resolved f

-- there is one first fault
abbrev pub OneFault : Type 0
OneFault = (least driven : List ℕ) (resolved : List Bool) (f g : DriverFault) → FirstFault least driven resolved f → FirstFault least driven resolved g → f ≡ g

-- without a fault no net has more than 1,024 drivers, and one that is not resolved has one at most
abbrev pub FewDrivers : Type 0
FewDrivers = (least driven : List ℕ) (resolved : List Bool) → NoFault least driven resolved → (class : ℕ)
    → (length (drivers_within least driven (length driven) class) ≤ 1024)
    × (((at : ℕ) → at < length driven → class_of least driven at ≡ class → get_or resolved (get_or driven at 0) false ≡ false) → length (drivers_within least driven (length driven) class) ≤ 1)
