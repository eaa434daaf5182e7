-- Which of several faults is the refusal: the least by phase, file, offset and rule number. The order is this project's own.
use Rattle.std.specs.Prelude.{ℕ, ◌≡◌, ◌<◌, ◌≤◌, ◌⊎◌, ◌==◌, ◌&&◌, ◌||◌, nat_lt, nat_le, Bool, if◌then◌else◌, List, length, slice_get, Option, Some, None}
use Rattle.nt_diag.specs.declared.rule.Rule.{Rule}
use Rattle.nt_diag.specs.declared.rule.Rule.TheVariants.{X1, X2, X3, X4, X5, X6, X7, S1, S2, S3, T1, T2, T3, T4, T5, T6, T7, T8, T9, T10, T11, T12, T13, T14, T15, T16, T17, T18, N1, N2, N3, N4, N5, N6, N7, P1, P2, P3, P4, P5, P6, P7, P8, M1, M2, K1, K2, K3, K4, K5, K6}
use Rattle.nt_diag.specs.declared.refusal.Refusal.{Refusal}

-- the number of a rule among those of its phases
abbrev pub rule_number : Rule → ℕ
rule_number X1 = 1
rule_number X2 = 2
rule_number X3 = 3
rule_number X4 = 4
rule_number X5 = 5
rule_number X6 = 6
rule_number X7 = 7
rule_number S1 = 8
rule_number S2 = 9
rule_number S3 = 10
rule_number T1 = 11
rule_number T2 = 12
rule_number T3 = 13
rule_number T4 = 14
rule_number T5 = 15
rule_number T6 = 16
rule_number T7 = 17
rule_number T8 = 18
rule_number T9 = 19
rule_number T10 = 20
rule_number T11 = 21
rule_number T12 = 22
rule_number T13 = 23
rule_number T14 = 24
rule_number T15 = 25
rule_number T16 = 26
rule_number T17 = 27
rule_number T18 = 28
rule_number N1 = 29
rule_number N2 = 30
rule_number N3 = 31
rule_number N4 = 32
rule_number N5 = 33
rule_number N6 = 34
rule_number N7 = 35
rule_number P1 = 36
rule_number P2 = 37
rule_number P3 = 38
rule_number P4 = 39
rule_number P5 = 40
rule_number P6 = 41
rule_number P7 = 42
rule_number P8 = 43
rule_number M1 = 44
rule_number M2 = 45
rule_number K1 = 46
rule_number K2 = 47
rule_number K3 = 48
rule_number K4 = 49
rule_number K5 = 50
rule_number K6 = 51

-- the phases of refusal, in their order
pub data Phase : Type 0 where
  -- the lengths of the files
  Lengths : Phase
  -- tokens
  Tokens : Phase
  -- syntax
  Syntax : Phase
  -- tasks, which are written out before anything else is looked at
  Tasks : Phase
  -- items of packages and of the unit
  Shared : Phase
  -- in modules that the top reaches: parameters, types, nettypes, functions, ranges and instances
  Declarations : Phase
  -- the other items of these modules
  Bodies : Phase
  -- types of joined nets
  Joins : Phase
  -- drivers of nets
  Drivers : Phase

abbrev pub phase_number : Phase → ℕ
phase_number Lengths = 1
phase_number Tokens = 2
phase_number Syntax = 3
phase_number Tasks = 4
phase_number Shared = 5
phase_number Declarations = 6
phase_number Bodies = 7
phase_number Joins = 8
phase_number Drivers = 9

-- less, or equal and then by what follows
abbrev pub LessOr : ℕ → ℕ → Type 0 → Type 0
LessOr x y rest = (x < y) ⊎ ((x ≡ y) × rest)

-- by file, then by offset, then by the rule's number: a stands no later than b
abbrev pub NoLater : Refusal → Refusal → Type 0
NoLater a b =
    LessOr a.place.file b.place.file (LessOr a.place.offset b.place.offset (rule_number a.rule ≤ rule_number b.rule))

-- the least of the faults of one phase
pub record IsLeast (Faulty : Refusal → Type 0) (r : Refusal) : Type 0 where
  pub is : Faulty r
  pub least : (s : Refusal) → Faulty s → NoLater r s

-- a fault and the phase in which it is found
pub record Found : Type 0 where
  pub phase : Phase
  pub refusal : Refusal

-- by phase first: a stands no later than b
abbrev pub FoundNoLater : Found → Found → Type 0
FoundNoLater a b = LessOr (phase_number a.phase) (phase_number b.phase) (NoLater a.refusal b.refusal)

-- the least of all faults: the refusal
pub record IsRefusal (Faulty : Found → Type 0) (f : Found) : Type 0 where
  pub is : Faulty f
  pub least : (g : Found) → Faulty g → FoundNoLater f g

-- the least of the faults, or none where there is none
abbrev pub IsLeastOf : (Refusal → Type 0) → Option Refusal → Type 0
IsLeastOf Faulty None = (r : Refusal) → Faulty r → ⊥
IsLeastOf Faulty (Some r) = IsLeast Faulty r

-- the test of NoLater
abbrev pub is_no_later : Refusal → Refusal → Bool
is_no_later a b =
    nat_lt a.place.file b.place.file
    || ((a.place.file == b.place.file)
    && (nat_lt a.place.offset b.place.offset
    || ((a.place.offset == b.place.offset) && nat_le (rule_number a.rule) (rule_number b.rule))))

-- the one of two faults that stands no later
abbrev pub earlier : Option Refusal → Option Refusal → Option Refusal
earlier None b = b
earlier (Some x) None = Some x
earlier (Some x) (Some y) = if is_no_later x y then Some x else Some y

-- a fault of one of the first n items of a list. A fault of an item may rest on its number
pub data Among {A : Type 0} (Faulty : ℕ → A → Refusal → Type 0) (n : ℕ) (xs : List A) (r : Refusal) : Type 0 where
  among : (k : ℕ) (x : A) → k < n → slice_get xs k ≡ Some x → Faulty k x r → Among Faulty n xs r

-- a fault of one of the items of a list
abbrev pub AmongAll : {A : Type 0} (Faulty : ℕ → A → Refusal → Type 0) → List A → Refusal → Type 0
AmongAll Faulty xs r = Among Faulty (length xs) xs r
