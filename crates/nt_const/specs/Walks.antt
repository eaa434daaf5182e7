-- What the walk that makes drafts answers.
use Rattle.std.specs.Prelude.{◌≡◌, ℕ, suc, ◌+◌, ◌-◌, ◌*◌, ◌⊎◌, ◌||◌, min, Bool, List, [], Option, Some, None, Result, Ok, Err}
use Rattle.nt_value.specs.Digits.{LeafValue}
use Rattle.nt_value.specs.Operators.{unsigned_leaf}
use Rattle.nt_value.specs.declared.leaf.Leaf.{Leaf}
use Rattle.nt_value.specs.declared.place.Place.{Place}
use Rattle.nt_diag.specs.declared.refusal.Fault.{Fault as Failure}
use Rattle.nt_diag.specs.declared.refusal.Fault.TheVariants as fault
use Rattle.nt_diag.specs.declared.refusal.Refusal.{Refusal}
use Rattle.nt_diag.specs.declared.rule.Rule.TheVariants as rule
use Rattle.nt_ast.specs.declared.expr.Expr.{Expr}
use Rattle.nt_const.specs.declared.draft.Draft.{Draft}
use Rattle.nt_const.specs.declared.walk.Several.{Several}
use Rattle.nt_const.specs.Tables.{IsKnown, Counts, IsWidth, count_of, width_of, taken, indexed_of, added, joint, times}
use Rattle.nt_const.specs.Drafts.{OfClosed, draft_leaf, draft_value, own_value}
use Rattle.nt_ast.specs.Places.{Node, place_of}
use Rattle.nt_const.specs.Rules.{Names, Alone, Parts, Within, Own, Owns, Need, known, count, Meets}
use Rattle.nt_const.specs.Tells.{refusal, Refuses, RefusesOne}

-- a draft has the leaf of the expression, and in each context its value
pub record Drafted (k : Names) (x : Node) (a : Draft) : Type 0 where
  pub leaf : Alone k x (draft_leaf a)
  pub value : (c : Leaf) → Within k x c (draft_value a c)

abbrev pub Drafts : Names → Node → Result Draft Failure → Type 0
Drafts k x (Ok a) = Drafted k x a
Drafts k x (Err (fault.Refused r)) = Refuses k x r
Drafts k x (Err (fault.OutOfMemory e)) = Unit {0}

-- a bound or count
pub record Counted (k : Names) (x : Node) (n : ℕ) : Type 0 where
  pub value : LeafValue
  pub own : Own k x value
  pub counts : Counts value
  pub is : n ≡ count_of value

-- a width, which may be below 1
pub record Measured (k : Names) (x : Node) (n : ℕ) : Type 0 where
  pub value : LeafValue
  pub own : Own k x value
  pub is_known : IsKnown value
  pub is : n ≡ width_of value

-- why an operand isn't what it must be
pub data Unfit : Need → Names → Node → Refusal → Type 0 where
  faulty : {n : Need} {k : Names} {x : Node} {r : Refusal} → Refuses k x r → Unfit n k x r
  unfit : {n : Need} {k : Names} {x : Node} {v : LeafValue} → Own k x v → (Meets n v → ⊥) → Unfit n k x (refusal rule.T3 (place_of x))

abbrev pub Misses : Need → Names → Node → Failure → Type 0
Misses n k x (fault.Refused r) = Unfit n k x r
Misses n k x (fault.OutOfMemory e) = Unit {0}

abbrev pub CountsTo : Names → Node → Result ℕ Failure → Type 0
CountsTo k x (Ok n) = Counted k x n
CountsTo k x (Err f) = Misses count k x f

abbrev pub MeasuresTo : Names → Node → Result ℕ Failure → Type 0
MeasuresTo k x (Ok n) = Measured k x n
MeasuresTo k x (Err f) = Misses known k x f

-- several operands: of the sum of the widths only what is over 64 counts
pub record Summed (k : Names) (xs : List Expr) (s : Several) : Type 0 where
  pub width : ℕ
  pub parts : Parts k xs width s.four
  pub capped : s.width ≡ min width 65
  pub values : List LeafValue
  pub owns : Owns k xs values
  pub joint_is : s.value ≡ joint values

abbrev pub Severals : Names → List Expr → Result Several Failure → Type 0
Severals k xs (Ok s) = Summed k xs s
Severals k xs (Err (fault.Refused r)) = RefusesOne k [] xs r
Severals k xs (Err (fault.OutOfMemory e)) = Unit {0}

-- several and one more
abbrev pub grown : Several → Leaf → LeafValue → Several
grown s l v = record { width = min (l.width + s.width) 65; four = l.four || s.four; value = added s.value v }

abbrev pub IsWidthed : ℕ → Bool → Option Leaf → Type 0
IsWidthed n four (Some l) = IsWidth n × (l ≡ unsigned_leaf n four)
IsWidthed n four None = IsWidth n → ⊥

-- a closed draft of a width, or a width below 1 or over 64
abbrev pub Gives : Place → ℕ → Bool → LeafValue → Result Draft Failure → Type 0
Gives at n four v (Ok a) = IsWidth n × (a ≡ OfClosed (unsigned_leaf n four) v)
Gives at n four v (Err (fault.Refused r)) = (IsWidth n → ⊥) × (r ≡ refusal rule.T2 at)
Gives at n four v (Err (fault.OutOfMemory e)) = ⊥

abbrev pub PartGives : Place → Draft → ℕ → ℕ → Result Draft Failure → Type 0
PartGives at a left right r =
    Gives at (suc left - right) (draft_leaf a).four (taken (own_value a) right (suc left - right)) r

abbrev pub IndexedGives : Place → Bool → Draft → Draft → ℕ → Result Draft Failure → Type 0
IndexedGives at up a base n r = Gives at n (draft_leaf a).four (indexed_of up (own_value a) (own_value base) n) r

-- there is no value, or the draft of one
abbrev pub Joined : Place → ℕ → Bool → Option LeafValue → Result Draft Failure → Type 0
Joined at n four o (Ok a) = (v : LeafValue) × (o ≡ Some v) × IsWidth n × (a ≡ OfClosed (unsigned_leaf n four) v)
Joined at n four o (Err (fault.Refused r)) = ((o ≡ None) ⊎ (IsWidth n → ⊥)) × (r ≡ refusal rule.T2 at)
Joined at n four o (Err (fault.OutOfMemory e)) = ⊥

abbrev pub Concats : Place → Several → Result Draft Failure → Type 0
Concats at s r = Joined at s.width s.four s.value r

-- a width of which what is over 64 is all one
abbrev pub IsProduct : ℕ → ℕ → ℕ → Type 0
IsProduct c width m = (n : ℕ) → width ≡ min n 65 → m ≡ min (c * n) 65

abbrev pub RepeatGives : Place → ℕ → Several → Result Draft Failure → Type 0
RepeatGives at c s (Ok a) =
    (v : LeafValue) × (w : LeafValue) × (m : ℕ) × (s.value ≡ Some v) × (times c v ≡ Some w) × IsProduct c s.width m × IsWidth m × (a ≡ OfClosed (unsigned_leaf m s.four) w)
RepeatGives at c s (Err (fault.Refused r)) =
    ((s.value ≡ None) ⊎ ((c ≡ 0) ⊎ ((m : ℕ) × IsProduct c s.width m × (IsWidth m → ⊥)))) × (r ≡ refusal rule.T2 at)
RepeatGives at c s (Err (fault.OutOfMemory e)) = ⊥
