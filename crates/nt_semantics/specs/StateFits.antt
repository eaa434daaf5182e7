-- Which states are of a design: what each step and each move keeps.
use Rattle.std.specs.Prelude.{◌≡◌, ⊤, ℕ, ◌≤◌, ◌<◌, ◌^◌, List, [], ◌∷◌, ◌++◌, length, map, All, Contains, Option, Some, None, option_to_list, slice_get}
use Rattle.nt_value.specs.Digits.{IsFilled}
use Rattle.nt_value.specs.Values.{AreValuesOf, shape_of}
use Rattle.nt_value.specs.declared.leaf.Leaf.{Leaf}
use Rattle.nt_design.specs.Parts.{Value}
use Rattle.nt_design.specs.Puts.{PutInside}
use Rattle.nt_design.specs.WellFormed.{net_shapes, var_shapes}
use Rattle.nt_design.specs.declared.act.Act.{Act, out-Act}
use Rattle.nt_design.specs.declared.act.Act.TheOpen.{Act-F}
use Rattle.nt_design.specs.declared.design.Design.{Design}
use Rattle.nt_design.specs.declared.process.Assign.{Assign}
use Rattle.nt_design.specs.declared.process.Proc.{Proc}
use Rattle.nt_design.specs.declared.target.Target.{Target}
use Rattle.nt_design.specs.declared.target.Target.TheVariants as target
use Rattle.nt_design.specs.declared.tree.Tree.{Tree}
use Rattle.nt_semantics.specs.State.{MachineState, standing_at, work_at, net_shape, var_shape}
use Rattle.nt_semantics.specs.declared.standing.Standing.{Standing}
use Rattle.nt_semantics.specs.declared.standing.Standing.TheVariants.{Unbegun, Ready, Inactive, Later, Waits, Over}
use Rattle.nt_semantics.specs.declared.work.Work.{Work}
use Rattle.nt_semantics.specs.declared.work.Work.TheVariants.{Do, Testing, Stepping, Repeating, Counting, Each, Awaiting}
use Rattle.nt_semantics.specs.Step.{copies_of}
use Rattle.nt_design.specs.declared.put.Put.{Put}
use Rattle.nt_semantics.specs.declared.event.Event.{Event}

-- ---- writes
-- a write lies inside its variable
abbrev pub PutFits : Design → Put → Type 0
PutFits d put =
    (put.var < length d.vars) × PutInside (var_shape d put.var) put.first put.low put.width put.value

-- ---- what a procedure has to do
-- the statements that stand in a statement
abbrev pub parts_of : Act-F Act → List Act
parts_of (Act-F.Block items at) = items
parts_of (Act-F.If test first second at) = first ∷ option_to_list second
parts_of (Act-F.Case test arms other at) = map (λ arm. arm.1) arms ++ option_to_list other
parts_of (Act-F.While test body at) = body ∷ []
parts_of (Act-F.Repeat count body at) = body ∷ []
parts_of (Act-F.For fresh left first test step body at) = step ∷ body ∷ []
parts_of (Act-F.Forever body at) = body ∷ []
parts_of (Act-F.Foreach bounds i body at) = body ∷ []
parts_of (Act-F.Delay amount body at) = body ∷ []
parts_of (Act-F.Event any on body at) = body ∷ []
parts_of (Act-F.Wait test body at) = body ∷ []
parts_of _ = []

-- a statement is the whole one, or stands in a part of it
pub data IsPart (whole : Act) : Act → Type 0 where
  Whole : IsPart whole whole
  Within : {a b : Act} → IsPart whole a → Contains (parts_of (out-Act a)) b → IsPart whole b

-- a statement is a loop with this test, step and body (12.7.1, 12.7.4)
abbrev pub IsLoopOf : Tree → Option Act → Act → Act-F Act → Type 0
IsLoopOf test step body (Act-F.While t b at) = (t ≡ test) × ((None ≡ step) × (b ≡ body))
IsLoopOf test step body (Act-F.For fresh left first t s b at) = (t ≡ test) × ((Some s ≡ step) × (b ≡ body))
IsLoopOf test step body _ = ⊥

-- a statement is a `foreach` with these bounds, this index and body (12.7.3)
abbrev pub IsForeachOf : ℕ × ℕ → ℕ → Act → Act-F Act → Type 0
IsForeachOf bounds i body (Act-F.Foreach given j b at) = (given ≡ Some bounds) × ((j ≡ i) × (b ≡ body))
IsForeachOf bounds i body _ = ⊥

-- What a procedure has to do is a part of its body, or what is left of a loop that is one; or the wait at the end of an
-- `always_comb`.
abbrev pub IsWorkOf : Proc → Work → Type 0
IsWorkOf proc (Do act) = IsPart proc.body act
IsWorkOf proc (Testing test step body) =
    (loop : Act) × (IsPart proc.body loop × IsLoopOf test step body (out-Act loop))
IsWorkOf proc (Stepping test step body) =
    (loop : Act) × (IsPart proc.body loop × IsLoopOf test (Some step) body (out-Act loop))
IsWorkOf proc (Repeating body) = IsPart proc.body body
IsWorkOf proc (Counting n body) = IsPart proc.body body
IsWorkOf proc (Each left bounds i body) =
    (loop : Act) × (IsPart proc.body loop × IsForeachOf bounds i body (out-Act loop))
IsWorkOf proc (Awaiting reads body) = (proc.reads ≡ reads) × (proc.body ≡ body)

-- ---- where a procedure is
-- a procedure waits at an event control, with one value kept for each of its expressions, at a `wait`, or at the end of an
-- `always_comb`
abbrev pub WaitsAt : List Value → Act-F Act → Type 0
WaitsAt kept (Act-F.Event any on body at) = length kept ≡ length on
WaitsAt kept (Act-F.Wait test body at) = kept ≡ []
WaitsAt kept _ = ⊥

abbrev pub WaitsFor : List Value → List Work → Type 0
WaitsFor kept [] = ⊥
WaitsFor kept (Do s ∷ rest) = WaitsAt kept (out-Act s)
WaitsFor kept (Awaiting reads body ∷ rest) = kept ≡ []
WaitsFor kept (_ ∷ rest) = ⊥

-- a procedure that isn't waiting has something to do
abbrev pub HasWork : List Work → Type 0
HasWork [] = ⊥
HasWork (Awaiting reads body ∷ rest) = ⊥
HasWork (_ ∷ rest) = ⊤

-- later moments are after this one, and at most 2^49, since a delay is at most 2^48 (own)
abbrev pub StandingFits : ℕ → List Work → Standing → Type 0
StandingFits moment items Unbegun = HasWork items
StandingFits moment items Ready = HasWork items
StandingFits moment items Inactive = HasWork items
StandingFits moment items (Later at) = HasWork items × ((moment < at) × (at ≤ 2 ^ 49))
StandingFits moment items (Waits kept) = WaitsFor kept items
StandingFits moment items Over = items ≡ []

-- a procedure: what it has to do is of its body, and it stands where it may with it
pub record ProcFits (s : MachineState) (p : ℕ) (proc : Proc) : Type 0 where
  pub work : All (IsWorkOf proc) (work_at s p)
  pub standing : StandingFits s.moment (work_at s p) (standing_at s p)

-- ---- the state
-- the leaves of each assignment's slot; an assignment to a variable has none
abbrev pub driver_shape : Design → Target → List Leaf
driver_shape d (target.Slot n slot low width) = net_shape d n
driver_shape d (target.Var v path) = []
driver_shape d (target.Local i path) = []

-- a state of this design: a moment up to the greatest time limit (own), values of the right shapes, an item for each in each
-- column, and procedures and updates that fit
pub record IsStateOf (d : Design) (s : MachineState) : Type 0 where
  pub moment : s.moment ≤ 2 ^ 48
  pub vars : AreValuesOf (var_shapes d) s.vars
  pub nets : AreValuesOf (net_shapes d) s.nets
  pub slots : AreValuesOf (map (λ (assign : Assign). driver_shape d assign.target) d.assigns) s.slots
  pub standings : length s.standings ≡ length d.procs
  pub work : length s.work ≡ length d.procs
  pub locals : map (map shape_of) s.locals ≡ map (λ (p : Proc). p.locals) d.procs
  pub locals_filled : All (All (All IsFilled)) s.locals
  pub fresh : length s.fresh ≡ length d.procs
  pub evaluations : length s.evaluations ≡ length d.assigns
  pub resolutions : length s.resolutions ≡ length d.nets
  pub procs : (p : ℕ) (proc : Proc) → slice_get d.procs p ≡ Some proc → ProcFits s p proc
  pub nonblocking : All (PutFits d) s.nonblocking
  pub moved : All (PutFits d) s.moved

-- no event has more copies in Active
abbrev pub AtMost : ℕ → MachineState → Type 0
AtMost most s = (event : Event) → copies_of s event ≤ most
