-- The state of a simulation (IEEE 1800-2017, 4.3, 4.4).
use Rattle.std.specs.Prelude.{ℕ, ◌+◌, ◌-◌, Bool, true, false, not, if◌then◌else◌, List, [], ◌∷◌, ◌++◌, length, map, replicate, get_or, slice_set}
use Rattle.std.specs.List.{range_with_len}
use Rattle.nt_value.specs.Operators.{in_leaf}
use Rattle.nt_value.specs.Values.{default_value}
use Rattle.nt_value.specs.declared.digit.Digit.TheVariants.{Z}
use Rattle.nt_value.specs.declared.leaf.Leaf.{Leaf}
use Rattle.nt_design.specs.Expressions.{World}
use Rattle.nt_design.specs.Parts.{Value}
use Rattle.nt_design.specs.declared.act.Act.{Act, out-Act}
use Rattle.nt_design.specs.declared.act.Act.TheOpen.{Act-F}
use Rattle.nt_design.specs.declared.act.Act.TheFolds.{fold-Act}
use Rattle.nt_design.specs.declared.design.Design.{Design}
use Rattle.nt_value.specs.declared.kind.ProcKind.{ProcKind}
use Rattle.nt_value.specs.declared.kind.ProcKind.TheVariants.{Initial, Always, Comb, Ff}
use Rattle.nt_design.specs.declared.object.Net.{Net}
use Rattle.nt_design.specs.declared.object.NetKind.{NetKind}
use Rattle.nt_design.specs.declared.object.NetKind.TheVariants.{Wire, Unresolved, Resolved}
use Rattle.nt_design.specs.declared.object.Var.{Var}
use Rattle.nt_design.specs.declared.process.Assign.{Assign}
use Rattle.nt_design.specs.declared.process.Proc.{Proc}
use Rattle.nt_design.specs.declared.target.Target.{Target}
use Rattle.nt_design.specs.declared.target.Target.TheVariants as target
use Rattle.nt_design.specs.declared.put.Put.{Put}
use Rattle.nt_semantics.specs.declared.standing.Standing.{Standing}
use Rattle.nt_semantics.specs.declared.standing.Standing.TheVariants.{Unbegun, Ready, Waits, Over}
use Rattle.nt_semantics.specs.declared.work.Work.{Work}
use Rattle.nt_semantics.specs.declared.work.Work.TheVariants.{Do, Repeating, Awaiting}

-- ---- what a procedure has to do
-- what the statements of a block have, each with the statement itself
abbrev pub one_by_one : List (Act → List Work) → List Act → List Work
one_by_one [] acts = []
one_by_one (items ∷ itemss) [] = []
one_by_one (items ∷ itemss) (act ∷ acts) = items act ++ one_by_one itemss acts

-- the statements that a block has
abbrev pub in_block : Act-F Act → List Act
in_block (Act-F.Block acts at) = acts
in_block _ = []

-- a nonempty block is its statements; an empty one is a null statement (9.3.1)
abbrev pub unfolded : Act-F (Act → List Work) → Act → List Work
unfolded (Act-F.Block (items ∷ itemss) at) act = one_by_one (items ∷ itemss) (in_block (out-Act act))
unfolded _ act = Do act ∷ []

-- a statement as what is to do: blocks unfold without an event
unfoldable pub to_do : Act → List Work
to_do act = fold-Act (Act → List Work) unfolded act act

-- ---- where a procedure is
-- where a procedure is that goes on with this
abbrev pub going_on : List Work → Standing
going_on [] = Over
going_on (Awaiting reads body ∷ items) = Waits []
going_on (_ ∷ items) = Ready

-- ---- the state
-- Procedures, assignments, nets and variables are numbered as in the design, and each column has an item for each. A slot
-- holds the value of one driver and has the number of the assignment that drives it.
pub record MachineState : Type 0 where
  -- the moment, and the values
  pub moment : ℕ
  pub vars : List Value
  pub nets : List Value
  pub slots : List Value
  -- of each procedure: where it is, what it has to do, its loop variables, and whether it has still to do its first step
  -- before an `always_comb` may begin
  pub standings : List Standing
  pub work : List (List Work)
  pub locals : List (List Value)
  pub fresh : List Bool
  -- how many evaluations of each assignment and how many resolutions of each net are in Active
  pub evaluations : List ℕ
  pub resolutions : List ℕ
  -- the updates in the NBA region, and those of them that were moved to Active, each in order
  pub nonblocking : List Put
  pub moved : List Put
  -- the lines displayed in this slot, each with its procedure, and whether `$finish` was met
  pub shown : List (ℕ × List ℕ)
  pub finished : Bool

-- ---- look-ups
abbrev pub count_at : List ℕ → ℕ → ℕ
count_at counts i = get_or counts i 0

abbrev pub value_at : List Value → ℕ → Value
value_at values i = get_or values i []

abbrev pub standing_at : MachineState → ℕ → Standing
standing_at s p = get_or s.standings p Over

abbrev pub work_at : MachineState → ℕ → List Work
work_at s p = get_or s.work p []

abbrev pub locals_at : MachineState → ℕ → List Value
locals_at s p = get_or s.locals p []

abbrev pub net_shape : Design → ℕ → List Leaf
net_shape d n = get_or (map (λ (net : Net). net.shape) d.nets) n []

abbrev pub var_shape : Design → ℕ → List Leaf
var_shape d v = get_or (map (λ (var : Var). var.shape) d.vars) v []

-- one more, or some fewer, at a place
abbrev pub more : List ℕ → ℕ → List ℕ
more counts i = slice_set counts i (count_at counts i + 1)

abbrev pub fewer : ℕ → List ℕ → ℕ → List ℕ
fewer some counts i = slice_set counts i (count_at counts i - some)

-- what an item of a column is at each number below n
abbrev pub each_below : {A : Type 0} → ℕ → (ℕ → A) → List A
each_below n at = map at (range_with_len 0 n)

-- what expressions read in a state
abbrev pub world_of_state : MachineState → World
world_of_state s = record { time = s.moment; nets = s.nets; vars = s.vars; many = []; element = [] }

-- ---- the start
-- z in each digit
abbrev pub z_value : List Leaf → Value
z_value shape = map (λ leaf. in_leaf leaf (replicate leaf.width Z)) shape

-- the value of a net before any event: z for a built-in net (6.6.1), the default of its data type for others (6.7.3)
abbrev pub net_start : NetKind → List Leaf → Value
net_start Wire shape = z_value shape
net_start Unresolved shape = default_value shape
net_start (Resolved f) shape = default_value shape

abbrev pub start_nets : Design → List Value
start_nets d = map (λ (net : Net). net_start net.kind net.shape) d.nets

-- a slot begins as its net does; an assignment to a variable has no slot, and no leaves stand in its place
abbrev pub slot_start : Design → Target → Value
slot_start d (target.Slot n slot low width) = value_at (start_nets d) n
slot_start d (target.Var v path) = []
slot_start d (target.Local i path) = []

abbrev pub is_comb : ProcKind → Bool
is_comb Comb = true
is_comb Initial = false
is_comb Always = false
is_comb Ff = false

-- `always s` is `forever s` (9.2.2.1), and an `always_comb` waits after its body (9.2.2.2)
abbrev pub start_work : ProcKind → Proc → List Work
start_work Initial p = to_do p.body
start_work Always p = Repeating p.body ∷ []
start_work Ff p = Repeating p.body ∷ []
start_work Comb p = to_do p.body ++ Awaiting p.reads p.body ∷ []

-- Before any event each variable has its start value (6.8, 10.5). At the start each procedure but an `always_comb` is
-- ready (9.2), each assignment is to be evaluated once (10.3) and each net resolved once (6.6.7).
abbrev pub start_state : Design → MachineState
start_state d = record {
  moment = 0;
  vars = map (λ (var : Var). var.start) d.vars;
  nets = start_nets d;
  slots = map (λ (assign : Assign). slot_start d assign.target) d.assigns;
  standings = map (λ (p : Proc). if is_comb p.kind then Unbegun else Ready) d.procs;
  work = map (λ (p : Proc). start_work p.kind p) d.procs;
  locals = map (λ (p : Proc). map default_value p.locals) d.procs;
  fresh = map (λ (p : Proc). not (is_comb p.kind)) d.procs;
  evaluations = replicate (length d.assigns) 1;
  resolutions = replicate (length d.nets) 1;
  nonblocking = [];
  moved = [];
  shown = [];
  finished = false;
}
