-- Which designs are well formed (IEEE 1800-2017, clauses 6, 9, 10 and 13), and which environments fit one.
use Rattle.std.specs.Prelude.{◌≡◌, ◌↔◌, ◌⊎◌, ⊤, ℕ, ◌+◌, ◌^◌, ◌==◌, ◌≤◌, ◌<◌, Bool, true, false, not, ◌&&◌, if◌then◌else◌, List, [], ◌∷◌, ◌++◌, map, filter, length, All, Contains, Option, Some, None, IsSome, slice_get, option_to_list}
use Rattle.std.specs.List.{flat_map, list_all, list_any}
use Rattle.nt_value.specs.Digits.{IsFilled}
use Rattle.nt_value.specs.Units.{IsUnit}
use Rattle.nt_value.specs.Values.{AreValuesOf, IsValueOf, shape_of}
use Rattle.nt_value.specs.declared.leaf.Leaf.{Leaf}
use Rattle.nt_design.specs.Meaning.{own_args}
use Rattle.nt_design.specs.Parts.{Value}
use Rattle.nt_design.specs.Reads.{sources_of, has_time, is_element, reads_of, trees_of, targets_of, act_reads, act_writes, act_calls, act_awaits}
use Rattle.nt_design.specs.Rules.{is_slot, is_local, is_nonblocking, is_system, is_return, controls_of, jumps_of, specials_of, act_fits}
use Rattle.nt_design.specs.Shapes.{Scope, Signature, tree_shape, target_shape, where_so}
use Rattle.nt_design.specs.declared.act.Act.{Act}
use Rattle.nt_design.specs.declared.design.Design.{Design}
use Rattle.nt_design.specs.declared.design.Scoped.{Scoped}
use Rattle.nt_design.specs.declared.function.Function.{Function}
use Rattle.nt_value.specs.declared.kind.ProcKind.{ProcKind}
use Rattle.nt_value.specs.declared.kind.ProcKind.TheVariants.{Initial, Always, Comb, Ff}
use Rattle.nt_design.specs.declared.env.Env.{Env}
use Rattle.nt_design.specs.declared.object.Net.{Net}
use Rattle.nt_design.specs.declared.object.NetKind.{NetKind}
use Rattle.nt_design.specs.declared.object.NetKind.TheVariants.{Wire, Unresolved, Resolved}
use Rattle.nt_design.specs.declared.object.Object.{Object}
use Rattle.nt_design.specs.declared.object.Object.TheVariants as object
use Rattle.nt_design.specs.declared.object.Var.{Var}
use Rattle.nt_design.specs.declared.process.Assign.{Assign}
use Rattle.nt_design.specs.declared.process.Proc.{Proc}
use Rattle.nt_design.specs.declared.target.Target.{Target}
use Rattle.nt_design.specs.declared.target.Target.TheVariants as target
use Rattle.nt_design.specs.declared.tree.Tree.{Tree}

-- ---- scopes
-- the leaves of each net and of each variable
abbrev pub net_shapes : Design → List (List Leaf)
net_shapes d = map (λ (net : Net). net.shape) d.nets

abbrev pub var_shapes : Design → List (List Leaf)
var_shapes d = map (λ (var : Var). var.shape) d.vars

-- an expression reads no object
abbrev pub reads_nothing : Tree → Bool
reads_nothing tree = length (reads_of tree) == 0

-- a function uses only its arguments, locals, name and constants, and has no system call (13.4; this project's rule)
abbrev pub is_own : Function → Bool
is_own f =
    list_all is_local (flat_map targets_of f.body)
    && (list_all reads_nothing (flat_map trees_of f.body) && list_all (λ s. not (is_system s)) (flat_map specials_of f.body))

-- what a function is to its callers: no expression or statement calls one that uses what isn't its own, or that has a
-- dynamic array as its argument
abbrev pub signature_of : Function → Option Signature
signature_of f = where_so (not f.many && is_own f) (record { args = f.args; result = f.result })

abbrev pub signatures : Design → List (Option Signature)
signatures d = map signature_of d.functions

-- what names stand for, beside these locals and this argument of a resolver
abbrev pub scope_with : Design → List (List Leaf) → Option (List Leaf) → Scope
scope_with d locals many =
    record { nets = net_shapes d; vars = var_shapes d; locals = locals; many = many; functions = signatures d }

-- what names stand for outside procedures and functions
abbrev pub design_scope : Design → Scope
design_scope d = scope_with d [] None

-- and beside these locals
abbrev pub with_locals : Scope → List (List Leaf) → Scope
with_locals scope locals =
    record { nets = scope.nets; vars = scope.vars; locals = locals; many = scope.many; functions = scope.functions }

-- the local that is a function's name; there is none without leaves
abbrev pub name_shape : List Leaf → List (List Leaf)
name_shape [] = []
name_shape (leaf ∷ leaves) = (leaf ∷ leaves) ∷ []

-- the shapes of a function's locals: the arguments, the name, and the others
abbrev pub function_locals : Function → List (List Leaf)
function_locals f = own_args f f.args ++ (name_shape f.result ++ f.locals)

-- nets or variables as far as a function may use them
abbrev pub usable_in : Function → List (List Leaf) → List (List Leaf)
usable_in f objects = if is_own f then [] else objects

-- what names stand for in a function's body
abbrev pub function_scope : Scope → Function → Scope
function_scope scope f =
    record {
      nets = usable_in f scope.nets;
      vars = usable_in f scope.vars;
      locals = function_locals f;
      many = if f.many then slice_get f.args 0 else None;
      functions = scope.functions;
    }

-- ---- what is called
abbrev pub function_calls : Function → List ℕ
function_calls f = flat_map act_calls f.body

-- the functions that a function calls
abbrev pub called_by : Option Function → List ℕ
called_by None = []
called_by (Some f) = function_calls f

-- functions of which each calls the next
abbrev pub IsChain : Design → List ℕ → Type 0
IsChain d [] = ⊤
IsChain d (f ∷ []) = ⊤
IsChain d (f ∷ g ∷ fs) = Contains (called_by (slice_get d.functions f)) g × IsChain d (g ∷ fs)

-- ---- sensitivity
abbrev pub is_written_in : Act → Object → Bool
is_written_in body (object.Net n) = false
is_written_in body (object.Var v) = list_any (λ w. w == v) (act_writes body)

-- the objects whose change may wake a procedure: for an `always_comb` what it reads and doesn't itself write
-- (9.2.2.2.1), for others what they may wait for (9.4.2, 9.4.3). That each is a whole net or variable is this project's
-- rule
abbrev pub sensitive_to : ProcKind → Act → List Object
sensitive_to Comb body = filter (λ o. not (is_written_in body o)) (act_reads body)
sensitive_to _ body = act_awaits body

-- a list has the members of another
abbrev pub Lists : List Object → List Object → Type 0
Lists objects those = (o : Object) → Contains objects o ↔ Contains those o

-- ---- nets and variables
-- a target is this slot of this net
abbrev pub IsSlotOf : ℕ → ℕ → Target → Type 0
IsSlotOf n s (target.Var v path) = ⊥
IsSlotOf n s (target.Slot net slot low width) = (net ≡ n) × (slot ≡ s)
IsSlotOf n s (target.Local i path) = ⊥

-- the assignment of this number drives this slot of this net
abbrev pub Drives : Design → ℕ → ℕ → ℕ → Type 0
Drives d a n s = (assign : Assign) × (slice_get d.assigns a ≡ Some assign) × IsSlotOf n s assign.target

-- a function resolves drivers of this shape: it has a dynamic array of such values as its argument, and its result is
-- one (6.6.7)
pub record IsResolver (shape : List Leaf) (f : Function) : Type 0 where
  pub many : f.many ≡ true
  pub argument : f.args ≡ shape ∷ []
  pub result : f.result ≡ shape

-- a function uses only what is its own
abbrev pub IsOwn : Function → Type 0
IsOwn f = is_own f ≡ true

-- what the kind of a net asks for: a built-in net has one leaf of four states (6.7.1), a nettype without a resolution
-- function has at most one driver, and one with it has a resolver (6.6.7)
abbrev pub IsKind : Design → Net → NetKind → Type 0
IsKind d net Wire = (leaf : Leaf) × (net.shape ≡ leaf ∷ []) × (leaf.four ≡ true)
IsKind d net Unresolved = length net.slots ≤ 1
IsKind d net (Resolved f) =
    (function : Function) × (slice_get d.functions f ≡ Some function) × IsResolver net.shape function × IsOwn function

-- a net: its kind, its slots, each driven by the assignment that it lists, and at most 1,024 drivers
pub record IsNet (d : Design) (n : ℕ) (net : Net) : Type 0 where
  pub kind : IsKind d net net.kind
  pub driven : (s a : ℕ) → slice_get net.slots s ≡ Some a → Drives d a n s
  pub few_drivers : length net.slots ≤ 1024

-- a variable begins with a value of its leaves
pub record IsVar (var : Var) : Type 0 where
  pub start : IsValueOf var.shape var.start

-- ---- assignments
abbrev pub IsBuiltIn : NetKind → Type 0
IsBuiltIn Wire = ⊤
IsBuiltIn Unresolved = ⊥
IsBuiltIn (Resolved f) = ⊥

-- what a continuous assignment may drive: a slot that lists it, whole where the net is of a user nettype (6.6.7), or a
-- whole variable (10.3.2; that it is whole is this project's limit)
abbrev pub IsDriven : List Net → ℕ → Target → Type 0
IsDriven nets a (target.Var v path) = path ≡ []
IsDriven nets a (target.Slot n s low width) =
    (net : Net) × (slice_get nets n ≡ Some net) × (slice_get net.slots s ≡ Some a) × (IsBuiltIn net.kind ⊎ ((low ≡ 0) × (width ≡ 0)))
IsDriven nets a (target.Local i path) = ⊥

-- a continuous assignment: what it drives, with a value of its leaves, without `$time`, and what it is sensitive to
pub record IsAssign (scope : Scope) (nets : List Net) (a : ℕ) (assign : Assign) : Type 0 where
  pub target : IsDriven nets a assign.target
  pub shape : (leaves : List Leaf) × (target_shape scope assign.target ≡ Some leaves) × (tree_shape scope assign.right ≡ Some leaves)
  pub no_time : has_time assign.right ≡ false
  pub reads : Lists assign.reads (reads_of assign.right)

-- ---- procedures
-- the timing controls that a kind of procedure may have: an `always_comb` none (9.2.2.2), an `always_ff` one event
-- control at its head and no other (9.2.2.4)
abbrev pub IsTimed : ProcKind → List Bool → Type 0
IsTimed Comb controls = controls ≡ []
IsTimed Ff controls = controls ≡ true ∷ []
IsTimed Initial controls = ⊤
IsTimed Always controls = ⊤

-- a procedure: shapes, timing, no jump out of it (12.8), no net written (6.5), and what it is sensitive to
pub record IsProc (scope : Scope) (p : Proc) : Type 0 where
  pub fits : act_fits (with_locals scope p.locals) None p.body ≡ true
  pub timed : IsTimed p.kind (controls_of p.body)
  pub no_jump : jumps_of p.body ≡ []
  pub no_net : All (λ t. is_slot t ≡ false) (targets_of p.body)
  pub reads : Lists p.reads (sensitive_to p.kind p.body)

-- ---- functions
-- a function: shapes, no timing control (13.4), no nonblocking assignment (this project's rule), no loop left from
-- outside it (12.8), no net written (6.5), no `$time`, a dynamic array as its one argument or none, and as many locals as
-- may be numbered
pub record IsFunction (scope : Scope) (f : Function) : Type 0 where
  pub fits : All (λ s. act_fits (function_scope scope f) (Some f.result) s ≡ true) f.body
  pub no_timing : flat_map controls_of f.body ≡ []
  pub no_nonblocking : All (λ s. is_nonblocking s ≡ false) (flat_map specials_of f.body)
  pub no_jump : All (λ j. is_return j ≡ true) (flat_map jumps_of f.body)
  pub no_net : All (λ t. is_slot t ≡ false) (flat_map targets_of f.body)
  pub no_time : All (λ t. has_time t ≡ false) (flat_map trees_of f.body)
  pub one_argument : f.many ≡ true → length f.args ≡ 1
  pub few_locals : length (function_locals f) ≤ 2 ^ 32

-- ---- writers
-- a procedure writes a variable
abbrev pub Writes : Design → ℕ → ℕ → Type 0
Writes d p v = (proc : Proc) × (slice_get d.procs p ≡ Some proc) × Contains (act_writes proc.body) v

-- a continuous assignment drives a variable
abbrev pub Assigns : Design → ℕ → ℕ → Type 0
Assigns d a v = (assign : Assign) × (slice_get d.assigns a ≡ Some assign) × (assign.target ≡ target.Var v [])

-- the kinds of procedures that share no variable that they write
abbrev pub IsSoleWriter : ProcKind → Type 0
IsSoleWriter Comb = ⊤
IsSoleWriter Ff = ⊤
IsSoleWriter Initial = ⊥
IsSoleWriter Always = ⊥

-- a procedure of such a kind has this number
abbrev pub IsSole : Design → ℕ → Type 0
IsSole d p = (proc : Proc) × (slice_get d.procs p ≡ Some proc) × IsSoleWriter proc.kind

-- a variable with a continuous assignment has no other writer (10.3.2), nor has one that an `always_comb` or an
-- `always_ff` writes (9.2.2.2, 9.2.2.4)
pub record AreWriters (d : Design) : Type 0 where
  pub one_assign : (a b v : ℕ) → Assigns d a v → Assigns d b v → a ≡ b
  pub no_write : (a p v : ℕ) → Assigns d a v → Writes d p v → ⊥
  pub one_writer : (p q v : ℕ) → IsSole d p → Writes d p v → Writes d q v → p ≡ q

-- ---- the design
-- the objects that the scopes name, in the order in which their names stand there. That is the order of elaboration
abbrev pub named_objects : Design → List Object
named_objects d = flat_map (λ (s : Scoped). option_to_list s.object) d.scopes

-- an object that the design has
abbrev pub IsObject : Design → Object → Type 0
IsObject d (object.Net n) = n < length d.nets
IsObject d (object.Var v) = v < length d.vars

abbrev pub IsScoped : Design → Option Object → Type 0
IsScoped d None = ⊤
IsScoped d (Some o) = IsObject d o

-- this project's limits
pub record IsSmall (d : Design) : Type 0 where
  pub nets : length d.nets ≤ 16384
  pub vars : length d.vars ≤ 16384
  pub processes : length d.procs + length d.assigns ≤ 16384
  -- no function calls itself, and none begins a chain of more than 16 calls
  pub chains : (fs : List ℕ) → IsChain d fs → length fs ≤ 17

-- a well-formed design
pub record IsDesign (d : Design) : Type 0 where
  pub nets : (n : ℕ) (net : Net) → slice_get d.nets n ≡ Some net → IsNet d n net
  pub vars : (v : ℕ) (var : Var) → slice_get d.vars v ≡ Some var → IsVar var
  pub procs : (p : ℕ) (proc : Proc) → slice_get d.procs p ≡ Some proc → IsProc (design_scope d) proc
  pub assigns : (a : ℕ) (assign : Assign) → slice_get d.assigns a ≡ Some assign → IsAssign (design_scope d) d.nets a assign
  pub functions : (f : ℕ) (function : Function) → slice_get d.functions f ≡ Some function → IsFunction (design_scope d) function
  pub writers : AreWriters d
  pub scopes : All (λ (s : Scoped). IsScoped d s.object) d.scopes
  -- each net and each variable is named
  pub named : (o : Object) → IsObject d o → Contains (named_objects d) o
  pub small : IsSmall d
  pub unit : IsUnit d.unit

-- ---- environments
-- an environment has one value of the right leaves for each net and each variable
pub record IsEnvOf (d : Design) (env : Env) : Type 0 where
  pub nets : AreValuesOf (net_shapes d) env.nets
  pub vars : AreValuesOf (var_shapes d) env.vars

-- elements of a resolver's argument: at most 1,024, all of one shape
pub record AreElements (shape : List Leaf) (many : List Value) : Type 0 where
  pub few : length many ≤ 1024
  pub same : All (IsValueOf shape) many

-- the shape of the first element
abbrev pub first_shape : List Value → List Leaf
first_shape [] = []
first_shape (v ∷ vs) = shape_of v

-- an expression takes an element of a resolver's argument only where there is one
abbrev pub HasElements : List Value → Tree → Type 0
HasElements [] tree = All (λ o. is_element o ≡ false) (sources_of tree)
HasElements (v ∷ vs) tree = ⊤

-- what names stand for in an environment of a design
abbrev pub env_scope : Design → Env → Scope
env_scope d env = scope_with d (map shape_of env.locals) (Some (first_shape env.many))

-- an expression fits a design and an environment: each of its parts has the shape that its place asks for, each value has
-- its digits, and each function that is called uses only what is its own
pub record Fits (d : Design) (env : Env) (tree : Tree) : Type 0 where
  pub objects : IsEnvOf d env
  pub many : AreElements (first_shape env.many) env.many
  pub locals : All (All IsFilled) env.locals
  pub shape : IsSome (tree_shape (env_scope d env) tree)
  pub elements : HasElements env.many tree

-- a function may be called with these values
pub record MayCall (f : Function) (args : List Value) : Type 0 where
  pub own : IsOwn f
  pub values : f.many ≡ false → AreValuesOf f.args args
  pub elements : (shape : List Leaf) → f.many ≡ true → f.args ≡ shape ∷ [] → AreElements shape args
