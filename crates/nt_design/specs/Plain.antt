-- The designs that the program takes today: without variables and procedures, with nets that have no resolution function
-- and are driven whole, by constants.
use Rattle.std.specs.Prelude.{◌≡◌, ℕ, [], map, length, Some, slice_get}
use Rattle.std.specs.List.{range_with_len}
use Rattle.nt_design.specs.Parts.{Value}
use Rattle.nt_design.specs.WellFormed.{named_objects}
use Rattle.nt_design.specs.declared.design.Design.{Design}
use Rattle.nt_design.specs.declared.object.Net.{Net}
use Rattle.nt_design.specs.declared.object.NetKind.TheVariants.{Unresolved}
use Rattle.nt_design.specs.declared.object.Object.TheVariants as object
use Rattle.nt_design.specs.declared.process.Assign.{Assign}
use Rattle.nt_design.specs.declared.target.Target.{Target}
use Rattle.nt_design.specs.declared.target.Target.TheVariants as target
use Rattle.nt_design.specs.declared.tree.Tree.TheVariants.{Const}

-- a target is a whole slot
abbrev pub IsWholeSlot : Target → Type 0
IsWholeSlot (target.Slot n slot low width) = (low ≡ 0) × (width ≡ 0)
IsWholeSlot (target.Var v path) = ⊥
IsWholeSlot (target.Local i path) = ⊥

-- the net of a slot
abbrev pub net_of : Target → ℕ
net_of (target.Slot n slot low width) = n
net_of (target.Var v path) = 0
net_of (target.Local i path) = 0

-- a constant that drives a whole slot
pub record IsConstantDriver (assign : Assign) : Type 0 where
  pub whole : IsWholeSlot assign.target
  pub constant : (value : Value) × (assign.right ≡ Const value)
  pub reads : assign.reads ≡ []

-- such a design; its scopes name each net once, in order
pub record IsPlain (d : Design) : Type 0 where
  pub vars : d.vars ≡ []
  pub procs : d.procs ≡ []
  pub nets : (n : ℕ) (net : Net) → slice_get d.nets n ≡ Some net → net.kind ≡ Unresolved
  pub assigns : (a : ℕ) (assign : Assign) → slice_get d.assigns a ≡ Some assign → IsConstantDriver assign
  pub named : named_objects d ≡ map (λ n. object.Net n) (range_with_len 0 (length d.nets))
