-- What is answered of the parts of a statement.
use Rattle.std.specs.Prelude.{◌≡◌, ℕ, false, List, [], ◌∷◌, Result, Ok, Err}
use Rattle.nt_value.specs.Digits.{IsFilled, LeafValue}
use Rattle.nt_value.specs.declared.leaf.Leaf.{Leaf}
use Rattle.nt_value.specs.declared.place.Place.{Place}
use Rattle.nt_diag.specs.declared.refusal.Fault.{Fault as Failure}
use Rattle.nt_diag.specs.declared.refusal.Fault.TheVariants as fault
use Rattle.nt_diag.specs.declared.refusal.Refusal.{Refusal}
use Rattle.nt_diag.specs.declared.rule.Rule.{Rule}
use Rattle.nt_diag.specs.Order.{NoLater}
use Rattle.nt_ast.specs.Places.{Node, Placed}
use Rattle.nt_ast.specs.declared.expr.Expr.{Expr}
use Rattle.nt_ast.specs.declared.expr.Expr.TheViews.{out-Expr}
use Rattle.nt_const.specs.Tells.{refusal}
use Rattle.nt_design.specs.Reads.{calls_of}
use Rattle.nt_design.specs.declared.target.Target.{Target}
use Rattle.nt_design.specs.declared.tree.Tree.{Tree}
use Rattle.nt_design.specs.declared.tree.Tree.TheOpen.{Tree-F}
use Rattle.nt_drafts.specs.declared.unfit.Unfit.{Unfit}
use Rattle.nt_drafts.specs.declared.unfit.Unfit.TheVariants.{Breaks, OutOfMemory}
use Rattle.nt_kinds.specs.declared.kind.Kind.{Kind}
use Rattle.nt_things.specs.Usable.{IsUsable}
use Rattle.nt_typing.specs.Constants.{Constant}
use Rattle.nt_typing.specs.Tables.{constant_tree}
use Rattle.nt_typing.specs.Typing.{Goes, Itself}
use Rattle.nt_typing.specs.declared.scope.Scope.{Scope}
use Rattle.nt_typed_stmts.specs.Lefts as lefts
use Rattle.nt_typed_stmts.specs.Lefts.{Reaches, Misled, LeftFault}
use Rattle.nt_typed_stmts.specs.Tables.{Bounds, bounds_at, IsDelay}
use Rattle.nt_typed_stmts.specs.Binds.{is_own_from}
use Rattle.nt_typed_stmts.specs.Faults.{assigned, deferred, delay, event, refused_by}
use Rattle.nt_typed_stmts.specs.Places.{RefusesAsks}
use Rattle.nt_stmt_parts.specs.declared.lefts.Left.{Left}
use Rattle.nt_stmt_parts.specs.declared.assigned.Assigned.{Assigned}
use Rattle.nt_stmt_parts.specs.Together.{Answers}

-- the target to which a tree leads, or the rule that it breaks
abbrev pub Leads : Tree-F Tree → Result Target Unfit → Type 0
Leads n (Ok to) = Reaches n to
Leads n (Err (Breaks r)) = Misled n r
Leads n (Err (OutOfMemory e)) = Unit {0}

-- the least fault of a left side
pub record RefusesLeft (s : Scope) (x : Node) (r : Refusal) : Type 0 where
  pub is : LeftFault s x r.rule r.place
  pub least : (f i j : ℕ) → Placed f i j x → (t : Rule) (q : Place) → LeftFault s x t q → NoLater r (refusal t q)

abbrev pub Lefts : Scope → Node → Result Left Failure → Type 0
Lefts s x (Ok l) = lefts.Left s x l.kind l.target
Lefts s x (Err (fault.Refused r)) = RefusesLeft s x r
Lefts s x (Err (fault.OutOfMemory e)) = Unit {0}

abbrev pub OnUsableLeft : Result Left Failure → Type 0
OnUsableLeft (Ok l) = IsUsable l.kind
OnUsableLeft (Err f) = Unit {0}

-- what is assigned, and to what
pub record IsAssigned (s : Scope) (x : Node) (y : Expr) (a : Assigned) : Type 0 where
  pub kind : Kind
  pub left : lefts.Left s x kind a.target
  pub right : Goes s (out-Expr y) kind a.right

pub record IsDeferred (s : Scope) (n : ℕ) (x : Node) (y : Expr) (a : Assigned) : Type 0 where
  pub kind : Kind
  pub left : lefts.Left s x kind a.target
  pub free : is_own_from n a.target ≡ false
  pub right : Goes s (out-Expr y) kind a.right

abbrev pub AssignedTo : Scope → Node → Expr → Result Assigned Failure → Type 0
AssignedTo s x y r = Answers (IsAssigned s x y) (assigned s x y ∷ []) r

abbrev pub DeferredTo : Scope → ℕ → Node → Expr → Result Assigned Failure → Type 0
DeferredTo s n x y r = Answers (IsDeferred s n x y) (deferred s n x y ∷ []) r

-- a delay
pub record IsDelayed (s : Scope) (x : Expr) (a : Tree) : Type 0 where
  pub value : LeafValue
  pub constant : Constant s (out-Expr x) value
  pub filled : IsFilled value
  pub small : IsDelay value
  pub tree : a ≡ constant_tree value

abbrev pub Delays : Scope → Expr → Result Tree Failure → Type 0
Delays s x r = Answers (IsDelayed s x) (delay s x ∷ []) r

-- an event expression
pub record IsEvent (s : Scope) (x : Expr) (a : Tree) : Type 0 where
  pub leaf : Leaf
  pub tree : Itself s (out-Expr x) leaf a
  pub no_calls : calls_of a ≡ []

abbrev pub EventOf : Scope → Expr → Result Tree Failure → Type 0
EventOf s x r = Answers (IsEvent s x) (event s x ∷ []) r

-- over what a `foreach` counts
abbrev pub BoundsAt : Scope → Place → List ℕ → Result Bounds Failure → Type 0
BoundsAt s at name (Ok b) = bounds_at s at name ≡ Ok b
BoundsAt s at name (Err (fault.Refused r)) = RefusesAsks (refused_by (bounds_at s at name) at) r
BoundsAt s at name (Err (fault.OutOfMemory e)) = Unit {0}
