-- Where statements may stand, as far as their text tells (IEEE 1800-2017, clauses 9, 10, 12 and 13).
use Rattle.std.specs.Prelude.{ℕ, ◌^◌, ◌==◌, nat_le, Bool, true, false, not, ◌&&◌, List, [], ◌∷◌, ◌++◌, map, filter, is_some, Option, Some, None, slice_get, length, ℤ, pos, negsuc}
use Rattle.std.specs.List.{list_all}
use Rattle.nt_design.specs.Parts.{Value, number_in, int_leaf}
use Rattle.nt_design.specs.Reads.{act_parts, calls_of, event_trees}
use Rattle.nt_design.specs.Shapes.{Scope, Shaped, tree_shape, target_shape, call_shape, is_both, is_shape, is_leaf, signature_at}
use Rattle.nt_value.specs.declared.kind.Edge.{Edge}
use Rattle.nt_design.specs.declared.target.Target.{Target}
use Rattle.nt_design.specs.declared.target.Target.TheVariants.{Var, Slot, Local}
use Rattle.nt_design.specs.declared.tree.Tree.{Tree}
use Rattle.nt_design.specs.declared.tree.Tree.TheOpen.{Tree-F}
use Rattle.nt_design.specs.declared.tree.Tree.TheFolds.{fold-Tree}
use Rattle.nt_design.specs.declared.act.Act.{Act}
use Rattle.nt_design.specs.declared.act.Act.TheOpen.{Act-F}
use Rattle.nt_design.specs.declared.act.Act.TheFolds.{fold-Act}

-- ---- targets
abbrev pub is_slot : Target → Bool
is_slot (Var v path) = false
is_slot (Slot net slot low width) = true
is_slot (Local i path) = false

abbrev pub is_local : Target → Bool
is_local (Var v path) = false
is_local (Slot net slot low width) = false
is_local (Local i path) = true

-- ---- timing
-- the timing controls of a statement, each with whether it is an event control at the statement's head (9.4)
abbrev pub controls_step : Act-F (List Bool) → List Bool
controls_step (Act-F.Event any on body at) = true ∷ map (λ c. false) body
controls_step (Act-F.Delay amount body at) = false ∷ map (λ c. false) body
controls_step (Act-F.Wait test body at) = false ∷ map (λ c. false) body
controls_step s = map (λ c. false) (act_parts s)

abbrev pub controls_of : Act → List Bool
controls_of = fold-Act (List Bool) controls_step

-- ---- jumps
-- what a jump leaves (12.8)
pub data Jump : Type 0 where
  OfLoop : Jump
  OfFunction : Jump

abbrev pub is_return : Jump → Bool
is_return OfLoop = false
is_return OfFunction = true

-- the jumps of a statement out of it (12.8)
abbrev pub jumps_step : Act-F (List Jump) → List Jump
jumps_step (Act-F.Break at) = OfLoop ∷ []
jumps_step (Act-F.Continue at) = OfLoop ∷ []
jumps_step (Act-F.Return value at) = OfFunction ∷ []
jumps_step (Act-F.While test body at) = filter is_return body
jumps_step (Act-F.Repeat count body at) = filter is_return body
jumps_step (Act-F.For fresh left first test step body at) = filter is_return (step ++ body)
jumps_step (Act-F.Forever body at) = filter is_return body
jumps_step (Act-F.Foreach bounds i body at) = filter is_return body
jumps_step s = act_parts s

abbrev pub jumps_of : Act → List Jump
jumps_of = fold-Act (List Jump) jumps_step

-- ---- statements that not every place has
pub data Special : Type 0 where
  NonblockingAssignment : Special
  SystemCall : Special

abbrev pub is_nonblocking : Special → Bool
is_nonblocking NonblockingAssignment = true
is_nonblocking SystemCall = false

abbrev pub is_system : Special → Bool
is_system NonblockingAssignment = false
is_system SystemCall = true

-- the nonblocking assignments and the system calls of a statement
abbrev pub specials_step : Act-F (List Special) → List Special
specials_step (Act-F.Nonblocking left right at) = NonblockingAssignment ∷ []
specials_step (Act-F.Display text args at) = SystemCall ∷ []
specials_step (Act-F.Finish at) = SystemCall ∷ []
specials_step s = act_parts s

abbrev pub specials_of : Act → List Special
specials_of = fold-Act (List Special) specials_step

-- ---- shapes
-- the constant that an expression is
abbrev pub constant_step : Tree-F (Option Value) → Option Value
constant_step (Tree-F.Const value) = Some value
constant_step _ = None

abbrev pub constant_of : Tree → Option Value
constant_of = fold-Tree (Option Value) constant_step

-- a number is one that a delay may be: at most 2^48, this project's limit
abbrev pub is_delay_number : Option ℤ → Bool
is_delay_number None = false
is_delay_number (Some (pos n)) = nat_le n (2 ^ 48)
is_delay_number (Some (negsuc n)) = false

abbrev pub is_delay_value : Option Value → Bool
is_delay_value None = false
is_delay_value (Some value) = is_delay_number (number_in value)

-- a delay is a constant (9.4.1; that it is one is this project's limit)
abbrev pub is_delay : Scope → Tree → Bool
is_delay scope tree = is_leaf (tree_shape scope tree) && is_delay_value (constant_of tree)

-- an event expression is one leaf, and calls no function (9.4.2)
abbrev pub is_event : Scope → Tree → Bool
is_event scope tree = is_leaf (tree_shape scope tree) && length (calls_of tree) == 0

-- a branch that there may be
abbrev pub or_true : Option Bool → Bool
or_true None = true
or_true (Some b) = b

-- an arm of a `case`: its items are like the test (12.5)
abbrev pub arm_fits : Scope → Shaped → List Tree × Bool → Bool
arm_fits scope test arm = list_all (λ item. is_both test (tree_shape scope item)) arm.0 && arm.1

-- a `@*` lists no event expression, since it awaits what its statement reads (9.4.2.2)
abbrev pub events_fit : Scope → Bool → List (Edge × Tree) → Bool
events_fit scope true [] = true
events_fit scope true (e ∷ es) = false
events_fit scope false on = list_all (is_event scope) (event_trees on)

-- `foreach` counts over an array with bounds, or over a resolver's argument where there is one (12.7.3)
abbrev pub bounds_fit : Option (ℕ × ℕ) → Shaped → Bool
bounds_fit None many = is_some many
bounds_fit (Some bounds) many = true

-- a returned value has the leaves of the result, of which a structure without members has none; a procedure returns no
-- value (12.8, 13.4.1)
abbrev pub return_fits : Scope → Shaped → Option Tree → Bool
return_fits scope result None = true
return_fits scope None (Some value) = false
return_fits scope (Some shape) (Some value) = is_shape (tree_shape scope value) shape

-- Each part of a statement has the shape that its place asks for; those of its own statements are told. A nonblocking
-- assignment writes no loop variable, which is automatic (10.4.2).
abbrev pub fits_step : Scope → Shaped → Act-F Bool → Bool
fits_step scope result (Act-F.Null at) = true
fits_step scope result (Act-F.Block items at) = list_all (λ b. b) items
fits_step scope result (Act-F.Assign left right at) = is_both (target_shape scope left) (tree_shape scope right)
fits_step scope result (Act-F.Nonblocking left right at) =
    not (is_local left) && is_both (target_shape scope left) (tree_shape scope right)
fits_step scope result (Act-F.If test first second at) = is_leaf (tree_shape scope test) && (first && or_true second)
fits_step scope result (Act-F.Case test arms other at) =
    is_leaf (tree_shape scope test) && (list_all (arm_fits scope (tree_shape scope test)) arms && or_true other)
fits_step scope result (Act-F.While test body at) = is_leaf (tree_shape scope test) && body
fits_step scope result (Act-F.Repeat count body at) = is_leaf (tree_shape scope count) && body
fits_step scope result (Act-F.For fresh left first test step body at) =
    is_both (target_shape scope left) (tree_shape scope first) && (is_leaf (tree_shape scope test) && (step && body))
fits_step scope result (Act-F.Forever body at) = body
fits_step scope result (Act-F.Foreach bounds i body at) =
    bounds_fit bounds scope.many && (is_shape (slice_get scope.locals i) (int_leaf ∷ []) && body)
fits_step scope result (Act-F.Delay amount body at) = is_delay scope amount && body
fits_step scope result (Act-F.Event any on body at) = events_fit scope any on && body
fits_step scope result (Act-F.Wait test body at) = is_leaf (tree_shape scope test) && body
fits_step scope result (Act-F.Return value at) = return_fits scope result value
fits_step scope result (Act-F.Break at) = true
fits_step scope result (Act-F.Continue at) = true
fits_step scope result (Act-F.Call f args at) =
    is_some (call_shape (signature_at scope f) (map (tree_shape scope) args))
fits_step scope result (Act-F.Display text args at) = list_all (λ arg. is_leaf (tree_shape scope arg)) args
fits_step scope result (Act-F.Finish at) = true

-- each part of a statement has the shape that its place asks for
abbrev pub act_fits : Scope → Shaped → Act → Bool
act_fits scope result = fold-Act Bool (fits_step scope result)
