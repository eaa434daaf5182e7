-- What expressions and statements read, write and call, as far as their text tells (IEEE 1800-2017, 9.2.2.2.1, 9.4.2.2
-- and clause 11).
use Rattle.std.specs.Prelude.{ℕ, Bool, true, false, List, [], ◌∷◌, ◌++◌, map, filter, Option, Some, None}
use Rattle.std.specs.List.{flat_map, list_all, list_any}
use Rattle.nt_value.specs.declared.kind.Edge.{Edge}
use Rattle.nt_design.specs.declared.object.Object.{Object}
use Rattle.nt_design.specs.declared.target.Pick.{Pick}
use Rattle.nt_design.specs.declared.target.Pick.TheVariants as pick
use Rattle.nt_design.specs.declared.target.Target.{Target}
use Rattle.nt_design.specs.declared.target.Target.TheVariants as target
use Rattle.nt_design.specs.declared.tree.Tree.{Tree}
use Rattle.nt_design.specs.declared.tree.Tree.TheOpen.{Tree-F}
use Rattle.nt_design.specs.declared.tree.Tree.TheFolds.{fold-Tree}
use Rattle.nt_design.specs.declared.act.Act.{Act}
use Rattle.nt_design.specs.declared.act.Act.TheOpen.{Act-F}
use Rattle.nt_design.specs.declared.act.Act.TheFolds.{fold-Act}

-- lists one after the other
abbrev pub joined : {A : Type 0} → List (List A) → List A
joined lists = flat_map (λ xs. xs) lists

-- ---- expressions
-- what the parts of an expression have, in order
abbrev pub tree_parts : {A : Type 0} → Tree-F (List A) → List A
tree_parts (Tree-F.Const value) = []
tree_parts (Tree-F.Read o) = []
tree_parts (Tree-F.Local i) = []
tree_parts (Tree-F.Leaves a first count) = a
tree_parts (Tree-F.Item a index low size up) = a ++ index
tree_parts (Tree-F.Element index) = index
tree_parts (Tree-F.Part a low width) = a ++ low
tree_parts (Tree-F.Unary op a) = a
tree_parts (Tree-F.Binary op a b) = a ++ b
tree_parts (Tree-F.Choose test a b) = test ++ (a ++ b)
tree_parts (Tree-F.Concat parts) = joined parts
tree_parts (Tree-F.Gather parts) = joined parts
tree_parts (Tree-F.Resize a to) = a
tree_parts (Tree-F.Call f args) = joined args
tree_parts Tree-F.Size = []
tree_parts Tree-F.Time = []

-- the objects that an expression reads
abbrev pub reads_step : Tree-F (List Object) → List Object
reads_step (Tree-F.Read o) = o ∷ []
reads_step t = tree_parts t

abbrev pub reads_of : Tree → List Object
reads_of = fold-Tree (List Object) reads_step

-- it reads only objects that pass
abbrev pub reads_only : (Object → Bool) → Tree → Bool
reads_only passes tree = list_all passes (reads_of tree)

-- the functions that an expression calls
abbrev pub calls_step : Tree-F (List ℕ) → List ℕ
calls_step (Tree-F.Call f args) = f ∷ joined args
calls_step t = tree_parts t

abbrev pub calls_of : Tree → List ℕ
calls_of = fold-Tree (List ℕ) calls_step

-- what else an expression may take from outside: the moment, and elements of a resolver's argument and their number
pub data Source : Type 0 where
  Moment : Source
  Element : Source
  Count : Source

abbrev pub sources_step : Tree-F (List Source) → List Source
sources_step (Tree-F.Element index) = Element ∷ index
sources_step Tree-F.Size = Count ∷ []
sources_step Tree-F.Time = Moment ∷ []
sources_step t = tree_parts t

abbrev pub sources_of : Tree → List Source
sources_of = fold-Tree (List Source) sources_step

abbrev pub is_moment : Source → Bool
is_moment Moment = true
is_moment Element = false
is_moment Count = false

abbrev pub is_element : Source → Bool
is_element Moment = false
is_element Element = true
is_element Count = false

-- an expression has `$time`
abbrev pub has_time : Tree → Bool
has_time tree = list_any is_moment (sources_of tree)

-- ---- targets
-- the expressions in a path
abbrev pub pick_trees : Pick → List Tree
pick_trees (pick.Leaves first count) = []
pick_trees (pick.Item index low size up) = index ∷ []
pick_trees (pick.Part low width) = low ∷ []

abbrev pub target_trees : Target → List Tree
target_trees (target.Var v path) = flat_map pick_trees path
target_trees (target.Slot net slot low width) = []
target_trees (target.Local i path) = flat_map pick_trees path

-- the variable that an assignment writes
abbrev pub written_vars : Target → List ℕ
written_vars (target.Var v path) = v ∷ []
written_vars (target.Slot net slot low width) = []
written_vars (target.Local i path) = []

-- ---- statements
-- there may be one
abbrev pub or_none : {A : Type 0} → Option (List A) → List A
or_none None = []
or_none (Some xs) = xs

-- what the statements in a statement have, in order
abbrev pub act_parts : {A : Type 0} → Act-F (List A) → List A
act_parts (Act-F.Null at) = []
act_parts (Act-F.Block items at) = joined items
act_parts (Act-F.Assign left right at) = []
act_parts (Act-F.Nonblocking left right at) = []
act_parts (Act-F.If test first second at) = first ++ or_none second
act_parts (Act-F.Case test arms other at) = flat_map (λ arm. arm.1) arms ++ or_none other
act_parts (Act-F.While test body at) = body
act_parts (Act-F.Repeat count body at) = body
act_parts (Act-F.For fresh left first test step body at) = step ++ body
act_parts (Act-F.Forever body at) = body
act_parts (Act-F.Foreach bounds i body at) = body
act_parts (Act-F.Delay amount body at) = body
act_parts (Act-F.Event any on body at) = body
act_parts (Act-F.Wait test body at) = body
act_parts (Act-F.Return value at) = []
act_parts (Act-F.Break at) = []
act_parts (Act-F.Continue at) = []
act_parts (Act-F.Call f args at) = []
act_parts (Act-F.Display text args at) = []
act_parts (Act-F.Finish at) = []

-- the expression that there may be
abbrev pub tree_or_none : Option Tree → List Tree
tree_or_none None = []
tree_or_none (Some tree) = tree ∷ []

-- the expressions of event controls
abbrev pub event_trees : List (Edge × Tree) → List Tree
event_trees on = map (λ e. e.1) on

-- a statement's own expressions, without those of the statements in it
abbrev pub own_trees : {A : Type 0} → Act-F A → List Tree
own_trees (Act-F.Null at) = []
own_trees (Act-F.Block items at) = []
own_trees (Act-F.Assign left right at) = target_trees left ++ right ∷ []
own_trees (Act-F.Nonblocking left right at) = target_trees left ++ right ∷ []
own_trees (Act-F.If test first second at) = test ∷ []
own_trees (Act-F.Case test arms other at) = test ∷ flat_map (λ arm. arm.0) arms
own_trees (Act-F.While test body at) = test ∷ []
own_trees (Act-F.Repeat count body at) = count ∷ []
own_trees (Act-F.For fresh left first test step body at) = target_trees left ++ first ∷ test ∷ []
own_trees (Act-F.Forever body at) = []
own_trees (Act-F.Foreach bounds i body at) = []
own_trees (Act-F.Delay amount body at) = amount ∷ []
own_trees (Act-F.Event any on body at) = event_trees on
own_trees (Act-F.Wait test body at) = test ∷ []
own_trees (Act-F.Return value at) = tree_or_none value
own_trees (Act-F.Break at) = []
own_trees (Act-F.Continue at) = []
own_trees (Act-F.Call f args at) = args
own_trees (Act-F.Display text args at) = args
own_trees (Act-F.Finish at) = []

-- all expressions of a statement
abbrev pub trees_step : Act-F (List Tree) → List Tree
trees_step s = own_trees s ++ act_parts s

abbrev pub trees_of : Act → List Tree
trees_of = fold-Act (List Tree) trees_step

-- the objects that a statement reads
abbrev pub act_reads : Act → List Object
act_reads act = flat_map reads_of (trees_of act)

-- all that a statement assigns to
abbrev pub targets_step : Act-F (List Target) → List Target
targets_step (Act-F.Assign left right at) = left ∷ []
targets_step (Act-F.Nonblocking left right at) = left ∷ []
targets_step (Act-F.For fresh left first test step body at) = left ∷ (step ++ body)
targets_step s = act_parts s

abbrev pub targets_of : Act → List Target
targets_of = fold-Act (List Target) targets_step

-- the variables that a statement writes
abbrev pub act_writes : Act → List ℕ
act_writes act = flat_map written_vars (targets_of act)

-- the functions that a statement calls, but for those that its expressions call
abbrev pub called_step : Act-F (List ℕ) → List ℕ
called_step (Act-F.Call f args at) = f ∷ []
called_step s = act_parts s

-- the functions that a statement calls
abbrev pub act_calls : Act → List ℕ
act_calls act = fold-Act (List ℕ) called_step act ++ flat_map calls_of (trees_of act)

-- ---- what a procedure may wait for
-- an expression of a statement: awaited, where it stands in an event control or a `wait`
pub record Use : Type 0 where
  pub awaited : Bool
  pub tree : Tree

abbrev pub used : Bool → Tree → Use
used awaited tree = record { awaited = awaited; tree = tree }

-- what a `@*` awaits: all that its statement reads (9.4.2.2; that what stands in event controls and `wait` counts too is this
-- project's rule)
abbrev pub awaited_by_any : Bool → List Use → List Use
awaited_by_any false body = []
awaited_by_any true body = map (λ u. used true u.tree) body

abbrev pub uses_step : Act-F (List Use) → List Use
uses_step (Act-F.Event any on body at) = map (used true) (event_trees on) ++ (awaited_by_any any body ++ body)
uses_step (Act-F.Wait test body at) = used true test ∷ body
uses_step s = map (used false) (own_trees s) ++ act_parts s

abbrev pub uses_of : Act → List Use
uses_of = fold-Act (List Use) uses_step

-- the objects that a statement may wait for
abbrev pub act_awaits : Act → List Object
act_awaits act = flat_map (λ u. reads_of u.tree) (filter (λ u. u.awaited) (uses_of act))
