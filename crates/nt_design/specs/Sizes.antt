-- How large expressions and statements are: what gets less where an evaluation goes into a part.
use Rattle.std.specs.Prelude.{ℕ, suc, ◌+◌, List, [], ◌∷◌, map, Option, Some, None}
use Rattle.nt_design.specs.Reads.{own_trees}
use Rattle.nt_design.specs.declared.function.Function.{Function}
use Rattle.nt_design.specs.declared.tree.Tree.{Tree}
use Rattle.nt_design.specs.declared.tree.Tree.TheOpen.{Tree-F}
use Rattle.nt_design.specs.declared.tree.Tree.TheFolds.{fold-Tree}
use Rattle.nt_design.specs.declared.act.Act.{Act}
use Rattle.nt_design.specs.declared.act.Act.TheOpen.{Act-F}
use Rattle.nt_design.specs.declared.act.Act.TheFolds.{fold-Act}

-- more than the sum of some sizes, by one for each and one
abbrev pub sum_of : List ℕ → ℕ
sum_of [] = 1
sum_of (n ∷ ns) = suc (n + sum_of ns)

-- an expression's size, from those of its parts
abbrev pub tree_size_step : Tree-F ℕ → ℕ
tree_size_step (Tree-F.Leaves a first count) = suc a
tree_size_step (Tree-F.Item a index low size up) = suc (a + index)
tree_size_step (Tree-F.Element index) = suc index
tree_size_step (Tree-F.Part a low width) = suc (a + low)
tree_size_step (Tree-F.Unary op a) = suc a
tree_size_step (Tree-F.Binary op a b) = suc (a + b)
tree_size_step (Tree-F.Choose test a b) = suc (test + (a + b))
tree_size_step (Tree-F.Concat parts) = suc (sum_of parts)
tree_size_step (Tree-F.Gather parts) = suc (sum_of parts)
tree_size_step (Tree-F.Resize a to) = suc a
tree_size_step (Tree-F.Call f args) = suc (sum_of args)
tree_size_step _ = 1

unfoldable pub tree_size : Tree → ℕ
tree_size = fold-Tree ℕ tree_size_step

abbrev pub trees_size : List Tree → ℕ
trees_size trees = sum_of (map tree_size trees)

-- there may be one
abbrev pub or_zero : Option ℕ → ℕ
or_zero None = 0
or_zero (Some n) = n

-- the size of the statements in a statement
abbrev pub inner_size : Act-F ℕ → ℕ
inner_size (Act-F.Block items at) = sum_of items
inner_size (Act-F.If test first second at) = first + or_zero second
inner_size (Act-F.Case test arms other at) = sum_of (map (λ arm. arm.1) arms) + or_zero other
inner_size (Act-F.While test body at) = body
inner_size (Act-F.Repeat count body at) = body
inner_size (Act-F.For fresh left first test step body at) = step + body
inner_size (Act-F.Forever body at) = body
inner_size (Act-F.Foreach bounds i body at) = body
inner_size (Act-F.Delay amount body at) = body
inner_size (Act-F.Event any on body at) = body
inner_size (Act-F.Wait test body at) = body
inner_size _ = 0

-- a statement's size: its own expressions, those of each arm of a `case` together, and its statements
abbrev pub act_size_step : Act-F ℕ → ℕ
act_size_step s = suc (suc (trees_size (own_trees s) + inner_size s))

unfoldable pub act_size : Act → ℕ
act_size = fold-Act ℕ act_size_step

abbrev pub acts_size : List Act → ℕ
acts_size acts = sum_of (map act_size acts)

-- more than the size of any function's body
abbrev pub bodies : List Function → ℕ
bodies [] = 1
bodies (f ∷ fs) = acts_size f.body + bodies fs
