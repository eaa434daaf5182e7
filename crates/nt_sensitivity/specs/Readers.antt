-- Expressions and statements that read an object, as tests.
use Rattle.std.specs.Prelude.{Bool}
use Rattle.std.specs.List.{list_any}
use Rattle.nt_design.specs.Reads.{pick_trees, reads_of, trees_of}
use Rattle.nt_design.specs.declared.act.Act.{Act}
use Rattle.nt_design.specs.declared.object.Object.{Object}
use Rattle.nt_design.specs.declared.target.Pick.{Pick}
use Rattle.nt_design.specs.declared.tree.Tree.{Tree}
use Rattle.nt_semantics.specs.Same.{is_one_of}

abbrev pub is_reader : Object → Tree → Bool
is_reader o tree = is_one_of (reads_of tree) o

-- an expression in a statement reads the object
abbrev pub act_is_reader : Object → Act → Bool
act_is_reader o act = list_any (is_reader o) (trees_of act)

-- so does one in a step of a path
abbrev pub picks_reader : Object → Pick → Bool
picks_reader o pick = list_any (is_reader o) (pick_trees pick)
