-- Worlds that an expression can't tell apart: its value is that of its operands (IEEE 1800-2017, clause 11).
use Rattle.std.specs.Prelude.{◌≡◌, ℕ, Bool, true, List}
use Rattle.nt_design.specs.Expressions.{World, Calls, object_in, value_of}
use Rattle.nt_design.specs.Parts.{Value}
use Rattle.nt_design.specs.Reads.{reads_only}
use Rattle.nt_design.specs.declared.object.Object.{Object}
use Rattle.nt_design.specs.declared.tree.Tree.{Tree}

-- two worlds have the same objects, but for those that don't pass, and all else alike
pub record Alike (passes : Object → Bool) (a b : World) : Type 0 where
  pub objects : (o : Object) → passes o ≡ true → object_in a o ≡ object_in b o
  pub time : a.time ≡ b.time
  pub many : a.many ≡ b.many
  pub element : a.element ≡ b.element

-- an expression has the same value in two worlds that are alike as far as it reads them
abbrev pub ReadsDecide : Type 0
ReadsDecide =
    (passes : Object → Bool) (calls : Calls) (a b : World) (tree : Tree) (locals : List Value) (left : ℕ) →
    Alike passes a b → reads_only passes tree ≡ true → value_of calls a tree locals left ≡ value_of calls b tree locals left
