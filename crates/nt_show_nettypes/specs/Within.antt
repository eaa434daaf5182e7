-- A type of at most 64 leaves, if there is one: the result of a function of the cases.
use Rattle.std.specs.Prelude.{◌≡◌, ◌≤◌, length, Option, Some}
use Rattle.nt_kinds.specs.declared.kind.Kind.{Kind}
use Rattle.nt_kinds.specs.Kinds.{leaves}

abbrev pub ResultWithin : Option Kind → Type 0
ResultWithin o = (k : Kind) → o ≡ Some k → length (leaves k) ≤ 64
