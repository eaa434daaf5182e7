-- What a design has for a statement that is bound in a scope: shapes of what names mean, and of its loop variables.
use Rattle.std.specs.Prelude.{◌≡◌, ℕ, ◌+◌, ◌<◌, false, List, [], ◌∷◌, Option, Some, None, slice_get}
use Rattle.nt_value.specs.declared.leaf.Leaf.{Leaf}
use Rattle.nt_design.specs.Parts.{int_leaf}
use Rattle.nt_design.specs.Shapes.{Scope as Design, Shaped}
use Rattle.nt_kinds.specs.Kinds.{leaves}
use Rattle.nt_kinds.specs.declared.kind.Kind.{Kind}
use Rattle.nt_typing.specs.Covers.{Covers, IsKind}
use Rattle.nt_typing.specs.declared.scope.Inside.{Inside}
use Rattle.nt_typing.specs.declared.scope.Inside.TheVariants as inside
use Rattle.nt_typed_stmts.specs.Around.{Around, is_function}

-- the shape of a function's result; a procedure has none
abbrev pub result_shape : Option Kind → List Leaf
result_shape None = []
result_shape (Some k) = leaves k

abbrev pub result_in : Inside → Shaped
result_in inside.Procedure = None
result_in (inside.Function result) = Some (result_shape result)
result_in inside.Other = None

abbrev pub ResultSound : Inside → Type 0
ResultSound inside.Procedure = Unit {0}
ResultSound (inside.Function None) = Unit {0}
ResultSound (inside.Function (Some k)) = IsKind k
ResultSound inside.Other = Unit {0}

-- names mean what the design has under their numbers, so many loop variables from the next one on are `int`s, and the locals of a
-- procedure are its loop variables
pub record Serves (w : Around) (n : ℕ) (d : Design) : Type 0 where
  pub covers : Covers w.scope d
  pub result : ResultSound w.scope.inside
  pub loops : (k : ℕ) → k < n → slice_get d.locals (w.next + k) ≡ Some (int_leaf ∷ [])
  pub first : is_function w.scope.inside ≡ false → w.first ≡ 0
