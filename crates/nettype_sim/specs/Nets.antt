-- The lines of the first nets of a design.
use Rattle.std.specs.Prelude.{ℕ, List, map}
use Rattle.std.specs.List.{flat_map, range_with_len}
use Rattle.nt_design.specs.declared.design.Design.{Design}
use Rattle.nt_design.specs.declared.object.Object.{Object}
use Rattle.nt_design.specs.declared.object.Object.TheVariants as object
use Rattle.nt_semantics.specs.Execution.{Observation}
use Rattle.nt_semantics.specs.Texts.{object_line}

-- the first n nets, as objects
abbrev pub first_nets : ℕ → List Object
first_nets n = map (λ k. object.Net k) (range_with_len 0 n)

-- and their lines in a slot's text
abbrev pub net_lines : Design → Observation → ℕ → List ℕ
net_lines d seen n = flat_map (object_line d seen) (first_nets n)
