-- Scopes as the code holds them.
use Rattle.std.specs.Prelude.{ℕ, Bool, min, [], Option, Some, slice_get}
use Rattle.nt_value.specs.declared.leaf.Leaf.{Leaf}
use Rattle.nt_design.specs.Shapes.{Scope, Shaped, on_leaf}
use Rattle.nt_shapes.specs.declared.names.Names.{Names}

-- a scope in which no function may be called
abbrev pub scope_in : Names → Scope
scope_in n =
    record { nets = n.nets.now; vars = n.vars.now; locals = n.locals.now; many = slice_get n.many.now 0; functions = [] }

-- the leaf of a shape that has one
abbrev pub leaf_in : Shaped → Option Leaf
leaf_in shape = on_leaf shape (λ leaf. Some leaf)

-- a leaf's width, of which all over 64 are one, and whether it has four states
abbrev pub capped : Leaf → ℕ × Bool
capped leaf = (min leaf.width 65, leaf.four)
