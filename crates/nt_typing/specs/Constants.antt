-- Places where an expression must be constant (IEEE 1800-2017, 11.2.1): the rules of constant expressions over the names of a scope.
use Rattle.nt_value.specs.Digits.{LeafValue}
use Rattle.nt_value.specs.declared.place.Place.{Place}
use Rattle.nt_diag.specs.declared.rule.Rule.{Rule}
use Rattle.nt_ast.specs.Places.{Node}
use Rattle.nt_const.specs.Rules.{Own, Faulty}
use Rattle.nt_typing.specs.declared.scope.Scope.{Scope}
use Rattle.nt_typing.specs.Names.{constants}

-- the value of a constant expression by itself
abbrev pub Constant : Scope → Node → LeafValue → Type 0
Constant s x v = Own (constants s) x v

-- its faults; what isn't constant is told of the whole expression
abbrev pub Inconstant : Scope → Node → Rule → Place → Type 0
Inconstant s x r p = Faulty (constants s) x r p
