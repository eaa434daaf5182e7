-- Whether all in an expression is constant.
use Rattle.std.specs.Prelude.{Bool, true, false, List}
use Rattle.nt_ast.specs.declared.expr.Expr.{Expr}
use Rattle.nt_ast.specs.Places.{Node}
use Rattle.nt_const.specs.Rules.{Names, Hides, AnyHides}

abbrev pub HidesIs : Names → Bool → Node → Type 0
HidesIs k true x = Hides k x
HidesIs k false x = Hides k x → ⊥

abbrev pub AnyIs : Names → Bool → List Expr → Type 0
AnyIs k true xs = AnyHides k xs
AnyIs k false xs = AnyHides k xs → ⊥
