-- What it means that all of a text is one constant expression (IEEE 1800-2017, 11.2.1).
use Rattle.std.specs.Prelude.{◌⊎◌, ⊤, Option, Result, Ok, Err}
use Rattle.nt_value.specs.Digits.{LeafValue}
use Rattle.nt_value.specs.declared.leaf.Leaf.{Leaf}
use Rattle.nt_value.specs.declared.place.Place.{Place}
use Rattle.nt_ast.specs.Places.{Node}
use Rattle.nt_ast.specs.declared.expr.Expr.{Expr}
use Rattle.nt_ast.specs.declared.expr.Expr.TheViews.{out-Expr}
use Rattle.nt_diag.specs.Order.{NoLater}
use Rattle.nt_diag.specs.declared.refusal.Fault.{Fault}
use Rattle.nt_diag.specs.declared.refusal.Fault.TheVariants as fault
use Rattle.nt_diag.specs.declared.refusal.Refusal.{Refusal}
use Rattle.nt_diag.specs.declared.rule.Rule.{Rule}
use Rattle.nt_lexer.specs.Bytes.{Bytes}
use Rattle.nt_const.specs.Rules.{Names, Faulty}
use Rattle.nt_const.specs.Tells.{refusal, Means}
use Rattle.nt_texts.specs.Texts.{CutInto, IsExpression, ExpressionOf}

-- the least of all faults of an expression that must be constant
pub record LeastFault (k : Names) (x : Node) (r : Refusal) : Type 0 where
  pub is : Faulty k x r.rule r.place
  pub least : (s : Rule) (q : Place) → Faulty k x s q → NoLater r (refusal s q)

-- its value; or the refusal of a text that is no expression; or the least fault of the expression that it is
abbrev pub ConstantOf : Bytes → Names → Option Leaf → Result LeafValue Fault → Type 0
ConstantOf text k to (Ok v) = CutInto text (λ tokens. (x : Expr) × IsExpression tokens x × Means k (out-Expr x) to v)
ConstantOf text k to (Err (fault.Refused r)) =
    ExpressionOf text (Err (fault.Refused r)) ⊎ CutInto text (λ tokens. (x : Expr) × IsExpression tokens x × LeastFault k (out-Expr x) r)
ConstantOf text k to (Err (fault.OutOfMemory e)) = ⊤
