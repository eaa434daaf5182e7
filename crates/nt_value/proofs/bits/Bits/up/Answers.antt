use Rattle.std.proofs.Common.{ap, ◌∙◌, List}
use Rattle.nt_value.specs.Arithmetic.{moved_up}
use Rattle.nt_value.specs.Digits.{LeafValue}
use Rattle.nt_value.specs.Operators.{in_leaf}
use Rattle.nt_value.specs.declared.digit.Digit.{Digit}
use Rattle.nt_value.proofs.Widths.{seen_up, seen_up_all}
use Rattle.nt_value.proofs.bits.Bits.up.Goals as goal

pub returns-then-amount-self : goal.returns-then-amount-self
returns-then-amount-self c =
    c.filled.ensures
    ∙ ap (λ (ds : List Digit). in_leaf c.self.inside.leaf ds) (seen_up_all c.self.inside c.args.self c.args.amount c.self.view_is c.if-amount-self.true)
    ∙ ap (λ (x : LeafValue). in_leaf x.leaf (moved_up c.args.amount c.args.self.digits)) c.self.view_is

pub returns : goal.returns
returns c =
    c.fitted.ensures
    ∙ ap (λ (ds : List Digit). in_leaf c.self.inside.leaf ds) (seen_up c.self.inside c.args.self c.args.amount c.self.view_is c.self.invariant)
    ∙ ap (λ (x : LeafValue). in_leaf x.leaf (moved_up c.args.amount c.args.self.digits)) c.self.view_is
