use Rattle.std.proofs.Common.{◌+◌, ◌++◌, take, drop, ap, ◌∙◌, List}
use Rattle.nt_value.specs.Digits.{LeafValue}
use Rattle.nt_value.specs.Operators.{in_leaf}
use Rattle.nt_value.specs.declared.digit.Digit.{Digit}
use Rattle.nt_value.proofs.Widths.{seen_put}
use Rattle.nt_value.proofs.sizes.put_part.Goals as goal

pub returns : goal.returns
returns c =
    c.fitted.ensures
    ∙ rw (c.put_word-ones.ensures, c.put_word-unknown.ensures)
    (ap (λ (ds : List Digit). in_leaf c.a.inside.leaf ds) (seen_put c.a.inside c.b.inside c.args.a c.args.b c.args.low c.a.view_is c.b.view_is c.b.invariant c.requires)
    ∙ ap (λ (x : LeafValue). in_leaf x.leaf (take c.args.low c.args.a.digits ++ (c.args.b.digits ++ drop (c.args.low + c.args.b.leaf.width) c.args.a.digits))) c.a.view_is)
