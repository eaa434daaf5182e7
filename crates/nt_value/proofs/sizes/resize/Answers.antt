use Rattle.std.proofs.Common.{ap, ◌∙◌, List}
use Rattle.nt_value.specs.Operators.{in_leaf}
use Rattle.nt_value.specs.declared.digit.Digit.{Digit}
use Rattle.nt_value.proofs.Widths.{seen_resize}
use Rattle.nt_value.proofs.sizes.resize.Goals as goal

pub returns : goal.returns
returns c =
    c.fitted.ensures
    ∙ rw (c.extended-ones.ensures, c.extended-unknown.ensures, c.top_bit.ensures.value, c.top_bit-2.ensures.value)
    (ap (λ (ds : List Digit). in_leaf c.args.to ds) (seen_resize c.a.inside c.args.a c.args.to.width c.args.to.signed c.a.view_is c.a.invariant c.requires.1))
