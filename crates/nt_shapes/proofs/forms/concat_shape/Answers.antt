use Rattle.std.proofs.Common.{◌≡◌, sym, subst}
use Rattle.std.specs.Prelude.{IfOk}
use Rattle.nt_shapes.proofs.Wide.{concat_is}
use Rattle.nt_shapes.proofs.forms.concat_shape.Goals as goal

pub returns-else-width-gt64 : goal.returns-else-width-gt64
returns-else-width-gt64 c =
    subst (λ x. IfOk c.one_leaf.result (λ s. s ≡ x))
    (concat_is c.args.parts.now c.in-Some.width c.in-Some.four (sym c.in-Some.ensures.value) c.if-width-lt1.false c.if-width-gt64.false)
    c.one_leaf.ensures
