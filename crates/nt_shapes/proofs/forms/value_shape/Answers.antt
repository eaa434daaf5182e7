use Rattle.std.proofs.Common.{ap, sym, ◌∙◌}
use Rattle.std.specs.Prelude.{Some}
use Rattle.nt_value.proofs.Filled.{all_filled_test}
use Rattle.nt_value.specs.Digits.{are_filled}
use Rattle.nt_value.specs.Values.{shape_of}
use Rattle.nt_shapes.proofs.Wide.{where_true}
use Rattle.nt_shapes.proofs.forms.value_shape.Goals as goal

pub returns : goal.returns
returns c =
    ap Some c.in_ok-shape_of.ensures.shape ∙ sym (where_true (are_filled c.args.value.now) (shape_of c.args.value.now) (all_filled_test c.args.value.now c.in_ok-shape_of.ensures.filled))
