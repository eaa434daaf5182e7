use Rattle.std.proofs.Common.{sym, ◌∙◌}
use Rattle.nt_design.proofs.Shaped.{shape_back}
use Rattle.nt_shapes.proofs.values.is_of.Goals as goal

pub returns-clause-valid : goal.returns-clause-valid
returns-clause-valid c = λ same. record {
  leaves =
      sym c.in_ok-own.ensures.shape ∙ sym c.items.ensures.value
      ∙ shape_back c.items.result.now c.items-2.result.now (sym c.is_same.ensures ∙ same) ∙ c.items-2.ensures.value;
  filled = c.in_ok-own.ensures.filled;
}
