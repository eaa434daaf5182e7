use Rattle.std.proofs.Common.{ap, sym, ◌∙◌}
use Rattle.std.specs.Prelude.{replicate}
use Rattle.std.specs.List.{flat_map}
use Rattle.nt_shapes.proofs.Wide.{none_repeated, nothing}
use Rattle.nt_shapes.proofs.forms.repeated.Goals as goal

pub returns-then-is_empty : goal.returns-then-is_empty
returns-then-is_empty c =
    c.new-leaves.ensures.items ∙ (none_repeated c.args.size ∙ ap (λ e. flat_map (λ s. s) (replicate c.args.size e)) (nothing c.args.element.now (sym c.is_empty.ensures ∙ c.if-is_empty.true)))
