use Rattle.std.proofs.Common.{ap, ◌∙◌}
use Rattle.std.specs.Prelude.{slice_get}
use Rattle.nt_value.specs.Values.{shape_of}
use Rattle.nt_value.proofs.Puts.{shape_of-put}
use Rattle.nt_value.proofs.value.Value.put.Goals as goal

pub returns-clause-shape : goal.returns-clause-shape
returns-clause-shape c =
    let leaves = c.self.inside.leaves.items in
    shape_of-put leaves c.args.at c.args.bits (ap (λ vs. slice_get (shape_of vs) c.args.at) c.self.view_is ∙ c.requires.same) ∙ ap shape_of c.self.view_is
