use Rattle.std.proofs.Common.{ap, sym, ◌∙◌}
use Rattle.nt_semantics.specs.Wake as wakes
use Rattle.nt_changes.proofs.Writing.{wakes_nothing}
use Rattle.nt_changes.proofs.writes.wake_if.Goals as goal

pub returns : goal.returns
returns c =
    wakes_nothing c.args.design.now c.args.object c.args.state.now ∙ ap (λ b. wakes.wake c.args.design.now c.args.object b c.args.state.now) (sym c.if-changed.false)
