use Rattle.std.proofs.Common.{ap, sym, ◌∙◌}
use Rattle.nt_semantics.specs.State.{MachineState, standing_at}
use Rattle.nt_semantics.specs.Step.{is_pending_at}
use Rattle.nt_semantics.specs.declared.standing.Standing.TheVariants.{Over}
use Rattle.nt_state.proofs.Lookups.{none_there}
use Rattle.nt_state.proofs.state.State.is_pending.Goals as goal

pub returns-in-None : goal.returns-in-None
returns-in-None c =
    sym (ap (is_pending_at c.args.self.now) (ap (λ (s : MachineState). standing_at s c.args.proc) (sym c.self.view_is) ∙ none_there c.self.inside.standings c.args.proc Over (sym c.in-None.ensures.value)))
