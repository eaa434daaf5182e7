use Rattle.nt_machine.proofs.Counts.{step_at_most}
use Rattle.nt_tests.proofs.machine.perform.Goals as goal

pub returns-clause-few : goal.returns-clause-few
returns-clause-few c =
    λ most few. step_at_most c.args.design.now c.args.state.now c.apply.new.state c.args.event.now most c.requires.plain_design c.requires.plain c.in_ok-apply.ensures.step few
