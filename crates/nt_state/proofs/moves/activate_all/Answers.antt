use Rattle.std.proofs.Common.{ap, get_or, ◌∙◌, arith}
use Rattle.std.specs.Prelude.{if◌then◌else◌}
use Rattle.nt_semantics.specs.Execution.{active_standing}
use Rattle.nt_semantics.specs.declared.standing.Standing.TheVariants.{Ready}
use Rattle.nt_state.proofs.Advancing.{active_is, one_more}
use Rattle.nt_state.proofs.moves.activate_all.Goals as goal

pub loop-at-preserved : goal.loop-at-preserved
loop-at-preserved c =
    one_more active_standing c.args.standings.now c.loop-at.standings c.ready_if.new.standings c.loop-at.at c.index-as_slice-at.result c.is_inactive-ready.result
    (omega (arith, c.loop-at-test.true, c.len-at-end.ensures)) c.loop-at.invariant
    (c.index-as_slice-at.is ∙ ap (λ l. get_or l c.loop-at.at c.index-as_slice-at.result) c.as_slice.ensures)
    (ap (λ b. if b then Ready else c.index-as_slice-at.result) c.is_inactive-ready.ensures ∙ active_is c.index-as_slice-at.result) c.ready_if.ensures
