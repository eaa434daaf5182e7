use Rattle.std.proofs.Common.{ap, get_or, ◌∙◌, arith}
use Rattle.nt_semantics.specs.Execution.{standing_in_slot}
use Rattle.nt_state.proofs.Advancing.{one_more}
use Rattle.nt_state.proofs.moves.begin_all.Goals as goal

pub loop-at-preserved : goal.loop-at-preserved
loop-at-preserved c =
    one_more (standing_in_slot c.args.moment) c.args.standings.now c.loop-at.standings c.ready_if.new.standings c.loop-at.at c.index-as_slice-at.result c.is_later_at-ready.result
    (omega (arith, c.loop-at-test.true, c.len-at-end.ensures)) c.loop-at.invariant
    (c.index-as_slice-at.is ∙ ap (λ l. get_or l c.loop-at.at c.index-as_slice-at.result) c.as_slice.ensures)
    (c.is_later_at-ready.ensures) c.ready_if.ensures
