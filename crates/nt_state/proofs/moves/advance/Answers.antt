use Rattle.std.proofs.Common.{sym, ◌∙◌}
use Rattle.std.specs.Prelude.{None, Some}
use Rattle.nt_semantics.specs.Execution.{activate, begin_slot, move_updates}
use Rattle.nt_state.proofs.Advancing.{active_stays, by_finish, by_inactive, by_later, by_none, by_slot, by_updates, is_le, moved_to, not_le, over}
use Rattle.nt_state.proofs.moves.advance.Goals as goal

pub returns-then-is_active-clause-state : goal.returns-then-is_active-clause-state
returns-then-is_active-clause-state c = active_stays c.args.until c.args.state.now (sym c.is_active.ensures ∙ c.if-is_active.true)

pub returns-then-has_inactive-clause-state : goal.returns-then-has_inactive-clause-state
returns-then-has_inactive-clause-state c =
    c.activate.ensures ∙ moved_to c.args.until c.args.state.now (Some (activate c.args.state.now)) (sym c.is_active.ensures ∙ c.if-is_active.false) (by_inactive c.args.until c.args.state.now (sym c.has_inactive.ensures ∙ c.if-has_inactive.true))

pub returns-then-has_update-clause-state : goal.returns-then-has_update-clause-state
returns-then-has_update-clause-state c =
    c.move_updates.ensures ∙ moved_to c.args.until c.args.state.now (Some (move_updates c.args.state.now)) (sym c.is_active.ensures ∙ c.if-is_active.false) (by_updates c.args.until c.args.state.now (sym c.has_inactive.ensures ∙ c.if-has_inactive.false) (sym c.has_update.ensures ∙ c.if-has_update.true))

pub returns-then-finished-clause-state : goal.returns-then-finished-clause-state
returns-then-finished-clause-state c =
    moved_to c.args.until c.args.state.now None (sym c.is_active.ensures ∙ c.if-is_active.false) (by_finish c.args.until c.args.state.now (sym c.has_inactive.ensures ∙ c.if-has_inactive.false) (sym c.has_update.ensures ∙ c.if-has_update.false) (sym c.finished.ensures ∙ c.if-finished.true))

pub returns-then-moment-until-clause-state : goal.returns-then-moment-until-clause-state
returns-then-moment-until-clause-state c =
    moved_to c.args.until c.args.state.now None (sym c.is_active.ensures ∙ c.if-is_active.false) (by_later c.args.until c.args.state.now (sym c.has_inactive.ensures ∙ c.if-has_inactive.false) (sym c.has_update.ensures ∙ c.if-has_update.false) c.in-Some.moment (sym c.finished.ensures ∙ c.if-finished.false) (sym c.in-Some.ensures) (not_le c.in-Some.moment c.args.until c.if-moment-until.true))

pub returns-in-None-clause-state : goal.returns-in-None-clause-state
returns-in-None-clause-state c =
    moved_to c.args.until c.args.state.now None (sym c.is_active.ensures ∙ c.if-is_active.false) (by_none c.args.until c.args.state.now (sym c.has_inactive.ensures ∙ c.if-has_inactive.false) (sym c.has_update.ensures ∙ c.if-has_update.false) (sym c.finished.ensures ∙ c.if-finished.false) (sym c.in-None.ensures))

pub returns-else-moment-until-clause-state : goal.returns-else-moment-until-clause-state
returns-else-moment-until-clause-state c =
    c.begin_slot.ensures ∙ moved_to c.args.until c.args.state.now (Some (begin_slot c.in-Some.moment c.args.state.now)) (sym c.is_active.ensures ∙ c.if-is_active.false) (by_slot c.args.until c.args.state.now (sym c.has_inactive.ensures ∙ c.if-has_inactive.false) (sym c.has_update.ensures ∙ c.if-has_update.false) c.in-Some.moment (sym c.finished.ensures ∙ c.if-finished.false) (sym c.in-Some.ensures) (is_le c.in-Some.moment c.args.until c.if-moment-until.false))

pub returns-else-moment-until-clause-moved : goal.returns-else-moment-until-clause-moved
returns-else-moment-until-clause-moved c = (
  over c.args.until c.args.state.now (sym c.has_inactive.ensures ∙ c.if-has_inactive.false) (sym c.has_update.ensures ∙ c.if-has_update.false) (sym c.is_active.ensures ∙ c.if-is_active.false),
  begin_slot c.in-Some.moment c.args.state.now,
  by_slot c.args.until c.args.state.now (sym c.has_inactive.ensures ∙ c.if-has_inactive.false) (sym c.has_update.ensures ∙ c.if-has_update.false) c.in-Some.moment (sym c.finished.ensures ∙ c.if-finished.false) (sym c.in-Some.ensures) (is_le c.in-Some.moment c.args.until c.if-moment-until.false),
)
