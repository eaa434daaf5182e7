use Rattle.std.proofs.Common.{ap, ◌∙◌, Some}
use Rattle.nt_runs.specs.Views.{observed}
use Rattle.nt_observe.specs.Ends.{seen_before}
use Rattle.nt_observe.specs.Shown.{text_of}
use Rattle.nt_observe.proofs.Tracing.{not_begun, cut_within, gone_out}
use Rattle.nt_observe.proofs.trace.TraceEndKeptSlotEnd.slot.Goals as goal

pub returns-in-Err-clause-takes : goal.returns-in-Err-clause-takes
returns-in-Err-clause-takes g c = λ slots stands. not_begun _ _ _ _ _ slots _ stands

pub returns-in-Err-text_of-clause-takes : goal.returns-in-Err-text_of-clause-takes
returns-in-Err-text_of-clause-takes g c = λ slots stands. not_begun _ _ _ _ _ slots _ stands

pub returns-in-Ok-write_all-clause-takes : goal.returns-in-Ok-write_all-clause-takes
returns-in-Ok-write_all-clause-takes g c = λ slots stands.
    let d = c.args.self.now.design.now in
    let before = seen_before c.args.self.now.kept.before in
    gone_out _ _ _ _ _ _ _ slots c.args.seen.now _ (c.items.ensures ∙ c.in-Ok-text_of.ensures ∙ ap (λ os. text_of d os before (observed c.args.seen.now)) c.as_slice.ensures) c.in-Ok-write_all.ensures.all (ap Some c.in-Ok.ensures) stands

pub returns-in-Err-write_all-clause-takes : goal.returns-in-Err-write_all-clause-takes
returns-in-Err-write_all-clause-takes g c = λ slots stands.
    let d = c.args.self.now.design.now in
    let before = seen_before c.args.self.now.kept.before in
    cut_within _ _ _ _ _ _ slots _ _ _ (c.items.ensures ∙ c.in-Ok-text_of.ensures ∙ ap (λ os. text_of d os before (observed c.args.seen.now)) c.as_slice.ensures) c.in-Err-write_all.ensures.part stands
