use Rattle.std.proofs.Common.{subst}
use Rattle.nt_semantics.specs.declared.event.Entry.{Entry}
use Rattle.nt_semantics.specs.Texts.{entry_line}
use Rattle.nt_witness.specs.Fronts.{GainsFront}
use Rattle.nt_witness.proofs.Fronting.{on_any_err, in_item}
use Rattle.nt_witness.proofs.entries.print_entries.Goals as goal

pub returns-in_err-print_event-clause-front : goal.returns-in_err-print_event-clause-front
returns-in_err-print_event-clause-front c =
    on_any_err _ _ (in_item entry_line _ c.loop-entry.out _ c.args.entries.now c.loop-entry.entry-index c.entry-item.result c.loop-entry-test.true c.loop-entry.invariant (subst (λ (entry : Entry). GainsFront c.loop-entry.out c.print_event.new.out (entry_line entry)) c.entry-item.is c.in_err-print_event.ensures.front))
