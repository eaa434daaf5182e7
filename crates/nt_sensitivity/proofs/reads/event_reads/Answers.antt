use Rattle.std.proofs.Common.{sym, ◌∙◌}
use Rattle.nt_sensitivity.proofs.Readers.{read_events}
use Rattle.nt_sensitivity.proofs.reads.event_reads.Goals as goal

pub returns : goal.returns
returns c = c.some_event.ensures ∙ sym (read_events c.args.object c.args.on.now)
