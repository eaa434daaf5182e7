use Rattle.std.proofs.Common.{sym, refl, length}
use Rattle.std.proofs.lemmas.Bool.{ltb-true}
use Rattle.std.proofs.lemmas.Option.{slice_get_read}
use Rattle.nt_instances.proofs.Faulting.{past_one}
use Rattle.nt_instances.proofs.faults.past_fault.Goals as goal

pub returns : goal.returns
returns c = past_one c.args.rows.now c.in_ok-row.row.now (slice_get_read _ (length c.args.rows.now) _ _ refl (ltb-true _ _ (sym c.in_ok-row.ensures.lookup.0)) c.in_ok-row.ensures.lookup.1)
