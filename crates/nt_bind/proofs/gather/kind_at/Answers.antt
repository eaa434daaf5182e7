use Rattle.std.proofs.Common.{sym, refl}
use Rattle.std.proofs.lemmas.Option.{slice_get_past, slice_get_read}
use Rattle.nt_bind.proofs.Walking.{usable_at}
use Rattle.nt_bind.proofs.gather.kind_at.Goals as goal

pub returns-in-None : goal.returns-in-None
returns-in-None c = record { usable = tt; is = sym (slice_get_past c.args.kinds.now c.args.index c.in-None.ensures.lookup.3) }

pub returns-in-Some : goal.returns-in-Some
returns-in-Some c =
    let at = slice_get_read c.args.kinds.now _ c.args.index c.in-Some.own.now refl c.in-Some.ensures.lookup.3.0 c.in-Some.ensures.lookup.1 in
    record { usable = usable_at c.args.kinds.now c.args.index c.in-Some.own.now c.requires at; is = sym at }
