use Rattle.nt_acts.proofs.Simple.{called_args, called_is}
use Rattle.nt_acts.proofs.plain.called.Goals as goal

pub values_of-requires-clause-typed : goal.values_of-requires-clause-typed
values_of-requires-clause-typed g c = called_args c.args.function c.args.args.now c.requires.typed

pub call-requires-clause-args : goal.call-requires-clause-args
call-requires-clause-args g c =
    called_is c.args.function c.args.args.now c.requires.typed c.args.left c.in_ok-values.values c.in_ok-values.turns c.in_ok-values.ensures.0
