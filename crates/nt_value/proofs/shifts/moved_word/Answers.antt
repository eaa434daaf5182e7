use Rattle.std.proofs.Common.{arith}
use Rattle.nt_value.proofs.Widths.{moved_lt}
use Rattle.nt_value.proofs.shifts.moved_word.Goals as goal

pub extended-requires-clause-fits : goal.extended-requires-clause-fits
extended-requires-clause-fits c = moved_lt c.args.width c.args.amount c.args.word c.requires.fits (let h = c.requires.inside in omega arith)
