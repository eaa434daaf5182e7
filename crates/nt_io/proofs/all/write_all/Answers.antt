use Rattle.std.proofs.Common.{rules}
use Rattle.std.proofs.lemmas.List.{take_rest}
use Rattle.nt_io.proofs.Gains.{gained_more}
use Rattle.nt_io.proofs.all.write_all.Goals as goal

pub loop-sent-preserved : goal.loop-sent-preserved
loop-sent-preserved g c = record {
  within = search rules;
  gained = gained_more _ _ _ c.loop-sent.invariant.gained (rw take_rest at c.in-Ok.ensures.adds);
}
