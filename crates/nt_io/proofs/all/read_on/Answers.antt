use Rattle.std.proofs.Common.{rules, arith, ◌∙◌}
use Rattle.std.proofs.lemmas.Grind.{common_steps}
use Rattle.nt_io.proofs.Fronts.{read_more}
use Rattle.nt_io.proofs.all.read_on.Goals as goal

pub loop-bytes-preserved : goal.loop-bytes-preserved
loop-bytes-preserved g c = record {
  short = grind (arith, common_steps);
  front = read_more _ _ _ c.read.new.buf _ _ _ c.in-Ok.count (c.len-in-loop-bytes-2.ensures ∙ c.loop-bytes.bytes.ok.0) (c.loop-bytes.invariant.same _) c.in-Ok.ensures.within c.loop-bytes.invariant.front c.in-Ok.ensures.part c.in_default.ensures.items;
  no_fall = search rules;
  same = search rules;
}
