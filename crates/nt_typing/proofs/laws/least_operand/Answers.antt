use Rattle.nt_typing.proofs.Least.{refuse_missing}
use Rattle.nt_typing.proofs.LeastTo.{refuse_base, refuse_flowing, refuse_inconstant, refuse_unmet, refuse_going}
use Rattle.nt_typing.proofs.laws.least_operand.Goals as goal

pub returns : goal.returns
returns c = record {
  missing = λ s x h b e. refuse_missing x h b e;
  base_faulty = λ s x r h. refuse_base x r h;
  base_missing = λ s x l w b. refuse_flowing x l w b;
  inconstant = λ s n x r c h. refuse_inconstant n x r c h;
  unmet = λ s n x v c u m. refuse_unmet n x v c u m;
  going = λ s k x r h. refuse_going k x r h;
}
