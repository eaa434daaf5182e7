use Rattle.nt_typing.proofs.LeastTo.{refuse_faulty, refuse_no_leaf, refuse_unlike, refuse_no_value, refuse_unplanned, refuse_item}
use Rattle.nt_typing.proofs.laws.least_to.Goals as goal

pub returns : goal.returns
returns c = record {
  faulty = λ s x k r p h. refuse_faulty x k r p h;
  no_leaf = λ s x k l e b. refuse_no_leaf x k l e b;
  unlike = λ s x k h b e g m. refuse_unlike x k h b e g m;
  no_value = λ s x k h to b e g. refuse_no_value x k h to b e g;
  unplanned = λ s k at items n. refuse_unplanned k at items n;
  item = λ s k at items plan r n h. refuse_item k at items plan r n h;
}
