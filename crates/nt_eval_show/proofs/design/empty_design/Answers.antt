use Rattle.std.proofs.Common.{refl, arith}
use Rattle.nt_eval_show.proofs.Empty.{is_nothing}
use Rattle.nt_eval_show.proofs.design.empty_design.Goals as goal

pub returns-clause-design : goal.returns-clause-design
returns-clause-design c =
    is_nothing _ (omega arith) _ refl c.new.ensures c.new-2.ensures c.new-3.ensures c.new-4.ensures c.new-5.ensures c.new-6.ensures
