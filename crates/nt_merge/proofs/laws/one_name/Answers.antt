use Rattle.nt_merge.proofs.Naming.{one_class, same_class, only_classes}
use Rattle.nt_merge.proofs.laws.one_name.Goals as goal

pub returns-clause-same : goal.returns-clause-same
returns-clause-same c = λ n links list h a b la lb. (same_class h a b la lb, one_class h a b la lb)

pub returns-clause-one : goal.returns-clause-one
returns-clause-one c = λ n links list other h i. only_classes h i
