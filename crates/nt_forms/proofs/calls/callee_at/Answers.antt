use Rattle.std.proofs.Common.{Bor}
use Rattle.nt_typing.specs.declared.scope.Callable.{Callable}
use Rattle.nt_forms.proofs.Finishing.{calls_err}
use Rattle.nt_forms.proofs.calls.callee_at.Goals as goal

pub returns-in-Err : goal.returns-in-Err
returns-in-Err c = calls_err {A = Bor Callable} (λ f. f.now) c.args.scope.now c.args.at c.args.path.now c.args.args.now c.in-Err.unfit c.fault_at.result c.fault_at.ensures c.in-Err.ensures
