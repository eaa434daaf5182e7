use Rattle.nt_typed_stmts.proofs.Behaving.{behaves}
use Rattle.nt_typed_stmts.proofs.Fitting.{serves_inner, statement_fits}
use Rattle.nt_typed_stmts.proofs.laws.statements_fit.Goals as goal

pub returns : goal.returns
returns c = record {
  shapes = λ w d x a h g. statement_fits d (serves_inner d x h) g;
  no_net = λ w x a g. (behaves g).no_net;
  no_timing = λ w x a e g. (behaves g).no_timing e;
  no_nonblocking = λ w x a e g. (behaves g).no_nonblocking e;
  no_loop_left = λ w x a e g. (behaves g).no_loop_left e;
  no_return = λ w x a e g. (behaves g).no_return e;
}
