use Rattle.nt_named_types.specs.Judged.{a_constant, a_function, a_nettype, an_other}
use Rattle.nt_named_types.proofs.Judging.{type_judged, fault_judged}
use Rattle.nt_named_types.proofs.judge.judged.Goals as goal

pub returns-in-Ok-clause-seen : goal.returns-in-Ok-clause-seen
returns-in-Ok-clause-seen c = type_judged c.in-Type.is c.get.ensures c.as_slice.ensures c.in-Ok.ensures

pub returns-in-Err-Refused-clause-seen : goal.returns-in-Err-Refused-clause-seen
returns-in-Err-Refused-clause-seen c = fault_judged c.in-Type.is c.get.ensures c.as_slice.ensures c.in-Err-Refused.field-0-is c.in-Err-Refused.ensures

pub returns-in-Constant-clause-seen : goal.returns-in-Constant-clause-seen
returns-in-Constant-clause-seen c = rw c.in-Constant.is (a_constant _)

pub returns-in-Other-clause-seen : goal.returns-in-Other-clause-seen
returns-in-Other-clause-seen c = rw c.in-Other.is an_other

pub returns-in-Function-clause-seen : goal.returns-in-Function-clause-seen
returns-in-Function-clause-seen c = rw c.in-Function.is (a_function _)

pub returns-in-Nettype-clause-seen : goal.returns-in-Nettype-clause-seen
returns-in-Nettype-clause-seen c = rw c.in-Nettype.is (a_nettype _)
