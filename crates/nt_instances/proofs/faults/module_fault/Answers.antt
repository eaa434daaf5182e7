use Rattle.std.proofs.Common.{sym, ◌∙◌}
use Rattle.nt_instances.proofs.Faulting.{module_none, module_open, module_closed}
use Rattle.nt_instances.proofs.faults.module_fault.Goals as goal

pub returns-in-None : goal.returns-in-None
returns-in-None c = module_none _ _ _ c.in-None.is

pub returns-then-is_open : goal.returns-then-is_open
returns-then-is_open c = module_open _ _ _ c.in-Some.definition c.in-Some.is (sym c.is_open.ensures ∙ c.if-is_open.true)

pub returns-else-is_open : goal.returns-else-is_open
returns-else-is_open c = module_closed _ _ _ c.in-Some.definition c.in-Some.is (sym c.is_open.ensures ∙ c.if-is_open.false)
