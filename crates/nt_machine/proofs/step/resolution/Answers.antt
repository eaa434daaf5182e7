use Rattle.nt_machine.proofs.Steps.{driver_value}
use Rattle.nt_machine.proofs.step.resolution.Goals as goal

pub returns-in_ok-value-in-len1-up : goal.returns-in_ok-value-in-len1-up
returns-in_ok-value-in-len1-up c =
    λ d. rw c.in_ok-value-in-len1-up.ensures (driver_value d _ _ _ _ _ c.driver_at.result c.slot_at.result.now c.requires.kind c.in-len1-up.len_at_least c.driver_at.ensures c.slot_at.ensures)
