use denote.Param.Send.{sendable}
use Rattle.nt_design.proofs.Crosses.{design_send, design_sync}
use Rattle.nt_design.proofs.shared.design_is_shared.Goals as goal

pub is_shared-requires-send-T : goal.is_shared-requires-send-T
is_shared-requires-send-T c κs = search (sendable, design_send)

pub is_shared-requires-sync-T : goal.is_shared-requires-sync-T
is_shared-requires-sync-T c κs = search (sendable, design_sync)
