use Rattle.std.proofs.Common.{◌≡◌, drop}
use Rattle.std.specs.List.{list_any}
use Rattle.nt_uses.specs.Functions.{is_write}
use Rattle.nt_uses.proofs.functions.has_write.Given as goal

abbrev pub invariant-loop-used : goal.invariant-loop-used
invariant-loop-used l = list_any (is_write l.item) l.uses ≡ list_any (is_write l.item) (drop l.used-index l.uses)
