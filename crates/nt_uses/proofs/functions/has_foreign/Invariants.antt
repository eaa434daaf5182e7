use Rattle.std.proofs.Common.{◌≡◌, drop}
use Rattle.std.specs.List.{list_any}
use Rattle.nt_types.specs.Opened.{view_of}
use Rattle.nt_uses.specs.Functions.{is_foreign}
use Rattle.nt_uses.proofs.functions.has_foreign.Given as goal

abbrev pub invariant-loop-used : goal.invariant-loop-used
invariant-loop-used l = list_any (is_foreign (view_of l.scopes).whats) l.uses ≡ list_any (is_foreign (view_of l.scopes).whats) (drop l.used-index l.uses)
