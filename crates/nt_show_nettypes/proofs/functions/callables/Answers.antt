use Rattle.std.proofs.Common.{sym, subst}
use Rattle.std.specs.Prelude.{All}
use Rattle.std.proofs.lemmas.List.Elements.{All-push}
use Rattle.nt_nettype.specs.Resolvers.{IsWithin}
use Rattle.nt_show_nettypes.proofs.functions.callables.Goals as goal

pub loop-k-preserved : goal.loop-k-preserved
loop-k-preserved c = subst (λ fs. All IsWithin fs) (sym c.in_ok-add.ensures) (All-push IsWithin c.loop-k.all.items c.in_ok-function.function c.loop-k.invariant c.in_ok-function.ensures)
